-- `is_named` meets its contract: no clock passed is by Swi i, so one that is by it is found, or none is.
use Rattle.rules.specs.Tables.{clock_count}
use Rattle.swis.proofs.Steps.{not_by, named_here, named-not}
use Rattle.basics.proofs.Finds.{all_none, all_end}
use Rattle.rules.specs.Swis.{is_named}
use Rattle.std.proofs.Common.{not, sym, ap}
use Rattle.swis.proofs.table.is_named.Goals as goal

pub loop-n-init : goal.loop-n-init
loop-n-init c = all_none _

pub returns-then-k-i : goal.returns-then-k-i
returns-then-k-i c =
    named_here c.args.clocks.now c.args.i c.loop-n.n c.clock-k.ensures c.loop-n-test.true c.if-k-i.true

pub loop-n-preserved : goal.loop-n-preserved
loop-n-preserved c =
    named-not c.args.clocks.now c.args.i c.loop-n.n c.clock-k.ensures c.if-k-i.false c.loop-n.invariant

pub returns : goal.returns
unfolding is_named
returns c =
    ap not (all_end (not_by c.args.clocks.now c.args.i) c.loop-n.n clock_count c.loop-n.auto.n-end c.loop-n-test.false (sym c.loop-n.invariant))
