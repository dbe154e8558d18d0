-- `is_active` meets its contract: of those passed none is i, so one who is i is found, or nobody in the line is.
use Rattle.swis.proofs.Steps.{active-here, active-not, active-none}
use Rattle.swis.proofs.table.is_active.Goals as goal

pub returns-then-member-i : goal.returns-then-member-i
returns-then-member-i c =
    active-here c.args.lines.now c.args.i c.loop-k.k c.len-n.ensures c.loop-k-test.true c.member.ensures c.if-member-i.true

pub loop-k-preserved : goal.loop-k-preserved
loop-k-preserved c =
    active-not c.args.lines.now c.args.i c.loop-k.k c.len-n.ensures c.loop-k-test.true c.member.ensures c.if-member-i.false
    c.loop-k.invariant

pub returns : goal.returns
returns c =
    active-none c.args.lines.now c.args.i c.loop-k.k c.len-n.ensures c.loop-k-test.false c.loop-k.invariant
