-- `clocks_tick` meets its contract: with no ticks left anywhere nothing changes; else each clock's tick is one step more in rising number.
use Rattle.std.proofs.Common.{sym, refl}
use Rattle.switches.proofs.Still.{still-stays, clock-still}
use Rattle.switches.proofs.Ticks.{one_more}
use Rattle.basics.proofs.Finds.{rising_none}
use Rattle.rules.specs.Tables.{clock_count, clock}
use Rattle.rules.specs.Tick.{clock_tables, clock_tick}
use Rattle.switches.proofs.ticking.clocks_tick.Goals as goal

pub returns-then-clocks_still : goal.returns-then-clocks_still
returns-then-clocks_still c =
    still-stays (λ n. (clock c.args.clocks.now n).left) clock_tick (clock_tables c.args.clocks.now c.args.swis.now c.args.lines.now) clock_count
    (λ n z. clock-still c.args.clocks.now c.args.swis.now c.args.lines.now n refl z) c.clocks_still.ensures c.if-clocks_still.true

pub loop-n-init : goal.loop-n-init
loop-n-init c =
    sym (rising_none clock_tick (clock_tables c.args.clocks.now c.args.swis.now c.args.lines.now))

pub loop-n-preserved : goal.loop-n-preserved
loop-n-preserved c =
    one_more clock_tick (clock_tables c.args.clocks.now c.args.swis.now c.args.lines.now) c.loop-n.n c.loop-n.invariant c.clock_tick.ensures
