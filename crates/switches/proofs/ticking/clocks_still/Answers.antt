-- `clocks_still` meets its contract: the ticks left of the clocks passed, put together, are 0 where each is.
use Rattle.switches.proofs.Still.{still-none, still-more}
use Rattle.rules.specs.Tables.{clock}
use Rattle.switches.proofs.ticking.clocks_still.Invariants.{ticks}
use Rattle.switches.proofs.ticking.clocks_still.Goals as goal

pub loop-n-init : goal.loop-n-init
unfolding clock
loop-n-init c = still-none (ticks c.args.clocks.now)

pub loop-n-preserved : goal.loop-n-preserved
unfolding clock
loop-n-preserved c =
    still-more (ticks c.args.clocks.now) c.loop-n.n c.loop-n.left c.loop-n.invariant c.clock_word-left.ensures
