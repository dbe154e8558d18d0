-- `eight_still` meets its contract: the ticks left of the tasks passed, put together, are 0 where each is.
use Rattle.switches.proofs.Still.{still-none, still-more}
use Rattle.rules.specs.Tables.{task}
use Rattle.switches.proofs.ticking.eight_still.Invariants.{ticks}
use Rattle.switches.proofs.ticking.eight_still.Goals as goal

pub loop-k-init : goal.loop-k-init
unfolding task
loop-k-init c = still-none (ticks c.args.tasks.now c.args.g)

pub loop-k-preserved : goal.loop-k-preserved
unfolding task
loop-k-preserved c =
    still-more (ticks c.args.tasks.now c.args.g) c.loop-k.k c.loop-k.left c.loop-k.invariant c.task_word-left.ensures
