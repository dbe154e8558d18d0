-- `tasks_tick` meets its contract: each turn is eight steps more in rising number, four turns all the tasks.
use Rattle.std.proofs.Common.{sym}
use Rattle.switches.proofs.Still.{eight-more}
use Rattle.basics.proofs.Finds.{rising_none}
use Rattle.rules.specs.Lines.{task_queues}
use Rattle.rules.specs.Tick.{task_tick}
use Rattle.switches.proofs.ticking.tasks_tick.Goals as goal

pub loop-g-init : goal.loop-g-init
loop-g-init c = sym (rising_none task_tick (task_queues c.args.tasks.now c.args.lines.now))

pub loop-g-preserved : goal.loop-g-preserved
loop-g-preserved c =
    eight-more task_tick (task_queues c.args.tasks.now c.args.lines.now) c.loop-g.g c.loop-g.invariant c.eight_tick.ensures
