-- `tasks_tick` meets its contract: each turn is eight steps more in rising number, four turns all the tasks.
use Rattle.std.proofs.Common.{◌≡◌, ◌*◌}
use Rattle.basics.specs.Find.{rising}
use Rattle.rules.specs.Lines.{task_queues}
use Rattle.rules.specs.Tick.{task_tick}
use Rattle.switches.proofs.ticking.tasks_tick.Given as goal

abbrev pub invariant-loop-g : goal.invariant-loop-g
invariant-loop-g l = task_queues l.tasks l.lines ≡ rising (l.g * 8) task_tick (task_queues l.initial.tasks l.initial.lines)
