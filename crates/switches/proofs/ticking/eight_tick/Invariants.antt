-- `eight_tick` meets its contract: with no ticks left among the eight nothing changes; else each task's tick is one step more.
use Rattle.std.proofs.Common.{◌≡◌, ℕ, ◌+◌, ◌*◌}
use Rattle.basics.specs.Find.{rising}
use Rattle.rules.specs.Lines.{TaskQueues, task_queues}
use Rattle.rules.specs.Tick.{task_tick}
use Rattle.switches.proofs.ticking.eight_tick.Given as goal

abbrev pub from : ℕ → TaskQueues → ℕ → TaskQueues
from g q k = task_tick q (g * 8 + k)

abbrev pub invariant-loop-k : goal.invariant-loop-k
invariant-loop-k l = task_queues l.tasks l.lines ≡ rising l.k (from l.g) (task_queues l.initial.tasks l.initial.lines)
