-- `put_if_changed` meets its contract: a task that is the same is not told.
use Rattle.trace_changes.proofs.Steps.{told_same}
use Rattle.trace_threads.proofs.put_if_changed.Goals as goal

pub returns-then-same_task : goal.returns-then-same_task
returns-then-same_task c =
    told_same (rw (c.task.ensures, c.task-k.ensures) at c.same_task.ensures) _ c.if-same_task.true
