-- `put_task` meets its contract: the number, and then the words.
use Rattle.trace_changes.specs.Changes.{task_numbers}
use Rattle.trace_changes.proofs.Telling.{tells_more}
use Rattle.trace_threads.proofs.put_task.Goals as goal

pub returns : goal.returns
unfolding task_numbers
returns c = tells_more _ _ c.put-p.ensures c.put_words.ensures
