-- `put_object` meets its contract: the number, and then the words.
use Rattle.trace_changes.proofs.Telling.{tells_more}
use Rattle.trace_objects.proofs.put_object.Goals as goal

pub returns : goal.returns
returns c = tells_more _ _ c.put-p.ensures c.put_row.ensures
