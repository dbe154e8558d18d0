-- `put_if_changed` meets its contract: a row that is the same is not told.
use Rattle.trace_changes.proofs.Steps.{told_same}
use Rattle.trace_objects.proofs.put_if_changed.Goals as goal

pub returns-then-same_row : goal.returns-then-same_row
returns-then-same_row c = told_same c.same_row.ensures _ c.if-same_row.true
