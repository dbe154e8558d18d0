-- `put_lined_if_changed` meets its contract: a row that is the same with its line is not told.
use Rattle.trace_changes.proofs.Telling.{tells_more}
use Rattle.trace_changes.proofs.Steps.{told-changed, told_same, both}
use Rattle.trace_objects.proofs.put_lined_if_changed.Goals as goal

pub returns-then-same_row-same_line : goal.returns-then-same_row-same_line
returns-then-same_row-same_line c =
    told_same (both c.same_row.ensures c.same_line.ensures) _ c.if-same_row-same_line.true

pub returns : goal.returns
returns c =
    told-changed (both c.same_row.ensures c.same_line.ensures) _ c.if-same_row-same_line.false
    (tells_more _ _ c.put_object-p.ensures c.put_waiting.ensures)
