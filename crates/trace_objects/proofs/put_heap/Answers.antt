-- `put_heap` meets its contract: a heap that changed is told by its blocks and its units.
use Rattle.trace_changes.specs.Changes.{changed_heap}
use Rattle.trace_changes.proofs.Telling.{tells_more}
use Rattle.trace_changes.proofs.Steps.{told-changed, told_same}
use Rattle.trace_objects.proofs.put_heap.Goals as goal

pub returns-then-same_heap : goal.returns-then-same_heap
unfolding changed_heap
returns-then-same_heap c = told_same c.same_heap.ensures _ c.if-same_heap.true

pub returns : goal.returns
unfolding changed_heap
returns c =
    told-changed c.same_heap.ensures _ c.if-same_heap.false
    (tells_more _ _ (rw c.count_units-blocks.ensures.0 at c.put-p.ensures)
    (rw (c.count_units-blocks.ensures.0, c.count_units.ensures.0) at c.put.ensures))
