-- `mark` meets its contract: k units are marked so far, at the end all n; what does not fit in the heap is not marked.
use Rattle.heap.proofs.BlockUnits.{marked_more}
use Rattle.heap.proofs.blocks.mark.Goals as goal

pub loop-k-preserved : goal.loop-k-preserved
loop-k-preserved c = marked_more _ _ _ _ _ c.loop-k-test.true c.loop-k.invariant
