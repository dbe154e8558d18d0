-- `mark` meets its contract: k units are marked so far, at the end all n; what does not fit in the heap is not marked.
use Rattle.heap.proofs.BlockUnits.{Marked}
use Rattle.heap.proofs.blocks.mark.Given as goal

abbrev pub invariant-loop-k : goal.invariant-loop-k
invariant-loop-k l = Marked l.initial.heap l.u l.n l.later l.k l.heap
