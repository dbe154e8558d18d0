-- `none_free` meets its contract: after k turns it tells whether the first k units are taken, after sixteen that is the answer; past the last sixteen it is false.
use Rattle.heap.proofs.Runs.{Taken}
use Rattle.heap.proofs.free_units.none_free.Given as goal

abbrev pub invariant-loop-k : goal.invariant-loop-k
invariant-loop-k l = Taken l.heap l.u l.k l.none
