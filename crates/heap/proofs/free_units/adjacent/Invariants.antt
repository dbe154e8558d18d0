-- `adjacent` meets its contract: all units passed are the entry, so they are counted up to the first that is not, or to the end.
use Rattle.heap.proofs.Runs.{Counted}
use Rattle.heap.proofs.free_units.adjacent.Given as goal

abbrev pub invariant-loop-k : goal.invariant-loop-k
invariant-loop-k l = Counted l.heap l.u l.n l.entry l.k
