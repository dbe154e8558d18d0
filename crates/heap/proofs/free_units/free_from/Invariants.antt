-- `free_from` meets its contract: from the end back all units are free, to the first that is not.
use Rattle.heap.proofs.Runs.{FreeTo}
use Rattle.heap.proofs.free_units.free_from.Given as goal

abbrev pub invariant-loop-p : goal.invariant-loop-p
invariant-loop-p l = FreeTo l.heap l.end l.p
