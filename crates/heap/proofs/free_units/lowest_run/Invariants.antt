-- `lowest_run` meets its contract: no run begins before u, so the next free place has the lowest, or there is none.
use Rattle.rules.specs.Tables.{heap_units}
use Prim.Native.Nat.{◌-◌}
use Rattle.heap.proofs.Runs.{NoRun}
use Rattle.heap.proofs.free_units.lowest_run.Given as goal

abbrev pub invariant-loop-u : goal.invariant-loop-u
invariant-loop-u l = NoRun l.heap l.n l.u

abbrev pub decreases-loop-u : goal.decreases-loop-u
decreases-loop-u l = heap_units - l.u
