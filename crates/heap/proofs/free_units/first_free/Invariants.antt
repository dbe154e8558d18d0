-- `first_free` meets its contract: no unit passed is free; four are tried a turn, and the last few one by one.
use Rattle.rules.specs.Tables.{heap_units}
use Prim.Native.Nat.{◌-◌}
use mathlib.Core.Path.{◌≡◌}
use Rattle.heap.specs.Free.{first_free}
use Rattle.heap.proofs.free_units.first_free.Given as goal

abbrev pub invariant-loop-u : goal.invariant-loop-u
invariant-loop-u l = first_free l.heap l.u ≡ first_free l.heap l.from

abbrev pub decreases-loop-u : goal.decreases-loop-u
decreases-loop-u l = heap_units - l.u
