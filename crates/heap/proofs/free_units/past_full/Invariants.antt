-- `past_full` meets its contract: sixteen units that are all taken hold no free one, so the first free one from behind them is the same.
use Rattle.rules.specs.Tables.{heap_units}
use Prim.Native.Nat.{◌-◌}
use mathlib.Core.Path.{◌≡◌}
use Rattle.heap.specs.Free.{first_free}
use Rattle.heap.proofs.free_units.past_full.Given as goal

abbrev pub invariant-loop-u : goal.invariant-loop-u
invariant-loop-u l = first_free l.heap l.u ≡ first_free l.heap l.from

abbrev pub decreases-loop-u : goal.decreases-loop-u
decreases-loop-u l = heap_units - l.u
