-- 01, 'Heap': "rounded up to units" of 8 bytes, on both sides of each step.
use mathlib.Core.Path.{◌≡◌, refl}
use Prim.Native.Nat.{◌*◌}
use Rattle.rules.specs.Tables.{heap_units, unit_bytes}
use Rattle.rules.specs.Heap.{units_of}

pub record Rounded : Type 0 where
  pub one : units_of 1 ≡ 1
  pub eight : units_of 8 ≡ 1
  pub nine : units_of 9 ≡ 2
  pub all : units_of (heap_units * unit_bytes) ≡ heap_units

pub rounded : Rounded
rounded = record { one = refl; eight = refl; nine = refl; all = refl }
