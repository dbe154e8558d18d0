-- Free units and adjacent ones, as the search for a run and the measure of a block look for them.
use Rattle.std.specs.Prelude.{ℕ, ◌+◌, ◌-◌, min, max, Bool, not, eqb}
use Rattle.basics.specs.Find.{all_below, first_below, first_from, highest_below}
use Rattle.rules.specs.Tables.{HeapMap, heap_units}
use Rattle.rules.specs.Heap.{unit, free}

abbrev pub is_free : HeapMap → ℕ → Bool
is_free h u = eqb (unit h u) free

-- of the 16 units from u on none; a unit past the heap's end counts as free
unfoldable pub none_free : HeapMap → ℕ → Bool
none_free h u = all_below 16 (λ k. not (is_free h (u + k)))

-- the first from u on, which is at most 256; 256 where there is none
unfoldable pub first_free : HeapMap → ℕ → ℕ
first_free h u = first_from u (heap_units - u) (is_free h)

-- the lowest place from u on from which all units before e are free
unfoldable pub free_from : HeapMap → ℕ → ℕ → ℕ
free_from h u e = max u (highest_below e (λ j. not (is_free h j)))

-- how many adjacent units from u on have entry e, n at most
unfoldable pub adjacent : HeapMap → ℕ → ℕ → ℕ → ℕ
adjacent h u n e = first_below (min n (heap_units - u)) (λ k. not (eqb (unit h (u + k)) e))
