-- 01, 'Heap': calls 60 and 61. "One heap of 256 units of 8 bytes, kept as a map with one entry for each unit."
use Rattle.std.specs.Prelude.{ℕ, suc, ◌+◌, ◌*◌, ◌-◌, ◌/◌, ◌%◌, Bool, not, ◌&&◌, ◌||◌, cond as if, List, ◌∷◌, eqb, ltb, leb, length, get_or, replicate}
use Rattle.std.proofs.lemmas.List.Edits.{sets}
use Rattle.rules.specs.Tables.{HeapMap, heap_units, unit_bytes}
use Rattle.basics.specs.Lists.{zeros}
use Rattle.basics.specs.Find.{all_below, first_below}
use Rattle.rules.specs.Answer.{Cases, given, never, CallRule, called, Effect, accepted, unknown, done, not_t, unused}

-- "A heap entry is free, first of a block or later in one"
abbrev pub free : ℕ
free = 0

abbrev pub first_of : ℕ
first_of = 1

abbrev pub later_in : ℕ
later_in = 2

-- the entry of unit u, free past the heap's end, where `is_run` lets nothing be had and `with_units` changes nothing
abbrev pub unit : HeapMap → ℕ → ℕ
unit h u = if (ltb u heap_units) (get_or h u 0) free

abbrev pub with_units : HeapMap → ℕ → List ℕ → HeapMap
with_units h u es = if (leb (u + length es) heap_units) (sets h u es) h

-- "rounded up to units"
abbrev pub units_of : ℕ → ℕ
units_of bytes = (bytes + (unit_bytes - 1)) / unit_bytes

-- n adjacent free units from unit u on
unfoldable pub is_run : HeapMap → ℕ → ℕ → Bool
is_run h n u = leb (u + n) heap_units && all_below n (λ k. eqb (unit h (u + k)) free)

-- "the lowest run long enough"; 256 where there is none
unfoldable pub lowest_run : HeapMap → ℕ → ℕ
lowest_run h n = first_below heap_units (is_run h n)

-- the units of the block whose first is u: it, and those that follow as later ones
unfoldable pub block_size : HeapMap → ℕ → ℕ
block_size h u = suc (first_below (heap_units - suc u) (λ k. not (eqb (unit h (suc u + k)) later_in)))

-- ---- "60 take (bytes 1 to 2,048; T): .. value the byte offset of the lowest run long enough; 8 exactly if no run of that many adjacent free
-- units exists."
unfoldable pub take_cases : HeapMap → ℕ → ℕ → ℕ → ℕ → ℕ → Cases
take_cases h x bytes b c d =
    given 2 (not_t x)
    (given 4 (eqb bytes 0 || not (leb bytes (heap_units * unit_bytes)) || unused 0 b c d)
    (given 8 (eqb (lowest_run h (units_of bytes)) heap_units) never))

unfoldable pub take_effect : HeapMap → ℕ → Effect HeapMap
take_effect h bytes =
    accepted done (lowest_run h (units_of bytes) * unit_bytes)
    (with_units h (lowest_run h (units_of bytes)) (first_of ∷ replicate (units_of bytes - 1) later_in))

abbrev pub take_call : HeapMap → ℕ → ℕ → ℕ → ℕ → ℕ → CallRule HeapMap
take_call h x a b c d = called (take_cases h x a b c d) (take_effect h a)

-- ---- "61 give back (offset, bytes; T): a live block's start, and bytes that round up to its size, else 4. Freed units are free for 60."
unfoldable pub is_block : HeapMap → ℕ → ℕ → Bool
is_block h offset bytes =
    eqb (offset % unit_bytes) 0 && eqb (unit h (offset / unit_bytes)) first_of && eqb (units_of bytes) (block_size h (offset / unit_bytes))

unfoldable pub give_cases : HeapMap → ℕ → ℕ → ℕ → ℕ → ℕ → Cases
give_cases h x offset bytes c d = given 2 (not_t x) (given 4 (not (is_block h offset bytes) || unused 0 0 c d) never)

unfoldable pub give_effect : HeapMap → ℕ → Effect HeapMap
give_effect h offset = accepted done 0 (with_units h (offset / unit_bytes) (zeros (block_size h (offset / unit_bytes))))

abbrev pub give_call : HeapMap → ℕ → ℕ → ℕ → ℕ → ℕ → CallRule HeapMap
give_call h x a b c d = called (give_cases h x a b c d) (give_effect h a)

-- ---- the calls by number
unfoldable pub heap_call : HeapMap → ℕ → ℕ → ℕ → ℕ → ℕ → ℕ → CallRule HeapMap
heap_call h x number a b c d =
    if (eqb number 0x60) (take_call h x a b c d)
    (if (eqb number 0x61) (give_call h x a b c d) (unknown h))
