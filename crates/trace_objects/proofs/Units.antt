-- The heap's units, looked at one by one, are the entries of its map: as many have an entry, and two maps are the same where the units are.
use Prim.Native.Nat.{ℕ, zero, suc, ◌+◌, ◌≤◌, ◌<◌}
use mathlib.Core.Path.{◌≡◌, refl, sym, ap, ◌∙◌}
use mathlib.Core.Bool.{Bool, true, false}
use mathlib.Core.List.{List}
use native.Mathlib.Numerals.{add-one}
use native.Mathlib.Omega.{arith}
use lib.Dec.{eqb}
use lib.ListN.{length, take, get_or}
use lib.Seq.{take_all}
use borrow.Author.Tests.{lt-ltb, eq-eqb}
use Rattle.std.proofs.lemmas.Bool.{eqb-true}
use Rattle.std.specs.List.{count_by}
use Rattle.std.proofs.lemmas.List.Sums.{count_by_more_no, count_by_more_yes}
use lib.Pointwise.{pointwise}
use native.Mathlib.Nat.{add-zero}
use Rattle.std.proofs.lemmas.Grind.{same_number_lists}
use Rattle.std.proofs.lemmas.Bool.Decides.{Decides-eqb, same_from_decides}
use Rattle.std.proofs.lemmas.Slice.Eq.{slice_eq-Decides}
use Rattle.basics.proofs.Finds.{all-at, all-make}
use Rattle.basics.specs.Lists.{bit}
use Rattle.rules.specs.Tables.{heap_units}
use Rattle.rules.specs.Heap.{unit}
use Rattle.trace_changes.specs.Numbers.{count_below}
use Rattle.trace_changes.specs.Changes.{units_with, same_heap}

unit-is : (h : List ℕ) (u : ℕ) → u < heap_units → unit h u ≡ get_or h u 0
unit-is h u l = rw (lt-ltb u heap_units l)

count_front : (p : ℕ → Bool) (f : ℕ → Bool) (xs : List ℕ) (n : ℕ) → n ≤ length xs → ((k : ℕ) → k < n → f k ≡ p (get_or xs k 0))
    → count_by p (take n xs) ≡ count_below n f
unfolding count_below
count_front p f xs zero h e = refl
count_front p f xs (suc n) h e = rw (e n (omega arith), ← count_front p f xs n (omega arith) (λ k l. e k (omega arith))) (go (p (get_or xs n 0)) refl)
  where
    go : (b : Bool) → p (get_or xs n 0) ≡ b → count_by p (take (suc n) xs) ≡ count_by p (take n xs) + bit b
    go true q = rw add-one at (count_by_more_yes p xs n 0 h q)
    go false q = rw add-one at (count_by_more_no p xs n 0 h q) ∙ sym (add-zero _)

module _ (h : List ℕ) (s : length h ≡ heap_units) where
  pub units-counted : (e : ℕ) → count_by (λ x. eqb x e) h ≡ units_with e h
  unfolding units_with
  units-counted e =
      ap (count_by (λ x. eqb x e)) (sym (take_all heap_units h (omega arith)))
      ∙ count_front (λ x. eqb x e) (λ u. eqb (unit h u) e) h heap_units (omega arith) (λ k l. ap (λ x. eqb x e) (unit-is h k l))

  pub units-same : (k : List ℕ) (r : Bool) → length k ≡ heap_units → r ≡ pointwise eqb h k → r ≡ same_heap h k
  unfolding same_heap
  units-same k r t e =
      same_from_decides r _ (slice_eq-Decides Decides-eqb h k r e) (
        λ p. same_number_lists h k (s ∙ sym t) (λ u l. sym (unit-is h u (omega arith)) ∙ eqb-true _ _ (all-at _ heap_units p u (omega arith)) ∙ unit-is k u (omega arith)),
        λ q. rw q (all-make _ heap_units (λ u l. eq-eqb _ _ refl)),
      )
