-- The bytes from a place on, of the first n of a part, copied to its front.
use Rattle.std.proofs.Common.{◌≡◌, ℕ, ◌+◌, ◌-◌, ◌<◌, ◌≤◌, min, List, [], length, take, drop, sym, refl, ◌∙◌, arith, length-drop, length-take, take_all, ⊎_elim}
use Rattle.std.proofs.lemmas.List.{drop-take}
use Rattle.std.proofs.Math.Seq.{paste}
use lib.Seq.{sets, sets-eq}
use Rattle.basics.proofs.Laws.{lt-or-le, no_length}

module _ (xs : List ℕ) (at n : ℕ) {end : ℕ} (end_is : end ≡ min n (length xs)) where
  rest-length : length (drop at (take n xs)) ≡ end - at
  rest-length = omega (arith, length-drop at (take n xs), length-take n xs)

  -- there are none
  pub moved_none : end ≤ at → (xs ≡ sets xs 0 (drop at (take n xs))) × (0 ≡ length (drop at (take n xs)))
  moved_none h =
      let e : drop at (take n xs) ≡ [] = no_length (drop at (take n xs)) (omega (arith, rest-length)) in rw e (refl, refl)

  -- they are copied
  first-are : take n xs ≡ take end xs
  first-are =
      ⊎_elim
      (λ (h : n < length xs). let e : end ≡ n = omega arith in rw e)
      (λ (h : length xs ≤ n). take_all n xs h ∙ sym (take_all end xs (omega arith)))
      (lt-or-le n (length xs))

  pub moved : at < end → (paste xs 0 (drop at xs) (end - at) ≡ sets xs 0 (drop at (take n xs))) × (end - at ≡ length (drop at (take n xs)))
  moved h =
      let whole : at + (end - at) ≡ end = omega arith in
      let same : drop at (take n xs) ≡ take (end - at) (drop at xs) = rw first-are (rw whole at (drop-take at (end - at) xs)) in
      let stored = sets-eq (drop at (take n xs)) xs 0 (omega (arith, rest-length)) in
      (rw (stored, rest-length, same) refl, sym rest-length)
