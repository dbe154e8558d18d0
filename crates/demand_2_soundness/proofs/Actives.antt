-- Lists whose members rise strictly in some measure, as the active Swis do in priority: how many there are, and the last one comes and goes.
use Prim.Native.Nat.{ℕ, zero, suc, ◌-◌, ◌≤◌, ◌<◌}
use mathlib.Core.Path.{◌≡◌, refl, sym, ap, ◌∙◌}
use mathlib.Core.Logic.{◌≢◌, ⊎_elim}
use mathlib.Core.List.{List, [], ◌∷◌, ◌++◌, append-nil}
use native.Mathlib.Omega.{arith}
use borrow.Author.Tests.{eq-eqb}
use lib.ListN.{length, take, get_or, get_or-append}
use lib.Seq.{length-take-le, take_all, take-suc, get_or-take, get_or_at}
use Rattle.basics.specs.Lists.{count, without}
use Rattle.basics.proofs.Laws.{lt-or-le, without-append, without-absent}
use Rattle.rules_laws.proofs.InPlace.{length-snoc}
use Rattle.demand_2_soundness.proofs.Members.{of-member}

-- ---- members
pub no_member : (xs : List ℕ) (x : ℕ) → ((k : ℕ) → k < length xs → get_or xs k 0 ≢ x) → count x xs ≡ 0
no_member xs x all = let g : 0 < count x xs → ⊥ = λ h. of-member (λ y. y ≢ x) xs all x h refl in omega arith

-- one more who has it
pub every_more : (P : ℕ → Type 0) (xs : List ℕ) (x : ℕ) → ((k : ℕ) → k < length xs → P (get_or xs k 0)) → P x
    → (k : ℕ) → k < length (xs ++ (x ∷ [])) → P (get_or (xs ++ (x ∷ [])) k 0)
every_more P xs x all here k h =
    let n = length-snoc xs x in
    ⊎_elim
    (λ (p : k < length xs). rw (get_or-append xs (x ∷ []) 0 k p) (all k p))
    (λ (p : length xs ≤ k). let e : length xs ≡ k = omega arith in rw (get_or_at xs x [] 0 k e) here)
    (lt-or-le k (length xs))

-- those in front
pub every_take : (P : ℕ → Type 0) (xs : List ℕ) (n : ℕ) → n ≤ length xs → ((k : ℕ) → k < length xs → P (get_or xs k 0))
    → (k : ℕ) → k < length (take n xs) → P (get_or (take n xs) k 0)
every_take P xs n le all k h =
    let e : length (take n xs) ≡ n = length-take-le n xs le in
    rw (get_or-take n xs k 0 (omega arith)) (all k (omega arith))

-- ---- rising strictly
abbrev pub Rises : (ℕ → ℕ) → List ℕ → Type 0
Rises f xs = (k : ℕ) → k < length xs - 1 → f (get_or xs k 0) < f (get_or xs (suc k) 0)

module _ (f : ℕ → ℕ) (xs : List ℕ) (r : Rises f xs) where
  -- who stands further on has more
  pub rises-apart : (i j : ℕ) → i < j → j < length xs → f (get_or xs i 0) < f (get_or xs j 0)
  rises-apart i zero l h = absurd (omega arith)
  rises-apart i (suc j) l h =
      let step = r j (omega arith) in
      ⊎_elim
      (λ (p : i < j). omega (arith, rises-apart i j p (omega arith)))
      (λ (p : j ≤ i). let e : i ≡ j = omega arith in rw e step)
      (lt-or-le i j)

  place-le : (k : ℕ) → k < length xs → k ≤ f (get_or xs k 0)
  place-le zero h = omega arith
  place-le (suc k) h = omega (arith, place-le k (omega arith), r k (omega arith))

  -- at most n where the measure is below n
  pub rises-most : (n : ℕ) → ((k : ℕ) → k < length xs → f (get_or xs k 0) < n) → length xs ≤ n
  rises-most n low =
      ⊎_elim
      (λ (p : 0 < length xs).
      let h : length xs - 1 < length xs = omega arith in
      omega (arith, place-le (length xs - 1) h, low (length xs - 1) h))
      (λ (p : length xs ≤ 0). omega arith)
      (lt-or-le 0 (length xs))

  -- one with more comes behind all
  pub rises-more : (x : ℕ) → (0 < length xs → f (get_or xs (length xs - 1) 0) < f x) → Rises f (xs ++ (x ∷ []))
  rises-more x above k h =
      let n = length-snoc xs x in
      let l : k < length xs = omega arith in
      let e : get_or (xs ++ (x ∷ [])) k 0 ≡ get_or xs k 0 = get_or-append xs (x ∷ []) 0 k l in
      ⊎_elim
      (λ (p : suc k < length xs).
      let d : get_or (xs ++ (x ∷ [])) (suc k) 0 ≡ get_or xs (suc k) 0 = get_or-append xs (x ∷ []) 0 (suc k) p in
      rw (e, d) (r k (omega arith)))
      (λ (p : length xs ≤ suc k).
      let d : get_or (xs ++ (x ∷ [])) (suc k) 0 ≡ x = get_or_at xs x [] 0 (suc k) (omega arith) in
      let q : length xs - 1 ≡ k = omega arith in
      rw (e, d) (rw q at (above (omega arith))))
      (lt-or-le (suc k) (length xs))

  pub rises-take : (n : ℕ) → n ≤ length xs → Rises f (take n xs)
  rises-take n h k l =
      let e : length (take n xs) ≡ n = length-take-le n xs h in
      let a : get_or (take n xs) k 0 ≡ get_or xs k 0 = get_or-take n xs k 0 (omega arith) in
      let b : get_or (take n xs) (suc k) 0 ≡ get_or xs (suc k) 0 = get_or-take n xs (suc k) 0 (omega arith) in
      rw (a, b) (r k (omega arith))

  module _ (some : 0 < length xs) where
    -- the last one stands there once, and leaves those in front
    last-alone : count (get_or xs (length xs - 1) 0) (take (length xs - 1) xs) ≡ 0
    last-alone =
        no_member _ _ λ k h (e : get_or (take (length xs - 1) xs) k 0 ≡ get_or xs (length xs - 1) 0).
        let l : k < length xs - 1 = omega (arith, length-take-le (length xs - 1) xs (omega arith)) in
        let p = rises-apart k (length xs - 1) l (omega arith) in
        omega (arith, ap f (sym (get_or-take (length xs - 1) xs k 0 l) ∙ e))

    pub last-leaves : without (get_or xs (length xs - 1) 0) xs ≡ take (length xs - 1) xs
    unfolding without
    last-leaves =
        let x : ℕ = get_or xs (length xs - 1) 0 in
        let n : suc (length xs - 1) ≡ length xs = omega arith in
        let e : xs ≡ take (length xs - 1) xs ++ (x ∷ []) =
        sym (take_all (length xs) xs (omega arith)) ∙ ap (λ (i : ℕ). take i xs) (sym n) ∙ take-suc xs (length xs - 1) 0 (omega arith) in
        ap (without x) e
        ∙ without-append x (take (length xs - 1) xs) (x ∷ [])
        ∙ rw (eq-eqb x x refl) (append-nil _)
        ∙ without-absent x (take (length xs - 1) xs) last-alone
