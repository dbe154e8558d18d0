-- Laws of `count`, `without`, `put_at`, `ahead` over any list.
use Prim.Native.Nat.{ℕ, zero, suc, ◌+◌, min, ◌≤◌, ◌<◌}
use mathlib.Core.Path.{◌≡◌, refl, sym, ap, ◌∙◌}
use mathlib.Core.Logic.{◌≢◌, ◌⊎◌, ⊎_elim}
use mathlib.Core.Bool.{Bool, true, false, cond as if}
use mathlib.Core.List.{List, [], ◌∷◌, ◌++◌, Sublistᴰ}
use native.Mathlib.Numerals.{add-one}
use native.Mathlib.Omega.{arith}
use lib.Dec.{eqb}
use borrow.Author.Tests.{eq-eqb, ne_eqb}
use lib.ListN.{length, take, drop, get_or, length-append, take-append-drop, drop_of_length-le}
use lib.Seq.{take-length, drop-length, drop-cons, take_all}
use Rattle.std.proofs.lemmas.List.{nil_from_length}
use Rattle.std.proofs.lemmas.Bool.{cases_eq, cases_lt}
use Rattle.basics.specs.Lists.{bit, count, without, put_at, first_where, ahead}

-- two numbers are equal or not, and one is below the other or not: the library's, by the names that proofs here cite
pub same? : (a b : ℕ) → (a ≡ b) ⊎ (a ≢ b)
same? = cases_eq

pub lt-or-le : (a b : ℕ) → (a < b) ⊎ (b ≤ a)
lt-or-le = cases_lt

-- ---- count
pub count-append : (x : ℕ) (s t : List ℕ) → count x (s ++ t) ≡ count x s + count x t
unfolding count
count-append x [] t = omega arith
count-append x (y ∷ s) t = let h = count-append x s t in omega arith

pub count-snoc : (y x : ℕ) (xs : List ℕ) → count y (xs ++ (x ∷ [])) ≡ count y xs + bit (eqb x y)
unfolding count
count-snoc y x xs = rw count-append (omega arith)

pub count-put_at : (y i x : ℕ) (xs : List ℕ) → count y (put_at i x xs) ≡ bit (eqb x y) + count y xs
unfolding put_at count
count-put_at y i x xs =
    let h = count-append y (take i xs) (drop i xs) in
    let e = ap (count y) (take-append-drop i xs) in
    rw count-append (omega arith)

-- x itself is gone
pub count-without : (x : ℕ) (xs : List ℕ) → count x (without x xs) ≡ 0
unfolding count without
count-without x [] = refl
count-without x (z ∷ zs) =
    let ih = count-without x zs in
    ⊎_elim (λ (e : z ≡ x). rw (eq-eqb z x e) ih) (λ (n : z ≢ x). simp (ne_eqb z x n) (omega arith)) (same? z x)

pub count-without-other : (y x : ℕ) (xs : List ℕ) → y ≢ x → count y (without x xs) ≡ count y xs
unfolding count without
count-without-other y x [] n = refl
count-without-other y x (z ∷ zs) n =
    let ih = count-without-other y x zs n in
    ⊎_elim
    (λ (e : z ≡ x). rw (eq-eqb z x e, ne_eqb z y (λ (d : z ≡ y). n (sym d ∙ e))) (omega arith))
    (λ (m : z ≢ x). rw (ne_eqb z x m) (omega arith))
    (same? z x)

-- ---- length
pub length_without : (x : ℕ) (xs : List ℕ) → length (without x xs) + count x xs ≡ length xs
unfolding count without
length_without x [] = refl
length_without x (z ∷ zs) =
    let ih = length_without x zs in
    ⊎_elim (λ (e : z ≡ x). rw (eq-eqb z x e) (omega arith)) (λ (m : z ≢ x). rw (ne_eqb z x m) (omega arith)) (same? z x)

pub length-put_at : (i x : ℕ) (xs : List ℕ) → length (put_at i x xs) ≡ suc (length xs)
unfolding put_at
length-put_at i x xs =
    let h = length-append (take i xs) (drop i xs) in
    let e = ap length (take-append-drop i xs) in
    rw length-append (omega arith)

-- ---- the pigeonhole: distinct numbers below n are at most n
none : (xs : List ℕ) → ((y : ℕ) → count y xs ≡ 0) → length xs ≡ 0
unfolding count
none [] h = refl
none (x ∷ xs) h = absurd (let p = h x in let q = eq-eqb x x refl in let r : 1 + count x xs ≡ 0 = rw q at p in omega arith)

pub at_most : (n : ℕ) (xs : List ℕ) → ((y : ℕ) → count y xs ≤ 1) → ((y : ℕ) → n ≤ y → count y xs ≡ 0) → length xs ≤ n
at_most zero xs one low = let h = none xs (λ y. low y (omega arith)) in omega arith
at_most (suc n) xs one low =
    let ih = at_most n (without n xs) (λ y. fewer y) (λ y. gone y) in
    omega (arith, length_without n xs, one n)
  where
    fewer : (y : ℕ) → count y (without n xs) ≤ 1
    fewer y =
        ⊎_elim
        (λ (e : y ≡ n). rw e (omega (arith, count-without n xs)))
        (λ (m : y ≢ n). omega (arith, count-without-other y n xs m, one y))
        (same? y n)

    gone : (y : ℕ) → n ≤ y → count y (without n xs) ≡ 0
    gone y le =
        ⊎_elim
        (λ (e : y ≡ n). rw e (count-without n xs))
        (λ (m : y ≢ n). omega (arith, count-without-other y n xs m, low y (omega arith)))
        (same? y n)

-- distinct numbers below n that lack an x below n are fewer than n: there is room for x
pub room : (n x : ℕ) (xs : List ℕ) → x < n → count x xs ≡ 0 → ((y : ℕ) → count y xs ≤ 1) → ((y : ℕ) → n ≤ y → count y xs ≡ 0) → length xs < n
unfolding count
room n x xs lt out one low = at_most n (x ∷ xs) (λ y. ones y) (λ y. lows y)
  where
    ones : (y : ℕ) → count y (x ∷ xs) ≤ 1
    ones y =
        ⊎_elim
        (λ (e : x ≡ y). rw (eq-eqb x y e) (omega (arith, out, ap (λ (z : ℕ). count z xs) e)))
        (λ (m : x ≢ y). rw (ne_eqb x y m) (omega (arith, one y)))
        (same? x y)

    lows : (y : ℕ) → n ≤ y → count y (x ∷ xs) ≡ 0
    lows y le = rw (ne_eqb x y (λ (e : x ≡ y). omega arith)) (omega (arith, low y le))

-- ---- taking out
pub without-append : (x : ℕ) (s t : List ℕ) → without x (s ++ t) ≡ without x s ++ without x t
unfolding without
without-append x [] t = refl
without-append x (z ∷ s) t =
    let ih = without-append x s t in
    ⊎_elim (λ (e : z ≡ x). simp (eq-eqb z x e, ih)) (λ (m : z ≢ x). simp (ne_eqb z x m, ih)) (same? z x)

pub without-absent : (x : ℕ) (xs : List ℕ) → count x xs ≡ 0 → without x xs ≡ xs
unfolding without count
without-absent x [] h = refl
without-absent x (z ∷ zs) h =
    ⊎_elim
    (λ (e : z ≡ x). absurd (omega (arith, simp (eq-eqb z x e) at h)))
    (λ (m : z ≢ x). let k : count x zs ≡ 0 = omega (arith, h) in simp (ne_eqb z x m, without-absent x zs k))
    (same? z x)

-- ---- order: those in front of y
pub ahead-snoc : (y x : ℕ) (xs : List ℕ) → 0 < count y xs → ahead y (xs ++ (x ∷ [])) ≡ ahead y xs
unfolding count ahead
ahead-snoc y x [] h = absurd (omega arith)
ahead-snoc y x (z ∷ zs) h =
    ⊎_elim
    (λ (e : z ≡ y). rw (eq-eqb z y e))
    (λ (n : z ≢ y). let k : 0 < count y zs = omega (arith, rw (ne_eqb z y n) at h) in rw (ne_eqb z y n, ahead-snoc y x zs k))
    (same? z y)

pub ahead-without : (y x : ℕ) (xs : List ℕ) → y ≢ x → ahead y (without x xs) ≡ without x (ahead y xs)
unfolding ahead without
ahead-without y x [] n = refl
ahead-without y x (z ∷ zs) n =
    let ih = ahead-without y x zs n in
    ⊎_elim
    (λ (e : z ≡ x). simp (eq-eqb z x e, ne_eqb z y (λ (d : z ≡ y). n (sym d ∙ e))) ih)
    (λ (m : z ≢ x). ⊎_elim (λ (d : z ≡ y). simp (ne_eqb z x m, eq-eqb z y d)) (λ (d : z ≢ y). simp (ne_eqb z x m, ne_eqb z y d, ih)) (same? z y))
    (same? z x)

pub without_sub : (x : ℕ) (xs : List ℕ) → Sublistᴰ (without x xs) xs
unfolding without
without_sub x [] = Sublistᴰ.slnil
without_sub x (z ∷ zs) =
    ⊎_elim
    (λ (e : z ≡ x). rw (eq-eqb z x e) (Sublistᴰ.cons (without_sub x zs)))
    (λ (n : z ≢ x). rw (ne_eqb z x n) (Sublistᴰ.cons-cons refl (without_sub x zs)))
    (same? z x)

-- ---- places
pub first_where-le : (t : ℕ → Bool) (xs : List ℕ) → first_where t xs ≤ length xs
unfolding first_where
first_where-le t [] = omega arith
first_where-le t (y ∷ ys) = go (t y) (first_where-le t ys)
  where
    go : (b : Bool) → first_where t ys ≤ length ys → if b 0 (suc (first_where t ys)) ≤ suc (length ys)
    go true h = omega arith
    go false h = omega arith

-- behind all is at the back
pub put_at-back : (x : ℕ) (xs : List ℕ) → put_at (length xs) x xs ≡ xs ++ (x ∷ [])
unfolding put_at
put_at-back x xs = rw (take-length, drop-length)

-- a place past the end is the end
pub put_at-min : (p x : ℕ) (xs : List ℕ) → put_at (min p (length xs)) x xs ≡ put_at p x xs
unfolding put_at
put_at-min p x xs =
    ⊎_elim
    (λ h. let e : min p (length xs) ≡ p = omega arith in rw e)
    (λ h.
    let e : min p (length xs) ≡ length xs = omega arith in
    rw (e, take-length xs, drop-length xs, take_all p xs h, drop_of_length-le xs {i = p} h))
    (lt-or-le p (length xs))

-- all in front of the place fail the test, and who stands there passes it
pub before-place : (t : ℕ → Bool) (xs : List ℕ) (k : ℕ) → k < first_where t xs → t (get_or xs k 0) ≡ false
unfolding first_where
before-place t [] k h = absurd (omega arith)
before-place t (y ∷ ys) zero h = go (t y) refl h
  where
    go : (b : Bool) → t y ≡ b → 0 < if b 0 (suc (first_where t ys)) → t y ≡ false
    go true e h = absurd (omega arith)
    go false e h = e
before-place t (y ∷ ys) (suc k) h = go (t y) h (before-place t ys k)
  where
    go : (b : Bool) → suc k < if b 0 (suc (first_where t ys)) → (k < first_where t ys → t (get_or ys k 0) ≡ false) → t (get_or ys k 0) ≡ false
    go true h r = absurd (omega arith)
    go false h r = r (omega arith)

-- ---- the one at the front
pub count-first : (xs : List ℕ) → 0 < length xs → 0 < count (get_or xs 0 0) xs
unfolding count
count-first [] h = absurd (omega arith)
count-first (x ∷ xs) h = omega (arith, ap bit (eq-eqb x x refl))

pub no_length : (xs : List ℕ) → length xs ≤ 0 → xs ≡ []
no_length xs h = nil_from_length xs (omega arith)

-- ---- a search: what a loop has passed
module _ (t : ℕ → Bool) (ms : List ℕ) (k : ℕ) (inv : first_where t ms ≡ k + first_where t (drop k ms)) where
  pub found : k < length ms → t (get_or ms k 0) ≡ true → first_where t ms ≡ k
  unfolding first_where
  found h e = let p : first_where t (drop k ms) ≡ 0 = rw (drop-cons ms k 0 h, e) in omega (arith, inv, p)

  pub passed : k < length ms → t (get_or ms k 0) ≡ false → first_where t ms ≡ k + 1 + first_where t (drop (k + 1) ms)
  unfolding first_where
  passed h e =
      let p : first_where t (drop k ms) ≡ suc (first_where t (drop (k + 1) ms)) = rw (add-one, drop-cons ms k 0 h, e) in
      omega (arith, inv, p)

  pub ended : length ms ≤ k → first_where t ms ≡ k
  unfolding first_where
  ended h = let p : first_where t (drop k ms) ≡ 0 = rw (drop_of_length-le ms {i = k} h) in omega (arith, inv, p)
