-- Those before one in a line: at its front, at its back, and after another one has gone to the back.
use Prim.Native.Nat.{ℕ, ◌≤◌, ◌<◌}
use mathlib.Core.Path.{◌≡◌, refl, ap}
use mathlib.Core.Logic.{◌≢◌, ⊎_elim}
use mathlib.Core.Bool.{Bool, true, false, cond as if}
use mathlib.Core.List.{List, [], ◌∷◌, ◌++◌, Sublistᴰ}
use native.Mathlib.Omega.{arith}
use borrow.Author.Tests.{eq-eqb, ne_eqb}
use lib.ListN.{length, get_or}
use Rattle.basics.specs.Lists.{count, ahead, without, put_at}
use Rattle.basics.proofs.Laws.{same?, count-without, count-without-other, ahead-without, ahead-snoc, put_at-back}
use Rattle.demand_2_soundness.proofs.Members.{bit-same}

-- some of those in a line are no more than they
pub sub-length : {xs ys : List ℕ} → Sublistᴰ xs ys → length xs ≤ length ys
sub-length Sublistᴰ.slnil = omega arith
sub-length (Sublistᴰ.cons s) = omega (arith, sub-length s)
sub-length (Sublistᴰ.cons-cons e s) = omega (arith, sub-length s)

-- nobody stands before i where it is the first, and the first does where it is another
pub ahead-first : (i : ℕ) (xs : List ℕ) → 0 < length xs → get_or xs 0 0 ≡ i → ahead i xs ≡ []
unfolding ahead
ahead-first i [] h e = absurd (omega arith)
ahead-first i (y ∷ ys) h e = rw (eq-eqb y i e)

pub first-ahead : (i : ℕ) (xs : List ℕ) → 0 < length xs → get_or xs 0 0 ≢ i → 0 < count (get_or xs 0 0) (ahead i xs)
unfolding ahead count
first-ahead i [] h n = absurd (omega arith)
first-ahead i (y ∷ ys) h n = rw (ne_eqb y i n) (omega (arith, bit-same y y refl))

-- a newcomer at the back has all the others before it
pub ahead-new : (y : ℕ) (xs : List ℕ) → count y xs ≡ 0 → ahead y (xs ++ (y ∷ [])) ≡ xs
unfolding ahead count
ahead-new y [] h = rw (eq-eqb y y refl)
ahead-new y (z ∷ zs) h =
    ⊎_elim
    (λ (e : z ≡ y). absurd (omega (arith, rw (eq-eqb z y e) at h)))
    (λ (n : z ≢ y). rw (ne_eqb z y n) (ap (λ (l : List ℕ). z ∷ l) (ahead-new y zs (omega (arith, rw (ne_eqb z y n) at h)))))
    (same? z y)

-- x goes to the back of the line, or out of it: it is not before i
pub ahead-back : (i x : ℕ) (xs : List ℕ) (b : Bool) → i ≢ x → 0 < count i xs
    → count x (ahead i (if b (put_at (length (without x xs)) x (without x xs)) (without x xs))) ≡ 0
ahead-back i x xs true n h =
    let there : 0 < count i (without x xs) = rw (count-without-other i x xs n) h in
    rw (put_at-back x (without x xs), ahead-snoc i x (without x xs) there, ahead-without i x xs n) (count-without x (ahead i xs))
ahead-back i x xs false n h = rw (ahead-without i x xs n) (count-without x (ahead i xs))
