-- Who stands in a list, by count: a rule on every member, and what a list that lost or gained one has.
use Prim.Native.Nat.{ℕ, zero, suc, ◌≤◌, ◌<◌}
use mathlib.Core.Path.{◌≡◌, refl, ap}
use mathlib.Core.Logic.{◌≢◌, ◌⊎◌, inl, inr, ⊎_elim}
use mathlib.Core.Bool.{Bool, true, false}
use mathlib.Core.List.{List, [], ◌∷◌}
use native.Mathlib.Omega.{arith}
use lib.Dec.{eqb}
use lib.ListN.{length, get_or}
use borrow.Author.Tests.{eq-eqb, ne_eqb}
use Rattle.basics.specs.Lists.{bit, count, without, put_at}
use Rattle.basics.specs.Rule.{Rule, every, Means}
use Rattle.basics.proofs.Laws.{same?, length_without, without-absent}

-- ---- a bit
pub bit_le : (b : Bool) → bit b ≤ 1
bit_le true = omega arith
bit_le false = omega arith

pub bit-same : (a b : ℕ) → a ≡ b → bit (eqb a b) ≡ 1
bit-same a b e = ap bit (eq-eqb a b e)

pub bit-other : (a b : ℕ) → a ≢ b → bit (eqb a b) ≡ 0
bit-other a b n = ap bit (ne_eqb a b n)

pub bit-eq : (a b : ℕ) → 0 < bit (eqb a b) → a ≡ b
bit-eq a b h = ⊎_elim (λ (e : a ≡ b). e) (λ (n : a ≢ b). absurd (omega (arith, bit-other a b n))) (same? a b)

-- ---- a member, by its place and by count
pub count_at : (xs : List ℕ) (k : ℕ) → k < length xs → 0 < count (get_or xs k 0) xs
unfolding count
count_at [] k h = absurd (omega arith)
count_at (x ∷ xs) zero h = omega (arith, bit-same x x refl)
count_at (x ∷ xs) (suc k) h = omega (arith, count_at xs k (omega arith))

pub place_of : (x : ℕ) (xs : List ℕ) → 0 < count x xs → (k : ℕ) × (k < length xs) × (get_or xs k 0 ≡ x)
unfolding count
place_of x [] h = absurd (omega arith)
place_of x (y ∷ ys) h =
    ⊎_elim
    (λ (e : y ≡ x). (0, omega arith, e))
    (λ (n : y ≢ x). let later = place_of x ys (omega (arith, bit-other y x n)) in (suc later.0, omega (arith, later.1), later.2))
    (same? y x)

-- what holds at each place holds of each who is there
pub of-member : (P : ℕ → Type 0) (xs : List ℕ) → ((k : ℕ) → k < length xs → P (get_or xs k 0)) → (x : ℕ) → 0 < count x xs → P x
of-member P xs all x h = let p = place_of x xs h in rw p.2 at (all p.0 p.1)

-- a rule on every member
pub every-at : (xs : List ℕ) (f : ℕ → Rule) → Means (every xs f) → (x : ℕ) → 0 < count x xs → Means (f x)
every-at xs f = of-member (λ x. Means (f x)) xs

pub every-make : (xs : List ℕ) (f : ℕ → Rule) → ((x : ℕ) → 0 < count x xs → Means (f x)) → Means (every xs f)
every-make xs f g k h = g (get_or xs k 0) (count_at xs k h)

-- ---- x put in where nobody stands
pub put_at-none : (p x : ℕ) → put_at p x [] ≡ x ∷ []
unfolding put_at
put_at-none zero x = refl
put_at-none (suc p) x = refl

-- at most one stands there: without x it is as before, or nobody is left
pub without-one : (x : ℕ) (xs : List ℕ) → length xs < 2 → (without x xs ≡ xs) ⊎ (length (without x xs) ≡ 0)
without-one x xs h =
    ⊎_elim
    (λ (e : count x xs ≡ 0). inl (without-absent x xs e))
    (λ (n : count x xs ≢ 0). inr (omega (arith, length_without x xs)))
    (same? (count x xs) 0)
