-- The heap's entries one after the other.
use Prim.Native.Nat.{ℕ, ◌+◌, ◌-◌, ◌<◌}
use mathlib.Core.Path.{◌≡◌, refl, ◌∙◌}
use mathlib.Core.Bool.{Bool, true, false, not, ◌&&◌, ◌||◌, cond as if}
use mathlib.Core.List.{List}
use native.Mathlib.Omega.{arith}
use borrow.Author.Tests.{lt-ltb, ne_eqb}
use lib.Dec.{eqb, ltb}
use lib.ListN.{get_or}
use Rattle.rules.specs.Heap.{unit, free, later_in}

-- ---- the heap: what stands before unit u; before the first as if a free one did
unfoldable pub unit_before : List ℕ → ℕ → ℕ
unit_before h u = if (eqb u 0) free (unit h (u - 1))

pub before-none : (h : List ℕ) → free ≡ unit_before h 0
unfolding unit_before
before-none h = refl

pub before_more : (h : List ℕ) (u : ℕ) {x : ℕ} → x ≡ unit h u → x ≡ unit_before h (u + 1)
unfolding unit_before
before_more h u e =
    let n : u + 1 ≡ 0 → ⊥ = λ z. omega arith in
    let p : u + 1 - 1 ≡ u = omega arith in
    e ∙ rw (ne_eqb (u + 1) 0 n, p)

after_free : (h : List ℕ) (u : ℕ) → not (eqb (unit_before h u) free) ≡ (not (eqb u 0) && not (eqb (unit h (u - 1)) free))
unfolding unit_before
after_free h u = go (eqb u 0)
  where
    go : (b : Bool) → not (eqb (if b free (unit h (u - 1))) free) ≡ (not b && not (eqb (unit h (u - 1)) free))
    go true = refl
    go false = refl

pub unit-here : (h : List ℕ) (u : ℕ) → u < 256 → get_or h u 0 ≡ unit h u
unit-here h u l = rw (lt-ltb u 256 l)

-- the test of one entry is the rule of unit u
pub heap-step : (h : List ℕ) (u : ℕ) {p x : ℕ} {b : Bool} → p ≡ unit_before h u → x ≡ unit h u
    → b ≡ (ltb x 3 && (not (eqb x later_in) || not (eqb p free)))
    → b ≡ (ltb (unit h u) 3 && (not (eqb (unit h u) later_in) || (not (eqb u 0) && not (eqb (unit h (u - 1)) free))))
heap-step h u p x e = e ∙ rw (p, x, after_free h u)
