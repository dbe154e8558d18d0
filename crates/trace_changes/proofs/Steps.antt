-- Small steps of the code's proofs, over plain values: how many, what is told where a test says so, and a test of each number below a bound.
use Prim.Native.Nat.{ℕ, zero, suc, ◌+◌, ◌≤◌}
use mathlib.Core.Path.{◌≡◌, refl, sym, ap, ◌∙◌}
use mathlib.Core.Bool.{Bool, true, false, not, ◌&&◌, ◌||◌, and-true, and_assoc}
use mathlib.Core.List.{List, [], ◌∷◌}
use native.Mathlib.Omega.{arith}
use Rattle.basics.specs.Lists.{bit}
use Rattle.basics.specs.Find.{all_below}
use Rattle.std.specs.List.{range_with_len, list_all, list_any, FoldsTo}
use Rattle.std.specs.Option.{MatchOption}
use Rattle.std.specs.Prelude.{Option}
use Rattle.std.specs.Fn.{Called}
use Rattle.std.specs.Int.{from_bool}
use Rattle.std.specs.Iterator.{YieldsThen}
use Rattle.std.specs.declared.ops.Range.{Range}
use denote.Param.Members.{Mut}
use Rattle.std.proofs.iter.Yields.{nat_range_steps}
use Rattle.std.proofs.lemmas.Iterator.{YieldsList-from_range}
use Rattle.std.proofs.lemmas.Iterator.Search.{all_from_yields_List, any_from_yields_List}
use native.Mathlib.Nat.{sub-zero, zero-add, add-zero}
use Rattle.text.specs.Put.{Put}
use Rattle.trace_changes.specs.Numbers.{columns, count_below, told}
use Rattle.trace_changes.proofs.Telling.{tells_none}

pub both : {a b s t : Bool} → a ≡ s → b ≡ t → (a && b) ≡ (s && t)
both p q = rw (p, q)

-- ---- how many
pub bit-most : (b : Bool) → bit b ≤ 1
bit-most true = omega arith
bit-most false = omega arith

pub count_most : (f : ℕ → Bool) (n : ℕ) → count_below n f ≤ n
unfolding count_below
count_most f zero = omega arith
count_most f (suc n) = omega (arith, count_most f n, bit-most (f n))

-- ---- what is told where a test says so
module _ {test b : Bool} (e : b ≡ test) (ns : List ℕ) {xs : List ℕ} {at : ℕ} where
  pub told-no : b ≡ false → Put xs at (columns (told test ns)) xs at
  told-no h = rw (sym e ∙ h) (tells_none xs at)

  -- the test is that nothing changed
  pub told-changed : b ≡ false → {ys : List ℕ} {r : ℕ} → Put xs at (columns ns) ys r → Put xs at (columns (told (not test) ns)) ys r
  told-changed h p = rw (sym e ∙ h) p

  pub told_same : b ≡ true → Put xs at (columns (told (not test) ns)) xs at
  told_same h = rw (sym e ∙ h) (tells_none xs at)

-- ---- a test of each number below n, by `all` over the range
list_all-more : (f : ℕ → Bool) (a n : ℕ) → list_all f (range_with_len a (suc n)) ≡ (list_all f (range_with_len a n) && f (a + n))
list_all-more f a zero = and-true (f a) ∙ ap f (sym (add-zero a))
list_all-more f a (suc n) =
    let e : a + 1 + n ≡ a + suc n = omega arith in
    ap (λ (b : Bool). f a && b) (list_all-more f (a + 1) n) ∙ rw e (sym (and_assoc (f a) _ _))

list_all_below : (f : ℕ → Bool) (n : ℕ) → list_all f (range_with_len 0 n) ≡ all_below n f
unfolding all_below
list_all_below f zero = refl
list_all_below f (suc n) = list_all-more f 0 n ∙ rw (zero-add n, list_all_below f n)

pub all_over : {F : Type 0} {g : Mut F (ℕ × Unit {0}) Bool} (n : ℕ) (test : ℕ → Bool) (u : Range ℕ) (f : F) (r : Bool)
    → (xs : List ℕ)
    × (o : Option ℕ)
    × (j : F)
    × YieldsThen nat_range_steps (record { start = 0; end = n }) xs o u
    × FoldsTo (λ p x q. Called g p (x, tt) true q) f xs j
    × MatchOption o (r ≡ true) (λ x. (r ≡ false) × ((h : F) × Called g j (x, tt) false h))
    → ((x : ℕ) (b : Bool) (q : F) → Called g f (x, tt) b q → (q ≡ f) × (b ≡ test x))
    → r ≡ all_below n test
all_over n test u f r ran each = all_from_yields_List test u f r ran (YieldsList-from_range 0 n n refl (sub-zero n)) each ∙ list_all_below test n

-- the same of `any`, over a test that some number passes
list_any-not : (f : ℕ → Bool) (xs : List ℕ) → list_any f xs ≡ not (list_all (λ x. not (f x)) xs)
list_any-not f [] = refl
list_any-not f (x ∷ xs) = go (f x) (list_any-not f xs)
  where
    go : (b : Bool) → list_any f xs ≡ not (list_all (λ y. not (f y)) xs) → (b || list_any f xs) ≡ not (not b && list_all (λ y. not (f y)) xs)
    go true e = refl
    go false e = e

pub any_over : {F : Type 0} {g : Mut F (ℕ × Unit {0}) Bool} (n : ℕ) (test : ℕ → Bool) (u : Range ℕ) (f : F) (r : Bool)
    → (xs : List ℕ)
    × (o : Option ℕ)
    × (j : F)
    × YieldsThen nat_range_steps (record { start = 0; end = n }) xs o u
    × FoldsTo (λ p x q. Called g p (x, tt) false q) f xs j
    × MatchOption o (r ≡ false) (λ x. (r ≡ true) × ((h : F) × Called g j (x, tt) true h))
    → ((x : ℕ) (b : Bool) (q : F) → Called g f (x, tt) b q → (q ≡ f) × (b ≡ test x))
    → r ≡ not (all_below n (λ x. not (test x)))
any_over n test u f r ran each =
    any_from_yields_List test u f r ran (YieldsList-from_range 0 n n refl (sub-zero n)) each
    ∙ list_any-not test (range_with_len 0 n)
    ∙ ap not (list_all_below (λ x. not (test x)) n)

-- a flag as a number
pub bit-is : (b : Bool) → from_bool b ≡ bit b
bit-is true = refl
bit-is false = refl
