-- What a turn of a loop adds, and how its result is the whole rule.
use Prim.Native.Nat.{ℕ, zero, suc, ◌+◌, ◌-◌, min, ◌≤◌, ◌<◌}
use mathlib.Core.Path.{◌≡◌, refl, sym, ◌∙◌}
use mathlib.Core.Bool.{Bool, true, false, ◌&&◌}
use mathlib.Core.List.{List, []}
use native.Mathlib.Numerals.{add-one}
use native.Mathlib.Omega.{arith}
use lib.Dec.{eqb}
use lib.ListN.{length, take, get_or}
use native.Mathlib.Nat.{zero-add, add_assoc}
use lib.Seq.{take-suc, take_all}
use Rattle.basics.specs.Lists.{bit, count, all_of, reads}
use Rattle.basics.specs.Find.{all_below}
use Rattle.basics.proofs.Laws.{count-snoc}
use Rattle.basics.proofs.Runs.{reads-zero, length-reads, take-reads, get_or-reads}
use Rattle.basics.proofs.Finds.{all_of-none, all_of-take-more}
use Rattle.rules.specs.Rows.{behind}

-- ---- a loop over those who stand in a line, n in all
module _ (t : ℕ → Bool) (xs : List ℕ) (k : ℕ) {n : ℕ} (all : n ≡ length xs) {a : Bool} (so : a ≡ all_of t (take k xs)) where
  pub members-more : {b : Bool} → k < n → b ≡ t (get_or xs k 0) → (a && b) ≡ all_of t (take (k + 1) xs)
  members-more h q = rw (so, q) (sym (all_of-take-more t xs k (omega arith)))

at-most-one : (b : Bool) → bit b ≤ 1
at-most-one true = omega arith
at-most-one false = omega arith

-- ---- a loop that counts how often x stands in a line
module _ (x : ℕ) (xs : List ℕ) where
  -- of the first k of n members m are x
  pub record Counted (n m k : ℕ) : Type 0 where
    pub all : n ≡ length xs
    pub high : k ≤ n
    pub low : m ≤ k
    pub so : m ≡ count x (take k xs)

  pub counted_none : {n : ℕ} → n ≡ length xs → Counted n 0 0
  unfolding count
  counted_none e = record { all = e; high = omega arith; low = omega arith; so = refl }

  pub counted-more : {n m b : ℕ} (k : ℕ) → Counted n m k → k < n → b ≡ bit (eqb (get_or xs k 0) x) → Counted n (m + b) (k + 1)
  counted-more k c h e =
      let l : k < length xs = omega (arith, c.all) in
      let b : bit (eqb (get_or xs k 0) x) ≤ 1 = at-most-one (eqb (get_or xs k 0) x) in
      record {
        all = c.all;
        high = omega arith;
        low = omega (arith, c.low, b, e);
        so = rw (c.so, e, add-one, take-suc xs k 0 l) (sym (count-snoc x (get_or xs k 0) (take k xs)));
      }

  pub counted-all : {n m : ℕ} (k : ℕ) → Counted n m k → n ≤ k → m ≡ count x xs
  counted-all k c h = let l : length xs ≤ k = omega (arith, c.all) in rw (take_all k xs l) at c.so

-- ---- the numbers from 0 on
pub all-from0 : (f : ℕ → Bool) (n : ℕ) → all_below n (λ k. f (0 + k)) ≡ all_below n f
unfolding all_below
all-from0 f zero = refl
all-from0 f (suc n) = rw (all-from0 f n, zero-add)

-- ---- the places of a table from a + j on: i of them
all-reads : (f : ℕ → Bool) (t : List ℕ) (a j i : ℕ) → all_below i (λ k. f (get_or t (a + (j + k)) 0)) ≡ all_of f (reads t (a + j) i)
unfolding all_below
all-reads f t a j zero = rw (reads-zero t (a + j)) (sym (all_of-none f []))
all-reads f t a j (suc i) =
    let l : suc i ≤ suc i = omega arith in
    let m : i ≤ suc i = omega arith in
    let h : i < suc i = omega arith in
    let k : i < length (reads t (a + j) (suc i)) = omega (arith, length-reads (suc i) t (a + j)) in
    rw (all-reads f t a j i, ← add_assoc a j i, ← take-reads i (suc i) t (a + j) m, ← get_or-reads (suc i) i t (a + j) h)
    (sym (all_of-take-more f (reads t (a + j) (suc i)) i k) ∙ rw (add-one, take-reads (suc i) (suc i) t (a + j) l))

-- the test of each place from n on, up to m, is the test of those behind the n that are filled
pub zeros-behind : (m : ℕ) (t : List ℕ) (a : ℕ) {n : ℕ} {b : Bool} → n ≡ min (get_or t a 0) m
    → b ≡ all_below (m - n) (λ k. eqb (get_or t (a + 1 + (n + k)) 0) 0) → b ≡ all_of (λ x. eqb x 0) (behind m t a)
unfolding behind
zeros-behind m t a {n} l e = e ∙ rw (all-reads (λ x. eqb x 0) t (a + 1) n (m - n), l)
