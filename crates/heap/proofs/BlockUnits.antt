-- Blocks, and the entries of a block, over any list: what the loops keep and what they end with.
use Prim.Native.Nat.{ℕ, zero, suc, ◌+◌, ◌-◌, ◌/◌, ◌%◌, ◌≤◌, ◌<◌, min}
use mathlib.Core.Path.{◌≡◌, refl, sym, ap, ◌∙◌}
use mathlib.Core.Bool.{Bool, true, false, not, ◌&&◌, ◌||◌, true≢false, and-eq-true_iff}
use mathlib.Core.List.{List, ◌∷◌}
use native.Mathlib.Numerals.{add-one}
use native.Mathlib.Omega.{arith}
use borrow.Author.Tests.{le-leb, lt-leb, eqb-true}
use lib.Dec.{eqb}
use lib.ListN.{length, set, replicate, length-replicate, replicate-append-replicate}
use lib.Seq.{sets}
use Rattle.basics.specs.Lists.{zeros}
use Rattle.basics.specs.Find.{first_below, first_from}
use Rattle.basics.proofs.Runs.{sets-snoc}
use Rattle.rules.specs.Tables.{heap_units, unit_bytes}
use Rattle.rules.specs.Heap.{unit, with_units, units_of, block_size, is_block, give_effect}
use Rattle.rules.specs.Answer.{answer, with_answer}
use Rattle.rules.specs.declared.Answer.{Answer}
use Rattle.heap.specs.Free.{adjacent}

-- ---- the block whose first unit is u
module _ (h : List ℕ) (u : ℕ) where
  pub alone : 255 ≤ u → 1 ≡ block_size h u
  unfolding block_size first_below first_from
  alone l = let q : heap_units - suc u ≡ 0 = omega arith in rw q

  pub followed : u < 255 → {k : ℕ} → k ≡ adjacent h (u + 1) (255 - u) 2 → k + 1 ≡ block_size h u
  unfolding block_size adjacent
  followed l e =
      let q : min (255 - u) (heap_units - suc u) ≡ heap_units - suc u = omega arith in
      rw (e, add-one u, q, add-one)

-- ---- the entries of a block
module _ (h : List ℕ) (u : ℕ) (es : List ℕ) where
  units_in : u + length es ≤ heap_units → with_units h u es ≡ sets h u es
  units_in l = rw (le-leb (u + length es) heap_units l)

  units-out : heap_units < u + length es → with_units h u es ≡ h
  units-out l = rw (lt-leb (u + length es) heap_units l)

-- the first one stored, and of the others those below k
pub record Marked (h : List ℕ) (u n v k : ℕ) (now : List ℕ) : Type 0 where
  pub low : 0 < k
  pub high : k - 1 ≤ n - 1
  pub same : now ≡ sets h (suc u) (replicate (k - 1) v)

module _ (u n v : ℕ) where
  module _ (h : List ℕ) where
    pub marked-none : Marked h u n v 1 h
    marked-none = record { low = omega arith; high = omega arith; same = refl }

    pub marked_more : (k : ℕ) {now : List ℕ} → k < n → Marked h u n v k now → Marked h u n v (k + 1) (set now (u + k) v)
    marked_more k l m =
        let a : u + k ≡ suc u + (k - 1) = omega (arith, m.low) in
        let b : k - 1 + 1 ≡ k + 1 - 1 = omega (arith, m.low) in
        record {
          low = omega arith;
          high = omega arith;
          same =
              ap (λ (t : List ℕ). set t (u + k) v) m.same
              ∙ ap (λ (i : ℕ). set (sets h (suc u) (replicate (k - 1) v)) i v) a
              ∙ sets-snoc (replicate (k - 1) v) h (suc u) (k - 1) v (length-replicate (k - 1) v)
              ∙ ap (sets h (suc u)) (replicate-append-replicate (k - 1) 1 v ∙ ap (λ (i : ℕ). replicate i v) b);
        }

  module _ (h : List ℕ) (f : ℕ) where
    es : List ℕ
    es = f ∷ replicate (n - 1) v

    size : length es ≡ suc (n - 1)
    unfolding es
    size = ap suc (length-replicate (n - 1) v)

    pub marked_all : (k : ℕ) {now : List ℕ} → u < heap_units → n ≤ heap_units - u → n ≤ k → Marked (set h u f) u n v k now
        → now ≡ with_units h u (f ∷ replicate (n - 1) v)
    unfolding es
    marked_all k a b l m =
        let e : k - 1 ≡ n - 1 = omega (arith, m.high) in
        m.same ∙ ap (λ (i : ℕ). sets (set h u f) (suc u) (replicate i v)) e ∙ sym (units_in h u es (omega (arith, size)))

    pub marked-out : heap_units < u + suc (n - 1) → h ≡ with_units h u (f ∷ replicate (n - 1) v)
    unfolding es
    marked-out l = sym (units-out h u es (omega (arith, size)))

-- ---- the effects
-- all free again
cleared : (n : ℕ) → 0 < n → 0 ∷ replicate (n - 1) 0 ≡ zeros n
cleared zero l = absurd (omega arith)
cleared (suc n) l = let q : suc n - 1 ≡ n = omega arith in rw q

some : (h : List ℕ) (u : ℕ) → 0 < block_size h u
unfolding block_size
some h u = omega arith

holds : (b c : Bool) → (not b || c) ≡ false → b ≡ true
holds true c e = refl
holds false c e = absurd (true≢false e)

-- where the test of 61 lets a block through, b bytes round up to its size
pub block-is : (h : List ℕ) (a b : ℕ) (c : Bool) → (not (is_block h a b) || c) ≡ false → units_of b ≡ block_size h (a / unit_bytes)
unfolding is_block
block-is h a b c e =
    eqb-true (units_of b) (block_size h (a / unit_bytes))
    ((and-eq-true_iff (eqb (a % unit_bytes) 0 && eqb (unit h (a / unit_bytes)) 1) (eqb (units_of b) (block_size h (a / unit_bytes)))).0
    (holds (is_block h a b) c e)).1

pub give-is : (h : List ℕ) (a : ℕ) {n : ℕ} {g : List ℕ} {r : Answer} → n ≡ block_size h (a / unit_bytes)
    → g ≡ with_units h (a / unit_bytes) (0 ∷ replicate (n - 1) 0) → r ≡ answer 0 0 0 → with_answer r g ≡ give_effect h a
unfolding give_effect
give-is h a q e f =
    rw (f, e, q)
    (ap (λ (es : List ℕ). with_answer (answer 0 0 0) (with_units h (a / unit_bytes) es)) (cleared (block_size h (a / unit_bytes)) (some h (a / unit_bytes))))
