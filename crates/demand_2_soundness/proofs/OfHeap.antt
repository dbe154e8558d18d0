-- Calls 60 and 61 keep what dispatch starts from.
use Prim.Native.Nat.{ℕ, zero, suc, ◌+◌, ◌-◌, ◌/◌, ◌%◌, ◌<◌, ◌≤◌, ◌*◌}
use mathlib.Core.Path.{◌≡◌, refl, sym, ap, ◌∙◌}
use mathlib.Core.Logic.{◌≢◌, ◌⊎◌, inl, inr, ⊎_elim}
use mathlib.Core.Bool.{true, false, not, ◌&&◌, ◌||◌}
use mathlib.Core.List.{List, ◌∷◌}
use native.Mathlib.Omega.{arith}
use borrow.Author.Tests.{lt-ltb, le-ltb, le-leb, leb-true, eqb-true, eqb-false, not-true, not-false}
use lib.Dec.{eqb, leb}
use lib.ListN.{length, get_or, replicate, length-replicate, get_or-replicate}
use lib.Seq.{sets, length-sets}
use Rattle.basics.specs.Lists.{zeros}
use Rattle.basics.specs.Rule.{Means}
use Rattle.basics.specs.Find.{first_below}
use Rattle.basics.proofs.Laws.{same?, lt-or-le}
use Rattle.basics.proofs.Runs.{get_or-sets-out, get_or-sets-in}
use Rattle.basics.proofs.Finds.{first-below-is}
use Rattle.rules.specs.Tables.{Typed, heap_units, unit_bytes}
use Rattle.rules.specs.Answer.{called, asked, Words}
use Rattle.rules.specs.Dispatch.{context}
use Rattle.rules.specs.Sound.{Sound, heap_rule}
use Rattle.rules.specs.Step.{with_heap}
use Rattle.rules.specs.Heap.{unit, with_units, units_of, is_run, lowest_run, block_size, is_block, first_of, later_in, take_cases, take_effect, give_cases}
use Rattle.rules.specs.Heap.{give_effect, heap_call}
use Rattle.rules.specs.declared.Tables.{Tables}
use Rattle.rules_laws.proofs.Listed.{zero-at}
use Rattle.rules_laws.proofs.Calls.{chosen}
use Rattle.demand_2_soundness.proofs.Groups.{others-change, Settling, Keeps}
use Rattle.demand_2_soundness.proofs.Codes.{accepted-is}
use Rattle.demand_2_soundness.proofs.Waiting.{neither, both, sound-ranges, still-ready}
use Rattle.demand_2_soundness.proofs.Chosen.{chosen-keeps, unknown-keeps}
use Rattle.demand_2_soundness.proofs.Standing.{sound-almost}
use Rattle.demand_2_soundness.proofs.Objects.{free-is}

-- ---- entries stored from unit u on
module _ (h : List ℕ) (u : ℕ) (es : List ℕ) (fits : u + length es ≤ heap_units) (all : length h ≡ heap_units) where
  stored : with_units h u es ≡ sets h u es
  stored = rw (le-leb (u + length es) heap_units fits)

  units_in : (k : ℕ) → k < length es → unit (with_units h u es) (u + k) ≡ get_or es k 0
  units_in k l =
      rw (stored, lt-ltb (u + k) heap_units (omega arith)) (get_or-sets-in es h u k (omega arith) l)

  units-out : (v : ℕ) → (v < u) ⊎ (u + length es ≤ v) → unit (with_units h u es) v ≡ unit h v
  units-out v o = rw (stored, get_or-sets-out es h u v o)

  -- they are a block, or free, and who follows is no later one of a free unit
  module _ (rule : Means (heap_rule h))
      (below : (k : ℕ) → k < length es → get_or es k 0 < suc later_in)
      (later : (k : ℕ) → k < length es → get_or es k 0 ≡ later_in → (k ≢ 0) × (get_or es (k - 1) 0 ≢ 0))
      (next : u + length es < heap_units → unit h (u + length es) ≡ later_in → get_or es (length es - 1) 0 ≢ 0)
      (some : 0 < length es) where
    -- a later one in the heap as it is now
    abbrev Follows : ℕ → Type 0
    Follows v = unit (with_units h u es) v ≡ later_in → (v ≢ 0) × (unit (with_units h u es) (v - 1) ≢ 0)

    in-front : (v : ℕ) → v < heap_units → v < u → Follows v
    in-front v l f e =
        let (n, z) = (rule v l).1 (sym (units-out v (inl f)) ∙ e) in
        (n, λ q. z (sym (units-out (v - 1) (inl (omega arith))) ∙ q))

    inside : (k : ℕ) → k < length es → Follows (u + k)
    inside k l e =
        let (n, z) = later k l (sym (units_in k l) ∙ e) in
        let p : u + k - 1 ≡ u + (k - 1) = omega arith in
        (λ q. n (omega arith), λ q. z (sym (units_in (k - 1) (omega arith)) ∙ ap (unit (with_units h u es)) (sym p) ∙ q))

    behind : (v : ℕ) → v < heap_units → u + length es ≤ v → Follows v
    behind v l f e =
        let was : unit h v ≡ later_in = sym (units-out v (inr f)) ∙ e in
        let (n, z) = (rule v l).1 was in
        ⊎_elim
        (λ (q : u + length es ≡ v).
        let p : v - 1 ≡ u + (length es - 1) = omega arith in
        (n, λ y. next (omega arith) (rw q was) (sym (units_in (length es - 1) (omega arith)) ∙ ap (unit (with_units h u es)) (sym p) ∙ y)))
        (λ (q : u + length es ≢ v). (n, λ y. z (sym (units-out (v - 1) (inr (omega arith))) ∙ y)))
        (same? (u + length es) v)

    units-rule : Means (heap_rule (with_units h u es))
    units-rule v l =
        ⊎_elim
        (λ (f : v < u). (rw (units-out v (inl f)) (rule v l).0, in-front v l f))
        (λ (f : u ≤ v).
        ⊎_elim
        (λ (g : v < u + length es).
        let p : v ≡ u + (v - u) = omega arith in
        rw p (rw (units_in (v - u) (omega arith)) (below (v - u) (omega arith)), inside (v - u) (omega arith)))
        (λ (g : u + length es ≤ v). (rw (units-out v (inr g)) (rule v l).0, behind v l g))
        (lt-or-le v (u + length es)))
        (lt-or-le v u)

-- ---- "60 take": the lowest run is free, and a block stands there now
first-mark : (m k : ℕ) → k < suc m → (get_or (first_of ∷ replicate m later_in) k 0 ≢ 0) × (get_or (first_of ∷ replicate m later_in) k 0 < suc later_in)
first-mark m zero l = (λ e. omega arith, omega arith)
first-mark m (suc k) l =
    let e : get_or (first_of ∷ replicate m later_in) (suc k) 0 ≡ later_in = get_or-replicate m k later_in 0 (omega arith) in
    (λ z. omega arith, omega arith)

module _ (h : List ℕ) (all : length h ≡ heap_units) (rule : Means (heap_rule h)) where
  take-rule : (n u : ℕ) → 0 < n → u + n ≤ heap_units → Means (heap_rule (with_units h u (first_of ∷ replicate (n - 1) later_in)))
  take-rule n u low fits =
      let size : length (first_of ∷ replicate (n - 1) later_in) ≡ n = ap suc (length-replicate (n - 1) later_in) ∙ omega arith in
      units-rule h u (first_of ∷ replicate (n - 1) later_in) (omega arith) all rule
      (λ k l. (first-mark (n - 1) k (omega arith)).1)
      (λ k l e. (λ z. first k e z, (first-mark (n - 1) (k - 1) (omega arith)).0))
      (λ l e. (first-mark (n - 1) (length (first_of ∷ replicate (n - 1) later_in) - 1) (omega arith)).0)
      (omega arith)
    where
      first : (k : ℕ) → get_or (first_of ∷ replicate (n - 1) later_in) k 0 ≡ later_in → k ≢ 0
      first zero e z = omega arith
      first (suc k) e z = omega arith

  run_fits : (n : ℕ) → eqb (lowest_run h n) heap_units ≡ false → lowest_run h n + n ≤ heap_units
  unfolding lowest_run is_run
  run_fits n some = leb-true _ _ (both (leb (lowest_run h n + n) heap_units) _ (free-is heap_units (is_run h n) some).1).0

  -- ---- "61 give back": the whole block is free, and none of it stands behind
  unit-below : (u : ℕ) → unit h u ≢ 0 → u < heap_units
  unit-below u n = ⊎_elim (λ l. l) (λ l. absurd (n (rw (le-ltb u heap_units l)))) (lt-or-le u heap_units)

  block-fits : (u : ℕ) → u < heap_units → (0 < block_size h u) × (u + block_size h u ≤ heap_units)
  unfolding block_size
  block-fits u l =
      let f = first-below-is (heap_units - suc u) (λ k. not (eqb (unit h (suc u + k)) later_in)) in
      (omega arith, omega (arith, f.high))

  block-ends : (u : ℕ) → u + block_size h u < heap_units → unit h (u + block_size h u) ≢ later_in
  unfolding block_size
  block-ends u l =
      let k : ℕ = first_below (heap_units - suc u) (λ k. not (eqb (unit h (suc u + k)) later_in)) in
      let f = first-below-is (heap_units - suc u) (λ k. not (eqb (unit h (suc u + k)) later_in)) in
      let p : u + suc k ≡ suc u + k = omega arith in
      rw p (eqb-false (unit h (suc u + k)) later_in (not-true _ (f.has (omega arith))))

  give-rule : (u : ℕ) → unit h u ≡ first_of → Means (heap_rule (with_units h u (zeros (block_size h u))))
  give-rule u e =
      let (some, fits) = block-fits u (unit-below u (λ z. omega arith)) in
      let size : length (zeros (block_size h u)) ≡ block_size h u = length-replicate (block_size h u) 0 in
      units-rule h u (zeros (block_size h u)) (omega arith) all rule
      (λ k l. omega (arith, zero-at (block_size h u) k))
      (λ k l z. absurd (omega (arith, zero-at (block_size h u) k)))
      (λ l z. absurd (block-ends u (rw size at l) (rw size at z)))
      (omega arith)

-- ---- the calls
length-units : (h : List ℕ) (u : ℕ) (es : List ℕ) → length (with_units h u es) ≡ length h
length-units h u es =
    chosen (λ (l : List ℕ). length l ≡ length h) (leb (u + length es) heap_units) _ _ (λ e. length-sets h u es) (λ e. refl)

module _ (t : Tables) (typed : Typed t) (s : Sound t) where
  -- the heap changes alone
  heap-settles : (u : ℕ) (es : List ℕ) → Means (heap_rule (with_units t.heap u es)) → Settling (with_heap t (with_units t.heap u es))
  heap-settles u es rule =
      let a = sound-almost t typed s in
      let almost =
      others-change t a t.semaphores t.events t.mailboxes t.clocks (with_units t.heap u es) t.state
      refl refl refl refl (length-units t.heap u es) refl refl a.semaphores a.events a.mailboxes a.clocks rule in
      record { almost = almost; ranges = sound-ranges t s; current = inl (still-ready t s) }

  take-keeps : (x a b c d : ℕ) → Keeps (with_heap t) (called (take_cases t.heap x a b c d) (take_effect t.heap a))
  unfolding take_cases take_effect
  take-keeps x a b c d z =
      let ok = accepted-is (take_cases t.heap x a b c d) z in
      let n : a ≢ 0 = eqb-false a 0 (neither (eqb a 0) _ (neither (eqb a 0 || not (leb a (heap_units * unit_bytes))) _ ok.at4).0).0 in
      let low : 0 < units_of a = omega arith in
      heap-settles (lowest_run t.heap (units_of a)) (first_of ∷ replicate (units_of a - 1) later_in)
      (take-rule t.heap typed.heap s.heap (units_of a) (lowest_run t.heap (units_of a)) low
      (run_fits t.heap typed.heap s.heap (units_of a) ok.at8))

  give-keeps : (x a b c d : ℕ) → Keeps (with_heap t) (called (give_cases t.heap x a b c d) (give_effect t.heap a))
  unfolding give_cases give_effect is_block
  give-keeps x a b c d z =
      let ok = accepted-is (give_cases t.heap x a b c d) z in
      let is : is_block t.heap a b ≡ true = not-false _ (neither (not (is_block t.heap a b)) _ ok.at4).0 in
      let e = (both (eqb (a % unit_bytes) 0) _ (both (eqb (a % unit_bytes) 0 && eqb (unit t.heap (a / unit_bytes)) first_of) _ is).0).1 in
      heap-settles (a / unit_bytes) (zeros (block_size t.heap (a / unit_bytes)))
      (give-rule t.heap typed.heap s.heap (a / unit_bytes) (eqb-true _ _ e))

pub heap-keeps : (t : Tables) → Typed t → Sound t → (number a b c d : ℕ) → Words (asked number a b c d)
    → Keeps (with_heap t) (heap_call t.heap (context t.lines t.state) number a b c d)
unfolding heap_call
heap-keeps t typed s number a b c d w =
    chosen-keeps (with_heap t) (eqb number 0x60) _ _ (take-keeps t typed s (context t.lines t.state) a b c d)
    (chosen-keeps (with_heap t) (eqb number 0x61) _ _ (give-keeps t typed s (context t.lines t.state) a b c d)
    (unknown-keeps (with_heap t) t.heap))
