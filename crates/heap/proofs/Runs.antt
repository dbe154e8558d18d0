-- Free units, adjacent ones and runs of free ones, over any list: what the loops of the search keep and what they end with.
use Prim.Native.Nat.{ℕ, zero, suc, ◌+◌, ◌-◌, ◌≤◌, ◌<◌, min}
use mathlib.Core.Path.{◌≡◌, refl, sym, ap, ◌∙◌}
use mathlib.Core.Logic.{◌≢◌, ⊎_elim}
use mathlib.Core.Bool.{Bool, true, false, not, ◌&&◌, and-false, true≢false}
use mathlib.Core.List.{List}
use native.Mathlib.Omega.{arith}
use borrow.Author.Tests.{not-true, not-false, lt-ltb, le-ltb, le-leb, lt-leb, eq-eqb, ne_eqb}
use lib.Dec.{eqb, leb}
use lib.ListN.{get_or}
use Rattle.basics.specs.Find.{all_below, first_below, first_from, highest_below}
use Rattle.basics.proofs.Laws.{lt-or-le}
use Rattle.basics.proofs.Finds.{all_none, all-step, all_end, all-at, all-make, all-no}
use Rattle.basics.proofs.Finds.{Passed, first-starts, first_goes, first-here, first-none, IsFirst, first-is, first-below-is}
use Rattle.basics.proofs.Finds.{high_goes, high-here, high_is, high_one, IsHighest}
use Rattle.rules.specs.Tables.{heap_units}
use Rattle.rules.specs.Heap.{unit, is_run, lowest_run}
use Rattle.heap.specs.Free.{is_free, none_free, first_free, free_from, adjacent}

pub unit-in : (h : List ℕ) (u : ℕ) → u < heap_units → unit h u ≡ get_or h u 0
unit-in h u l = rw (lt-ltb u heap_units l)

free_in : (h : List ℕ) (u : ℕ) → u < heap_units → is_free h u ≡ eqb (get_or h u 0) 0
free_in h u l = ap (λ (e : ℕ). eqb e 0) (unit-in h u l)

free-past : (h : List ℕ) (u : ℕ) → heap_units ≤ u → is_free h u ≡ true
free-past h u l = rw (le-ltb u heap_units l)

-- a search goes on past numbers that all lack f
passed_on : (n : ℕ) (f : ℕ → Bool) (r d i : ℕ) → i + d ≤ n → ((j : ℕ) → i ≤ j → j < i + d → f j ≡ false) → Passed n f r i → Passed n f r (i + d)
passed_on n f r zero i l e p = let q : i + 0 ≡ i = omega arith in rw q p
passed_on n f r (suc d) i l e p =
    let q : i + suc d ≡ i + d + 1 = omega arith in
    let ih = passed_on n f r d i (omega arith) (λ j a b. e j a (omega arith)) p in
    rw q (first_goes n f r (i + d) (omega arith) (e (i + d) (omega arith) (omega arith)) ih)

-- the k-th unit from u on has another entry than e
abbrev other : List ℕ → ℕ → ℕ → ℕ → Bool
other h u e k = not (eqb (unit h (u + k)) e)

-- ---- 16 units at once
module _ (h : List ℕ) (u : ℕ) where
  pub none-past : 240 < u → false ≡ none_free h u
  unfolding none_free
  none-past l = all-no (other h u 0) 16 15 (omega arith) (sym (ap not (free-past h (u + 15) (omega arith)))) refl

  pub none-low : none_free h u ≡ true → u ≤ 240
  none-low e =
      let n : 240 < u → ⊥ = λ l. true≢false (sym e ∙ sym (none-past l)) in
      omega arith

  none-at : none_free h u ≡ true → (j : ℕ) → u ≤ j → j < u + 16 → is_free h j ≡ false
  unfolding none_free
  none-at e j a b =
      let q : u + (j - u) ≡ j = omega arith in
      rw q at (not-true (is_free h (u + (j - u))) (all-at (other h u 0) 16 e (j - u) (omega arith)))

-- none of the first k is free
pub record Taken (h : List ℕ) (u k : ℕ) (none : Bool) : Type 0 where
  pub low : u ≤ 240
  pub high : k ≤ 16
  pub so_far : none ≡ all_below k (other h u 0)

module _ (h : List ℕ) (u : ℕ) where
  pub taken_none : u ≤ 240 → Taken h u 0 true
  taken_none l = record { low = l; high = omega arith; so_far = sym (all_none _) }

  module _ (k : ℕ) {none : Bool} (t : Taken h u k none) where
    pub taken_more : k < 16 → Taken h u (k + 1) (none && not (eqb (get_or h (u + k) 0) 0))
    taken_more l =
        let e = sym (ap not (free_in h (u + k) (omega (arith, t.low)))) in
        record { low = t.low; high = omega arith; so_far = all-step (other h u 0) k t.so_far e }

    pub taken-all : 16 ≤ k → none ≡ none_free h u
    unfolding none_free
    taken-all l = all_end (other h u 0) k 16 t.high l t.so_far

-- ---- the first free unit
module _ (h : List ℕ) (u : ℕ) where
  pub free-on16 : none_free h u ≡ true → first_free h (u + 16) ≡ first_free h u
  unfolding first_free Passed
  free-on16 e = passed_on heap_units (is_free h) (first_free h u) 16 u (omega (arith, none-low h u e)) (none-at h u e) refl

  module _ (l : u < heap_units) where
    pub free-here : get_or h u 0 ≡ 0 → first_free h u ≡ u
    unfolding first_free Passed
    free-here e = sym (first-here heap_units (is_free h) (first_free h u) u l (free_in h u l ∙ eq-eqb _ 0 e) refl)

    pub free_on : get_or h u 0 ≢ 0 → first_free h (u + 1) ≡ first_free h u
    unfolding first_free Passed
    free_on e = first_goes heap_units (is_free h) (first_free h u) u l (free_in h u l ∙ ne_eqb _ 0 e) refl

  pub free-end : heap_units ≤ u → first_free h u ≡ u
  unfolding first_free first_from
  free-end l = let q : heap_units - u ≡ 0 = omega arith in rw q

-- four in a turn: those that are not free are passed one after the other
module _ (h : List ℕ) (u : ℕ) (l : u < 253) where
  past : (k : ℕ) → k ≤ 3 → get_or h (u + k) 0 ≢ 0 → first_free h (u + k) ≡ first_free h u → first_free h (u + suc k) ≡ first_free h u
  past k m e p = let q : u + k + 1 ≡ u + suc k = omega arith in (rw q at (free_on h (u + k) (omega arith) e)) ∙ p

  module _ (e0 : get_or h u 0 ≢ 0) where
    pub past-1 : first_free h (u + 1) ≡ first_free h u
    past-1 = free_on h u (omega arith) e0

    module _ (e1 : get_or h (u + 1) 0 ≢ 0) where
      pub past-2 : first_free h (u + 2) ≡ first_free h u
      past-2 = past 1 (omega arith) e1 past-1

      module _ (e2 : get_or h (u + 2) 0 ≢ 0) where
        pub past-3 : first_free h (u + 3) ≡ first_free h u
        past-3 = past 2 (omega arith) e2 past-2

        pub past-4 : get_or h (u + 3) 0 ≢ 0 → first_free h (u + 4) ≡ first_free h u
        past-4 e3 = past 3 (omega arith) e3 past-3

-- ---- the place from which on all before e are free
abbrev not_free : List ℕ → ℕ → Bool
not_free h j = not (is_free h j)

-- of the units before e those from p on are free: the search has those before p left
pub record FreeTo (h : List ℕ) (e p : ℕ) : Type 0 where
  pub within : p ≤ heap_units
  pub passed : highest_below p (not_free h) ≡ highest_below e (not_free h)

module _ (h : List ℕ) (e : ℕ) where
  -- units past the heap count as free, so the search starts at its end
  pub from_start : {p : ℕ} → p ≡ min e heap_units → FreeTo h e p
  from_start {p} q =
      let low = high_is p (not_free h) in
      let after : (j : ℕ) → highest_below p (not_free h) ≤ j → j < e → not_free h j ≡ false = λ j a b.
      ⊎_elim (λ (c : j < p). low.after j a c) (λ (c : p ≤ j). ap not (free-past h j (omega arith))) (lt-or-le j p) in
      let all : IsHighest e (not_free h) (highest_below p (not_free h)) = record { high = omega (arith, low.high); has = low.has; after = after } in
      record { within = omega arith; passed = high_one e (not_free h) _ _ all (high_is e (not_free h)) }

  module _ (u p : ℕ) (s : FreeTo h e p) where
    pub from-none : p ≤ u → u ≡ free_from h u e
    unfolding free_from
    from-none l = omega (arith, s.passed, (high_is p (not_free h)).high)

    module _ (l : u < p) where
      in_place : is_free h (p - 1) ≡ eqb (get_or h (p - 1) 0) 0
      in_place = free_in h (p - 1) (omega (arith, s.within))

      pub from-here : get_or h (p - 1) 0 ≢ 0 → p ≡ free_from h u e
      unfolding free_from
      from-here d =
          let q = high-here (not_free h) p (highest_below e (not_free h)) (omega arith) (ap not (in_place ∙ ne_eqb _ 0 d)) s.passed in
          omega (arith, q)

      pub from_on : get_or h (p - 1) 0 ≡ 0 → FreeTo h e (p - 1)
      from_on d =
          record {
            within = omega (arith, s.within);
            passed = high_goes (not_free h) p (highest_below e (not_free h)) (omega arith) (ap not (in_place ∙ eq-eqb _ 0 d)) s.passed;
          }

-- ---- how many adjacent units have entry e, n at most
module _ (h : List ℕ) (u n e : ℕ) where
  unfoldable pub Counted : ℕ → Type 0
  Counted k = Passed (min n (heap_units - u)) (other h u e) (adjacent h u n e) k

  pub counted-past : heap_units ≤ u → 0 ≡ adjacent h u n e
  unfolding adjacent first_below first_from
  counted-past l = let q : min n (heap_units - u) ≡ 0 = omega arith in rw q

  pub counted_none : Counted 0
  unfolding Counted adjacent
  counted_none = first-starts _ _

  pub counted-most : {k : ℕ} → k ≡ adjacent h u n e → k ≤ n
  unfolding adjacent
  counted-most q = omega (arith, (first-below-is (min n (heap_units - u)) (other h u e)).high)

  module _ (k : ℕ) (s : Counted k) where
    pub counted-all : k ≤ min n (heap_units - u) → min n (heap_units - u) ≤ k → k ≡ adjacent h u n e
    unfolding Counted
    counted-all a b = omega (arith, first-none (min n (heap_units - u)) (other h u e) (adjacent h u n e) k b a s)

    module _ (l : k < min n (heap_units - u)) where
      in_heap : unit h (u + k) ≡ get_or h (u + k) 0
      in_heap = unit-in h (u + k) (omega arith)

      pub counted-ends : get_or h (u + k) 0 ≢ e → k ≡ adjacent h u n e
      unfolding Counted
      counted-ends d = first-here _ _ _ k l (ap not (ne_eqb (unit h (u + k)) e (λ z. d (sym in_heap ∙ z)))) s

      pub counted-more : get_or h (u + k) 0 ≡ e → Counted (k + 1)
      unfolding Counted
      counted-more d = first_goes _ _ _ k l (ap not (eq-eqb (unit h (u + k)) e (in_heap ∙ d))) s

-- ---- a run of n free units
-- no run starts before u
pub record NoRun (h : List ℕ) (n u : ℕ) : Type 0 where
  pub short : n ≤ heap_units
  pub within : u ≤ heap_units
  pub passed : Passed heap_units (is_run h n) (lowest_run h n) u

module _ (h : List ℕ) (n : ℕ) where
  -- none starts where a unit of it is not free, or is past the heap
  no_run : (u p : ℕ) → u ≤ p → p < u + n → is_free h p ≡ false → is_run h n u ≡ false
  unfolding is_run
  no_run u p a b e =
      let q : u + (p - u) ≡ p = omega arith in
      let f : ℕ → Bool = λ k. is_free h (u + k) in
      let t : false ≡ f (p - u) = rw q (sym e) in
      rw (sym (all-no f n (p - u) (omega arith) t refl)) (and-false (leb (u + n) heap_units))

  too_long : (u : ℕ) → heap_units < u + n → is_run h n u ≡ false
  unfolding is_run
  too_long u l = rw (lt-leb (u + n) heap_units l)

  -- a search that has come to u goes on at v where no run starts between them
  skipped : (u v : ℕ) → u ≤ v → v ≤ heap_units → ((j : ℕ) → u ≤ j → j < v → is_run h n j ≡ false) → Passed heap_units (is_run h n) (lowest_run h n) u
      → Passed heap_units (is_run h n) (lowest_run h n) v
  skipped u v a b none p =
      let q : u + (v - u) ≡ v = omega arith in
      rw q at (passed_on heap_units (is_run h n) (lowest_run h n) (v - u) u (omega arith) (λ j c d. none j c (omega arith)) p)

  starts : Passed heap_units (is_run h n) (lowest_run h n) 0
  unfolding lowest_run
  starts = first-starts heap_units (is_run h n)

  -- a run that starts at u or later ends past the heap
  none_left : (u : ℕ) → u ≤ heap_units → heap_units < u + n → Passed heap_units (is_run h n) (lowest_run h n) u → heap_units ≡ lowest_run h n
  none_left u a l p =
      first-none heap_units (is_run h n) (lowest_run h n) heap_units (omega arith) (omega arith)
      (skipped u heap_units a (omega arith) (λ j c d. too_long j (omega arith)) p)

  pub run-never : heap_units < n → heap_units ≡ lowest_run h n
  run-never l = none_left 0 (omega arith) (omega arith) starts

  pub run-start : n ≤ heap_units → NoRun h n 0
  run-start l = record { short = l; within = omega arith; passed = starts }

  module _ (u : ℕ) (s : NoRun h n u) where
    pub run_end : heap_units - n < u → heap_units ≡ lowest_run h n
    run_end l = none_left u s.within (omega (arith, s.short)) s.passed

    module _ (p : ℕ) (l : u ≤ heap_units - n) (start : p ≡ free_from h u (u + n)) where
      last : IsHighest (u + n) (not_free h) (highest_below (u + n) (not_free h))
      last = high_is (u + n) (not_free h)

      fits : u + n ≤ heap_units
      fits = omega (arith, s.short)

      -- only for n = 0 does 256 pass the loop's test, and there the search ends with 256
      pub run-here : p ≡ u → u ≡ lowest_run h n
      unfolding is_run free_from
      run-here e =
          let f = all-make (λ j. is_free h (u + j)) n (λ j b. not-false _ (last.after (u + j) (omega arith) (omega arith))) in
          ⊎_elim
          (λ (c : u < heap_units). first-here heap_units (is_run h n) (lowest_run h n) u c (rw (le-leb (u + n) heap_units fits) f) s.passed)
          (λ (c : heap_units ≤ u). omega (arith, first-none heap_units (is_run h n) (lowest_run h n) u c s.within s.passed))
          (lt-or-le u heap_units)

      module _ (e : p ≢ u) {v : ℕ} (first : v ≡ first_free h p) where
        is_last : IsHighest (u + n) (not_free h) p
        unfolding free_from
        is_last = let q : highest_below (u + n) (not_free h) ≡ p = omega arith in rw q at last

        next : IsFirst p heap_units (is_free h) v
        unfolding first_free
        next =
            let q : p + (heap_units - p) ≡ heap_units = omega (arith, is_last.high, fits) in
            rw (sym first) at (rw q at (first-is p (heap_units - p) (is_free h)))

        pub run-later : heap_units - v < heap_units - u
        unfolding free_from
        run-later = omega (arith, is_last.high, fits, next.low)

        -- each start before v has a unit that is not free: the one before p, or itself
        none_before : (j : ℕ) → u ≤ j → j < v → is_run h n j ≡ false
        unfolding free_from
        none_before j a b =
            ⊎_elim
            (λ (c : j < p). no_run j (p - 1) (omega arith) (omega (arith, is_last.high)) (not-true _ (is_last.has (omega arith))))
            (λ (c : p ≤ j). no_run j j (omega arith) (omega (arith, is_last.high)) (next.before j c b))
            (lt-or-le j p)

        pub run-next : NoRun h n v
        run-next =
            record { short = s.short; within = next.high; passed = skipped u v (omega (arith, run-later)) next.high none_before s.passed }
