-- Posts that are told are posts that were made: at a tick, clock by clock, and of the calls 12 to 16.
use Prim.Native.Nat.{ℕ, zero, suc, ◌+◌, ◌≤◌, ◌<◌, ◌*◌}
use mathlib.Core.Path.{◌≡◌, refl, sym, ap, ◌∙◌}
use mathlib.Core.Logic.{◌≢◌, ◌⊎◌, inl, inr, ⊎_elim}
use mathlib.Core.Bool.{Bool, true, false, not, ◌&&◌, ◌||◌, cond as if, or-false, or-true, or_assoc, and-true, and-false}
use mathlib.Core.List.{List, [], ◌∷◌, ◌++◌}
use native.Mathlib.Omega.{arith}
use borrow.Author.Tests.{eq-eqb, ne_eqb, lt-ltb}
use lib.Bits.{bit_or}
use lib.Dec.{eqb, ltb}
use lib.ListN.{length}
use Rattle.basics.specs.Find.{all_below, rising}
use Rattle.basics.proofs.Laws.{same?}
use Rattle.rules.specs.Tables.{Typed, swi_count, clock_count, swi, with_swi, clock, with_clock, USED, POSTED, TRIGGER, swi_width}
use Rattle.rules.specs.Swis.{SwiQueues, swi_queues, posted, triggered, one_up, one_down, cleared, post_effect, change_effect, zero_effect, swi_call}
use Rattle.rules.specs.Tick.{ClockTables, clock_tables, clock_tick, clocks_ticked, posted_if, aged}
use Rattle.rules.specs.Sound.{Sound, clock_rule}
use Rattle.rules.specs.declared.Tables.{Tables}
use Rattle.rules.specs.declared.Clock.{Clock}
use Rattle.rules_laws.proofs.Calls.{chosen}
use Rattle.demand_2_soundness.proofs.ClockRows.{clock-other}
use Rattle.demand_2_soundness.proofs.SwiTables.{length-swi, swi-same, swi-row, swi-other, swi-below}
use Rattle.trace_changes.specs.Numbers.{each_below, told}
use Rattle.trace_changes.specs.Changes.{post, is_posted, call_posts, runs_out, posted_below, clock_post, clock_posts}
use Rattle.trace_told.specs.Told.{at_turn, post_found, PostsTold, PostTold}

-- ---- one post: Swi i is posted now if it was, or if it is the one that is posted
module _ (p : SwiQueues) (full : length p.swis ≡ swi_count * swi_width) (j i : ℕ) (low : i < swi_count) where
  first-post : (j ≡ i) → swi p.swis j POSTED ≡ 0 → is_posted (with_swi p.swis j POSTED 1) i ≡ true
  first-post e z = rw (e, swi-same p.swis i POSTED 1 full low (omega arith))

  pub posted-is : is_posted (posted j p).swis i ≡ (is_posted p.swis i || eqb j i)
  unfolding posted
  posted-is =
      ⊎_elim
      (λ (e : j ≡ i).
      ⊎_elim
      (λ (z : swi p.swis j POSTED ≡ 0).
      rw (lt-ltb j swi_count (omega arith), eq-eqb (swi p.swis j POSTED) 0 z, first-post e z, eq-eqb j i e) (sym (or-true (is_posted p.swis i))))
      (λ (n : swi p.swis j POSTED ≢ 0).
      let there : is_posted p.swis i ≡ true = rw (← e, ne_eqb (swi p.swis j POSTED) 0 n) in
      rw (ne_eqb (swi p.swis j POSTED) 0 n, and-false (ltb j swi_count), there))
      (same? (swi p.swis j POSTED) 0))
      (λ (n : j ≢ i).
      let other : swi (with_swi p.swis j POSTED 1) i POSTED ≡ swi p.swis i POSTED = swi-row p.swis j POSTED 1 i POSTED (λ e. n (sym e)) in
      rw (ne_eqb j i n, or-false (is_posted p.swis i))
      (chosen (λ (q : SwiQueues). is_posted q.swis i ≡ is_posted p.swis i) (ltb j swi_count && eqb (swi p.swis j POSTED) 0) _ _
      (λ _. rw other)
      (λ _. refl)))
      (same? j i)

  posted-if : (fired : Bool) → is_posted (posted_if fired j p).swis i ≡ (is_posted p.swis i || (fired && eqb j i))
  posted-if true = posted-is
  posted-if false = sym (or-false (is_posted p.swis i))

-- posts lose no row
posted-full : (p : SwiQueues) (j : ℕ) → length (posted j p).swis ≡ length p.swis
unfolding posted
posted-full p j =
    chosen (λ (q : SwiQueues). length q.swis ≡ length p.swis) (ltb j swi_count && eqb (swi p.swis j POSTED) 0) _ _
    (λ _. length-swi p.swis j POSTED 1)
    (λ _. refl)

each_same : (n : ℕ) (f g : ℕ → List ℕ) → ((i : ℕ) → i < n → f i ≡ g i) → each_below n f ≡ each_below n g
unfolding each_below
each_same zero f g h = refl
each_same (suc n) f g h = rw (each_same n f g (λ i l. h i (omega arith)), h n (omega arith))

-- ---- a tick, clock by clock
not-both : (a b : Bool) → not (a && not b) ≡ (not a || b)
not-both true true = refl
not-both true false = refl
not-both false b = refl

below_none : (cs : List ℕ) (i : ℕ) → posted_below cs i 0 ≡ false
unfolding posted_below all_below
below_none cs i = refl

below_more : (cs : List ℕ) (i c : ℕ) → posted_below cs i (suc c) ≡ (posted_below cs i c || (runs_out cs c && eqb (clock cs c).swi i))
unfolding posted_below all_below
below_more cs i c =
    not-both (all_below c (λ n. not (runs_out cs n && eqb (clock cs n).swi i))) (runs_out cs c && eqb (clock cs c).swi i)

module _ (cs ws ls : List ℕ) (full : length ws ≡ swi_count * swi_width) where
  -- a clock is at its turn as it was before
  later_same : (c n : ℕ) → c ≤ n → clock (at_turn cs ws ls c).clocks n ≡ clock cs n
  unfolding rising clock_tick
  later_same zero n l = refl
  later_same (suc c) n l = clock-other (at_turn cs ws ls c).clocks c _ n (λ e. omega arith) ∙ later_same c n (omega arith)

  still_full : (c : ℕ) → length (at_turn cs ws ls c).swis ≡ swi_count * swi_width
  unfolding rising clock_tick
  still_full zero = full
  still_full (suc c) =
      let x = at_turn cs ws ls c in
      chosen (λ (q : SwiQueues). length q.swis ≡ swi_count * swi_width) (aged (clock x.clocks c)).fired _ _
      (λ _. posted-full (swi_queues x.swis x.lines) (clock x.clocks c).swi ∙ still_full c)
      (λ _. still_full c)

  -- what is told as 'posted already' is what the Swi's row says then
  pub posted-then : (c i : ℕ) → i < swi_count → is_posted (at_turn cs ws ls c).swis i ≡ (is_posted ws i || posted_below cs i c)
  unfolding rising clock_tick
  posted-then zero i low = rw (below_none cs i) (sym (or-false (is_posted ws i)))
  posted-then (suc c) i low =
      let x = at_turn cs ws ls c in
      let k = later_same c c (omega arith) in
      posted-if (swi_queues x.swis x.lines) (still_full c) (clock x.clocks c).swi i low (aged (clock x.clocks c)).fired
      ∙ rw (k, posted-then c i low, below_more cs i c) (or_assoc (is_posted ws i) (posted_below cs i c) (runs_out cs c && eqb (clock cs c).swi i))

  module _ (named : (c : ℕ) → c < clock_count → (clock cs c).swi < swi_count) where
    post-found : (c : ℕ) → c < clock_count → clock_post cs ws c ≡ post_found (at_turn cs ws ls c) c
    unfolding clock_post post_found
    post-found c l =
        let k = later_same c c (omega arith) in
        let fired : runs_out (at_turn cs ws ls c).clocks c ≡ runs_out cs c = ap (λ (y : Clock). (aged y).fired) k in
        rw (fired, k, posted-then c (clock cs c).swi (named c l))

    pub ticks-told : PostsTold cs ws ls
    unfolding clock_posts
    ticks-told =
        record {
          each = each_same clock_count (clock_post cs ws) _ post-found;
          after = λ i low. posted-then clock_count i low;
        }

-- on sound tables every clock names a Swi
pub tick-told : (t : Tables) → Typed t → Sound t → PostsTold t.clocks t.swis t.lines
unfolding clock_rule
tick-told t typed sound =
    ticks-told t.clocks t.swis t.lines typed.swis
    (λ c l.
    let k = clock t.clocks c in
    let rule = sound.clocks c l in
    ⊎_elim
    (λ (e : k.used ≡ 0). let z = (rule.1.0 e).0 in omega arith)
    (λ (n : k.used ≢ 0). let used = (rule.1.1 (omega (arith, rule.0))).0 in swi-below t.swis k.swi USED (λ z. omega arith))
    (same? k.used 0))

-- ---- the calls 12 to 16
module _ (ws ls : List ℕ) (full : length ws ≡ swi_count * swi_width) (a i : ℕ) (low : i < swi_count) where
  -- the trigger is v now, and the Swi posted if b says so
  changed : (v : ℕ) (b : Bool)
      → is_posted (if b (posted a (triggered a v (swi_queues ws ls))) (triggered a v (swi_queues ws ls))).swis i ≡ (is_posted ws i || (b && eqb a i))
  changed v b =
      let p = triggered a v (swi_queues ws ls) in
      let same : swi (with_swi ws a TRIGGER v) i POSTED ≡ swi ws i POSTED = swi-other ws a TRIGGER v i POSTED (λ e. omega arith) in
      rw same at (posted-if p (length-swi ws a TRIGGER v ∙ full) a i low b)

  module _ (cs st : List ℕ) (x b c d : ℕ) where
    is-12 : is_posted (swi_call (swi_queues ws ls) cs st x 0x12 a b c d).effect.next.swis i ≡ (is_posted ws i || (call_posts ws 0x12 a b && eqb a i))
    unfolding swi_call post_effect call_posts
    is-12 = posted-is (swi_queues ws ls) full a i low

    is-13 : is_posted (swi_call (swi_queues ws ls) cs st x 0x13 a b c d).effect.next.swis i ≡ (is_posted ws i || (call_posts ws 0x13 a b && eqb a i))
    unfolding swi_call change_effect call_posts
    is-13 = changed (one_up (swi ws a TRIGGER)) true

    is-14 : is_posted (swi_call (swi_queues ws ls) cs st x 0x14 a b c d).effect.next.swis i ≡ (is_posted ws i || (call_posts ws 0x14 a b && eqb a i))
    unfolding swi_call zero_effect call_posts
    is-14 = let v = one_down (swi ws a TRIGGER) in rw (or-false (eqb v 0)) (changed v (eqb v 0))

    is-15 : is_posted (swi_call (swi_queues ws ls) cs st x 0x15 a b c d).effect.next.swis i ≡ (is_posted ws i || (call_posts ws 0x15 a b && eqb a i))
    unfolding swi_call change_effect call_posts
    is-15 = changed (bit_or (swi ws a TRIGGER) b) true

    is-16 : is_posted (swi_call (swi_queues ws ls) cs st x 0x16 a b c d).effect.next.swis i ≡ (is_posted ws i || (call_posts ws 0x16 a b && eqb a i))
    unfolding swi_call zero_effect call_posts
    is-16 = let v = cleared (swi ws a TRIGGER) b in changed v (eqb v 0)

pub posts-told : (ws ls : List ℕ) → length ws ≡ swi_count * swi_width → (cs st : List ℕ) (x number a b c d : ℕ) → 0x12 ≤ number → number ≤ 0x16
    → PostTold ws ls cs st x number a b c d
posts-told ws ls full cs st x number a b c d from to =
    record {
      after = λ i low.
          either 0x12 (λ e. rw e (is-12 ws ls full a i low cs st x b c d)) (λ m.
          either 0x13 (λ e. rw e (is-13 ws ls full a i low cs st x b c d)) (λ n.
          either 0x14 (λ e. rw e (is-14 ws ls full a i low cs st x b c d)) (λ o.
          either 0x15 (λ e. rw e (is-15 ws ls full a i low cs st x b c d)) (λ p.
          let e : number ≡ 0x16 = omega arith in rw e (is-16 ws ls full a i low cs st x b c d)))));
    }
  where
    either : (n : ℕ) {A : Type 0} → (number ≡ n → A) → (number ≢ n → A) → A
    either n f g = ⊎_elim f g (same? number n)
