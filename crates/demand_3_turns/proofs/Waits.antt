-- Any calls one after the other, and a task that waits without end: it waits on, or an accepted post on its semaphore has served it.
use Prim.Native.Nat.{ℕ, ◌+◌, ◌-◌, ◌<◌, ◌≤◌}
use mathlib.Core.Path.{refl, ap}
use mathlib.Core.Logic.{◌⊎◌, inl, inr, ⊎_elim}
use mathlib.Core.List.{List, [], ◌∷◌}
use native.Mathlib.Omega.{arith}
use lib.ListN.{length}
use Rattle.basics.specs.Lists.{bit}
use Rattle.rules.specs.Tables.{Typed, ready}
use Rattle.rules.specs.Sound.{Sound}
use Rattle.rules.specs.declared.Tables.{Tables}
use Rattle.runs.specs.Run.{next, after, Always, Each, AllWords}
use Rattle.runs.specs.Turn.{BlockedOn, before_at, is_post, posts_on, ServedIn}
use Rattle.demand_3_turns.proofs.Made.{next-typed, next-sound}
use Rattle.demand_3_turns.proofs.Turns.{Waiter, Stays, Served, waiter-stays}
use Rattle.rules.specs.declared.Call.{Call}

-- a run that begins with q and then serves task i
further : (s i k m : ℕ) (u : Tables) (q : Call) (qs : List Call) → BlockedOn s i u → bit (is_post s u q) + m ≤ k → ServedIn s i m (next u q) qs
    → ServedIn s i k u (q ∷ qs)
unfolding Always after posts_on
further s i k m u q qs b le x =
    record {
      before = q ∷ x.before;
      post = x.post;
      rest = x.rest;
      split = ap (λ (l : List Call). q ∷ l) x.split;
      blocked = (b, x.blocked);
      few = omega (arith, x.few);
      posted = x.posted;
      moment = x.moment;
      now = x.now;
      ready = x.ready;
      outcome = x.outcome;
      value = x.value;
    }

-- it waits on, with those before it lessened by each post; or it was served
module _ (s i : ℕ) where
  pub turn : (k : ℕ) (u : Tables) → Typed u → Sound u → Waiter s i u → length (before_at s i u) ≤ k → (qs : List Call) → AllWords u qs
      → (Always (BlockedOn s i) u qs × (length (before_at s i (after u qs)) + posts_on s u qs ≤ k)) ⊎ ServedIn s i k u qs
  unfolding Each Always after posts_on
  turn k u typed sound w le [] words = inl (w.blocked, omega (arith, le))
  turn k u typed sound w le (q ∷ qs) (word, words) =
      ⊎_elim
      (λ (r : Stays s i u q).
      let fewer : length (before_at s i (next u q)) ≤ k - bit (is_post s u q) = omega (arith, r.1, le) in
      let room : bit (is_post s u q) + (k - bit (is_post s u q)) ≤ k = omega (arith, r.1, le) in
      ⊎_elim
      (λ (h : Always (BlockedOn s i) (next u q) qs × (length (before_at s i (after (next u q) qs)) + posts_on s (next u q) qs ≤ k - bit (is_post s u q))).
      inl ((w.blocked, h.0), omega (arith, h.1, room)))
      (λ (x : ServedIn s i (k - bit (is_post s u q)) (next u q) qs). inr (further s i k (k - bit (is_post s u q)) u q qs w.blocked room x))
      (turn (k - bit (is_post s u q)) (next u q) (next-typed u typed sound q word) (next-sound u typed sound q word) r.0 fewer qs words))
      (λ (x : Served s i u q).
      inr
      record {
        before = [];
        post = q;
        rest = qs;
        split = refl;
        blocked = w.blocked;
        few = omega arith;
        posted = x.post;
        moment = next u q;
        now = refl;
        ready = x.ready;
        outcome = x.outcome;
        value = x.value;
      })
      (waiter-stays u typed sound q s i w)

  -- after more than k accepted posts on s it was served
  pub in-time : (k : ℕ) (u : Tables) → Typed u → Sound u → Waiter s i u → length (before_at s i u) ≤ k → (qs : List Call) → AllWords u qs
      → k < posts_on s u qs → ServedIn s i k u qs
  in-time k u typed sound w le qs words many =
      ⊎_elim
      (λ (h : Always (BlockedOn s i) u qs × (length (before_at s i (after u qs)) + posts_on s u qs ≤ k)). absurd (omega (arith, h.1, many)))
      (λ (x : ServedIn s i k u qs). x)
      (turn k u typed sound w le qs words)
