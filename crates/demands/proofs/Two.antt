-- Demand 2 holds of every call on sound tables: each group of rules is kept (`keeps`), and dispatch has nothing left to do on what is sound.
use Prim.{tt}
use Prim.Native.Nat.{ℕ, ◌≤◌}
use mathlib.Core.Path.{◌≡◌, refl, sym, ap, subst, ◌∙◌}
use mathlib.Core.Logic.{◌≢◌, ◌⊎◌, inl, inr, ⊎_elim}
use mathlib.Core.Bool.{true, not, false≢true, and-eq-true_iff}
use mathlib.Core.List.{List, [], ◌∷◌}
use native.Mathlib.Omega.{arith}
use borrow.Author.Tests.{leb-true, eqb-true, ne_eqb}
use lib.Dec.{leb}
use Rattle.basics.proofs.Laws.{same?}
use Rattle.basics.specs.Lists.{count, all_of}
use Rattle.rules.specs.Answer.{Cases, order, first_given, Words}
use Rattle.rules.specs.Tables.{Typed, few_levels, most_levels}
use Rattle.rules.specs.Fresh.{fresh, fresh_with, is_levels, made_fresh}
use Rattle.rules.specs.Dispatch.{running}
use Rattle.rules.specs.Sound.{Sound}
use Rattle.rules.specs.Step.{step, finished}
use Rattle.rules.proofs.Agree.{sound-means, means-sound}
use Rattle.rules_laws.proofs.Fresh.{fresh-is-sound, fresh-for-sound, fresh-with-typed, fresh-typed}
use Rattle.rules.specs.declared.Tables.{Tables}
use Rattle.rules.specs.declared.Step.{Step}
use Rattle.runs.specs.Run.{made, next, after, Each, AllWords}
use Rattle.demand_1_refusals.proofs.Demand.{exactly-in, code_is}
use Rattle.demand_1_refusals.proofs.First.{by_bool}
use Rattle.demand_1_refusals.specs.Refusals.{refusal}
use Rattle.rules_laws.proofs.Calls.{chosen}
use Rattle.demand_2_soundness.proofs.Nothing.{nothing_left_lem}
use Rattle.demand_3_turns.proofs.Made.{is-step, next-typed, next-sound}
use Rattle.demands.specs.Two.{DemandTwo, Kept}
use Rattle.rules.specs.declared.Call.{Call}

step-thread : (t : Tables) (q : Call)
    → (step t q.number q.a q.b q.c q.d).thread
    ≡ running (step t q.number q.a q.b q.c q.d).tables.lines (step t q.number q.a q.b q.c q.d).tables.state
unfolding step finished
step-thread t q = refl

-- a code that is given is one of the list's: at most n, where those are
given_to : (n : ℕ) (ks : List ℕ) (c : Cases) → all_of (λ k. leb k n) ks ≡ true → first_given ks c ≤ n
unfolding first_given all_of
given_to n [] c e = omega arith
given_to n (k ∷ ks) c e =
    let (here, later) = (and-eq-true_iff (leb k n) (all_of (λ j. leb j n) ks)).0 e in
    by_bool (c k) (λ h. rw h (leb-true k n here)) (λ h. rw h (given_to n ks c later))

-- ---- one call
module _ (t : Tables) (typed : Typed t) (s : Sound t) (q : Call) (w : Words q) where
  not-10 : (made t q).answer.code ≢ 10
  unfolding count refusal
  not-10 e = false≢true (sym (ap not (means-sound t s)) ∙ ((exactly-in t q 10 (omega arith)).0 e).0)

  to-11 : (made t q).answer.code ≤ 11
  unfolding all_of
  to-11 = rw (code_is t q) (given_to 11 order (refusal t q) refl)

  is-kept : Kept t q (made t q)
  is-kept =
      record {
        effect = is-step t s q;
        tested = λ e. omega (arith, e, not-10, to-11);
        typed = next-typed t typed s q w;
        sound = next-sound t typed s q w;
        thread = subst (λ (r : Step). r.thread ≡ running r.tables.lines r.tables.state) (sym (is-step t s q)) (step-thread t q);
        nothing_left = nothing_left_lem (next t q) (next-sound t typed s q w);
      }

pub demand-2 : DemandTwo
demand-2 = is-kept

-- ---- "Fresh tables are sound"
-- a number of levels is one of the two
pub either-levels : (n : ℕ) → is_levels n ≡ true → (n ≡ few_levels) ⊎ (n ≡ most_levels)
either-levels n e =
    ⊎_elim
    (λ (few : n ≡ few_levels). inl few)
    (λ (other : n ≢ few_levels). inr (eqb-true n most_levels (rw (ne_eqb n few_levels other) at e)))
    (same? n few_levels)

-- so are those that are asked for with any number of levels
pub made-fresh-safe : (n : ℕ) → Typed (made_fresh n).tables × Sound (made_fresh n).tables
unfolding made_fresh
made-fresh-safe n =
    chosen (λ (x : Step). Typed x.tables × Sound x.tables) (is_levels n) _ _
    (λ e. (
      fresh-with-typed n,
      ⊎_elim
          (λ (few : n ≡ few_levels). rw few fresh-is-sound)
          (λ (most : n ≡ most_levels). rw most (sound-means (fresh_with most_levels) (fresh-for-sound 2)))
          (either-levels n e),
    ))
    (λ _. (fresh-typed, fresh-is-sound))

-- ---- along any sequence of calls from sound tables: each call keeps them so
pub along : (t : Tables) → Typed t → Sound t → (qs : List Call) → AllWords t qs → Each (λ u q. Sound u × Kept u q (made u q)) t qs
unfolding Each
along t typed s [] w = tt
along t typed s (q ∷ qs) w =
    let k = demand-2 t typed s q w.0 in
    ((s, k), along (next t q) k.typed k.sound qs w.1)

pub sound-after : (t : Tables) → Typed t → Sound t → (qs : List Call) → AllWords t qs → Typed (after t qs) × Sound (after t qs)
unfolding Each after
sound-after t typed s [] w = (typed, s)
sound-after t typed s (q ∷ qs) w =
    let k = demand-2 t typed s q w.0 in
    sound-after (next t q) k.typed k.sound qs w.1
