-- Any call on any tables: its code is that of the first row of the table that holds, and a refusal leaves everything as it was.
use Prim.{tt}
use Prim.Native.Nat.{ℕ, ◌<◌}
use mathlib.Core.Path.{◌≡◌, refl, sym, ap, ◌∙◌}
use mathlib.Core.Logic.{◌≢◌, ◌↔◌, ⊎_elim}
use mathlib.Core.Bool.{true, false, not, ◌||◌, cond as if}
use lib.Dec.{eqb}
use Rattle.rules_laws.proofs.Calls.{chosen}
use native.Mathlib.Omega.{arith}
use borrow.Author.Tests.{eq-eqb, ne_eqb}
use Rattle.basics.specs.Lists.{count, ahead}
use Rattle.basics.proofs.Laws.{same?, lt-or-le}
use Rattle.rules.specs.Answer.{answer, order, first_given, code_of, answered, guarded, refused, named, Effect, asked}
use Rattle.rules.specs.Dispatch.{running, context}
use Rattle.rules.specs.Sound.{sound}
use Rattle.rules.specs.Step.{call, step, step_of, finished}
use Rattle.rules.specs.declared.Tables.{Tables}
use Rattle.rules.specs.declared.Answer.{Answer}
use Rattle.rules.specs.declared.Thread.TheVariants.{Task}
use Rattle.rules_laws.proofs.Effects.{effect-code}
use Rattle.runs.specs.Run.{made}
use Rattle.demand_1_refusals.specs.Refusals.{among, known, refusal, refusal_by, value_of, unknown_number, None}
use Rattle.demand_1_refusals.proofs.Known.{call_for, cases_of, agrees, object-agrees, one_of, Agrees, ObjectAgrees, ◌&◌}
use Rattle.demand_1_refusals.proofs.Unknown.{unknown-cases}
use Rattle.demand_1_refusals.proofs.Named.{value-is}
use Rattle.demand_1_refusals.proofs.First.{first_holds, first-given, first-none, first-same, by_bool}
use Rattle.rules.specs.declared.Call.{Call}

-- ---- the code, on sound tables, of a known number and of an unknown one
module _ (t : Tables) (q : Call) (e : sound t ≡ true) where
  known-code : 0 < count q.number known → code_of (cases_of t q) ≡ code_of (refusal t q)
  unfolding refusal refusal_by
  known-code h =
      let with : ℕ → Call = λ n. asked n q.a q.b q.c q.d in
      let here = one_of (λ n. Agrees t (with n)) known (agrees t q.a q.b q.c q.d) q.number h in
      let (r10, r1, r2, r4, r5, r6, r7, r8, r9) = here in
      let (r3, r11) = one_of (λ n. ObjectAgrees t (with n)) known (object-agrees t q.a q.b q.c q.d) q.number h in
      first-same order (cases_of t q) (refusal t q) ((r10 ∙ sym (ap not e)) & r1 & r2 & r3 & r11 & r4 & r5 & r6 & r7 & r8 & r9 & tt)

  unknown-code : count q.number known ≡ 0 → code_of (cases_of t q) ≡ code_of (refusal t q)
  unfolding refusal refusal_by first_given unknown_number among
  unknown-code z = rw (unknown-cases q.number z t (context t.lines t.state) q.a q.b q.c q.d, e, z)

  code-by-rows : code_of (cases_of t q) ≡ code_of (refusal t q)
  code-by-rows = ⊎_elim known-code (λ h. unknown-code (omega arith)) (lt-or-le 0 (count q.number known))

-- ---- what is answered
module _ (t : Tables) (k : ℕ) where
  guarded-code : (e : Effect Tables) → e.answer.code ≡ 0 → (guarded k t e).answer.code ≡ k
  guarded-code e h = ⊎_elim (λ (z : k ≡ 0). rw (eq-eqb k 0 z) (h ∙ sym z)) (λ (n : k ≢ 0). rw (ne_eqb k 0 n)) (same? k 0)

  refused-step : (m : ℕ) → k ≢ 0 → finished m (refused k t) ≡ step_of t (named m (answer k 0 0)) (running t.lines t.state)
  unfolding finished
  refused-step m n = rw (ne_eqb k 0 n)

pub finished-answer : (n : ℕ) (r : Effect Tables) → (finished n r).answer ≡ named n r.answer
unfolding finished
finished-answer n r = refl

-- naming the table changes no code, and nothing of an accepted call
pub named-code : (n : ℕ) (r : Answer) → (named n r).code ≡ r.code
unfolding named
named-code n r = chosen (λ (x : Answer). x.code ≡ r.code) (eqb r.code 3 || eqb r.code 11) _ _ (λ _. refl) (λ _. refl)

pub named-accepted : (n : ℕ) (r : Answer) → r.code ≡ 0 → named n r ≡ r
unfolding named
named-accepted n r z = rw z

module _ (t : Tables) (q : Call) where
  pub step-code : (step t q.number q.a q.b q.c q.d).answer.code ≡ code_of (cases_of t q)
  unfolding step
  step-code =
      ap (λ (r : Answer). r.code) (finished-answer q.number (answered t (call_for t q)))
      ∙ named-code q.number (answered t (call_for t q)).answer
      ∙ guarded-code t (code_of (cases_of t q)) (call_for t q).effect
      (effect-code t (context t.lines t.state) q.number q.a q.b q.c q.d)

  step-refused : code_of (cases_of t q) ≢ 0
      → step t q.number q.a q.b q.c q.d ≡ step_of t (named q.number (answer (code_of (cases_of t q)) 0 0)) (running t.lines t.state)
  unfolding step
  step-refused n = rw (ne_eqb (code_of (cases_of t q)) 0 n) (refused-step t (code_of (cases_of t q)) q.number n)

unsound-code : (t : Tables) (q : Call) → sound t ≡ false → 10 ≡ code_of (refusal t q)
unfolding refusal first_given
unsound-code t q e = rw e

pub code_is : (t : Tables) (q : Call) → (made t q).answer.code ≡ code_of (refusal t q)
unfolding call
code_is t q = by_bool (sound t) (λ e. rw e (step-code t q ∙ code-by-rows t q e)) (λ e. rw e (unsound-code t q e))

left-named : (t : Tables) (q : Call) → (made t q).answer.code ≢ 0
    → made t q ≡ step_of t (named q.number (answer (made t q).answer.code 0 0)) (if (sound t) (running t.lines t.state) (Task 0))
unfolding call named
left-named t q =
    by_bool (sound t)
    (λ e.
    rw e
    (λ n.
    step-refused t q (λ z. n (step-code t q ∙ z))
    ∙ ap (λ (k : ℕ). step_of t (named q.number (answer k 0 0)) (running t.lines t.state)) (sym (step-code t q))))
    (λ e. rw e (λ n. refl))

-- a refusal's value is 0, but for codes 3 and 11
pub left_alone : (t : Tables) (q : Call) → (made t q).answer.code ≢ 0
    → made t q
    ≡ step_of t (answer (made t q).answer.code 0 (value_of q (made t q).answer.code)) (if (sound t) (running t.lines t.state) (Task 0))
left_alone t q n =
    let k : ℕ = (made t q).answer.code in
    left-named t q n
    ∙ ap (λ (r : Answer). step_of t r (if (sound t) (running t.lines t.state) (Task 0)))
    (value-is t q k (first_holds order (refusal t q) k (omega arith) (sym (code_is t q))).0)

-- ---- each code exactly in its case
in_order : (k : ℕ) → 0 < count k order → 0 < k
unfolding count
in_order k h = ⊎_elim (λ (z : k ≡ 0). absurd (omega (arith, rw z at h))) (λ (n : k ≢ 0). omega arith) (same? k 0)

module _ (t : Tables) (q : Call) where
  pub exactly-in : (k : ℕ) → 0 < count k order
      → ((made t q).answer.code ≡ k) ↔ ((refusal t q k ≡ true) × None (ahead k order) (refusal t q))
  exactly-in k h = (
    λ e. first_holds order (refusal t q) k (in_order k h) (sym (code_is t q) ∙ e),
    λ r. code_is t q ∙ first-given order (refusal t q) k h r.0 r.1,
  )

  pub accepted-in : ((made t q).answer.code ≡ 0) ↔ None order (refusal t q)
  unfolding count
  accepted-in =
      let none = first-none order (refusal t q) refl in
      (λ e. none.0 (sym (code_is t q) ∙ e), λ r. code_is t q ∙ none.1 r)
