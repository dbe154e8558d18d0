-- A call made on sound tables: refused it leaves them as they were, accepted it leaves its effect and the dispatch after it, which changes no
-- row of a task and no line of tasks; and what it leaves is sound.
use Prim.Native.Nat.{ℕ}
use mathlib.Core.Path.{◌≡◌, sym, ap, subst, ◌∙◌}
use mathlib.Core.Logic.{◌≢◌, ⊎_elim}
use borrow.Author.Tests.{eq-eqb}
use Rattle.basics.proofs.Laws.{same?}
use Rattle.rules.specs.Answer.{code_of, Words}
use Rattle.rules.specs.Tables.{Typed}
use Rattle.rules.specs.Lines.{line}
use Rattle.rules.specs.Sound.{Sound}
use Rattle.rules.specs.Step.{call, step, finished}
use Rattle.rules.proofs.Agree.{means-sound}
use Rattle.rules.specs.declared.Tables.{Tables}
use Rattle.rules.specs.declared.Answer.{Answer}
use Rattle.rules.specs.declared.Step.{Step}
use Rattle.runs.specs.Run.{made, next}
use Rattle.rules_laws.proofs.Effects.{effect-code}
use Rattle.demand_1_refusals.proofs.Known.{call_for}
use Rattle.demand_1_refusals.proofs.Demand.{finished-answer, named-accepted, step-code, left_alone}
use Rattle.demand_2_soundness.proofs.Groups.{OfTasks}
use Rattle.demand_2_soundness.proofs.Keeps.{settled_by, effect-leaves, step_typed, step-sound}
use Rattle.demand_3_turns.proofs.SwiLines.{dispatched-aside}
use Rattle.rules.specs.declared.Call.{Call}

-- ---- a call and its answer
-- accepted: no case holds, the answer is the effect's, and dispatch follows
pub record Accepted (t : Tables) (q : Call) : Type 0 where
  pub code : (made t q).answer.code ≡ 0
  pub cases : code_of (call_for t q).cases ≡ 0
  pub answer : (made t q).answer ≡ (call_for t q).effect.answer
  pub next : next t q ≡ settled_by (call_for t q).effect.next

-- refused: a code, no outcome, no change
pub record Refused (t : Tables) (q : Call) : Type 0 where
  pub code : (made t q).answer.code ≢ 0
  pub outcome : (made t q).answer.outcome ≡ 0
  pub next : next t q ≡ t

module _ (t : Tables) (s : Sound t) (q : Call) where
  pub is-step : made t q ≡ step t q.number q.a q.b q.c q.d
  unfolding call
  is-step = rw (means-sound t s)

  is-refused : (made t q).answer.code ≢ 0 → Refused t q
  is-refused n =
      let e = left_alone t q n in
      record { code = n; outcome = ap (λ (x : Step). x.answer.outcome) e; next = ap (λ (x : Step). x.tables) e }

  no-case : (made t q).answer.code ≡ 0 → code_of (call_for t q).cases ≡ 0
  no-case z = sym (step-code t q) ∙ ap (λ (x : Step). x.answer.code) (sym is-step) ∙ z

  done-step : code_of (call_for t q).cases ≡ 0 → made t q ≡ finished q.number (call_for t q).effect
  unfolding step
  done-step z = is-step ∙ rw (eq-eqb (code_of (call_for t q).cases) 0 z)

  is-accepted : (made t q).answer.code ≡ 0 → Accepted t q
  is-accepted z =
      let none = no-case z in
      let e = done-step none in
      let f = (call_for t q).effect in
      let done = named-accepted q.number f.answer (effect-code t _ q.number q.a q.b q.c q.d) in
      let a : (made t q).answer ≡ f.answer = ap (λ (x : Step). x.answer) e ∙ finished-answer q.number f ∙ done in
      record {
        code = z;
        cases = none;
        answer = a;
        next = ap (λ (x : Step). x.tables) e ∙ effect-leaves q.number (call_for t q).effect (sym (ap (λ (x : Answer). x.code) a) ∙ z);
      }

  pub by_answer : {P : Type 0} → (Refused t q → P) → (Accepted t q → P) → P
  by_answer f g = ⊎_elim (λ z. g (is-accepted z)) (λ n. f (is-refused n)) (same? (made t q).answer.code 0)

-- ---- it leaves sound tables
module _ (t : Tables) (typed : Typed t) (s : Sound t) (q : Call) (w : Words q) where
  pub next-typed : Typed (next t q)
  next-typed =
      subst (λ (r : Step). Typed r.tables) (sym (is-step t s q)) (step_typed t typed s q.number q.a q.b q.c q.d w)

  pub next-sound : Sound (next t q)
  next-sound =
      subst (λ (r : Step). Sound r.tables) (sym (is-step t s q)) (step-sound t typed s q.number q.a q.b q.c q.d w)

-- ---- what an accepted call leaves of tasks, semaphores and lines of tasks is its effect's
module _ (t : Tables) (q : Call) (ok : Accepted t q) where
  pub tasks-after : (next t q).tasks ≡ (call_for t q).effect.next.tasks
  tasks-after = ap (λ (u : Tables). u.tasks) ok.next

  pub semaphores-after : (next t q).semaphores ≡ (call_for t q).effect.next.semaphores
  semaphores-after = ap (λ (u : Tables). u.semaphores) ok.next

  pub line_after : (j : ℕ) → OfTasks j → line (next t q).lines j ≡ line (call_for t q).effect.next.lines j
  line_after j o = ap (λ (u : Tables). line u.lines j) ok.next ∙ (dispatched-aside _ _ _).same j o
