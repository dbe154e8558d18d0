-- The wait begins: call 22 without end that is answered 'now waiting'.
use Prim.Native.Nat.{ℕ, ◌<◌}
use mathlib.Core.Path.{◌≡◌, refl, sym, ap, ◌∙◌}
use mathlib.Core.Logic.{◌≢◌, inl}
use mathlib.Core.Bool.{false}
use mathlib.Core.List.{List, [], ◌∷◌, ◌++◌}
use native.Mathlib.Omega.{arith}
use borrow.Author.Tests.{lt-ltb, ltb-false}
use lib.Dec.{ltb}
use Rattle.basics.specs.Lists.{count, ahead}
use Rattle.basics.specs.Rule.{Means}
use Rattle.basics.proofs.Laws.{put_at-back, without-absent}
use Rattle.rules.specs.Answer.{now_waiting, asked}
use Rattle.rules.specs.Tables.{Typed, forever, at_semaphore, semaphore_count, semaphore_width, task, current, semaphore, USED, KIND, COUNT, levels, word_end}
use Rattle.rules.specs.Lines.{line, semaphore_line, home_by, task_home, task_queues, moved}
use Rattle.rules.specs.Waits.{ticks_for, waiting}
use Rattle.rules.specs.Semaphores as Semaphores
use Rattle.rules.specs.Sound.{Sound, task_rule}
use Rattle.rules.specs.Step.{call_of}
use Rattle.rules.specs.declared.Tables.{Tables}
use Rattle.rules.specs.declared.Answer.{Answer}
use Rattle.rules.specs.declared.Task.{Task}
use Rattle.rules_laws.proofs.Rows.{row-used}
use Rattle.runs.specs.Run.{made, next}
use Rattle.runs.specs.Turn.{before_at}
use Rattle.demand_1_refusals.proofs.First.{by_bool}
use Rattle.demand_1_refusals.proofs.Known.{call_for}
use Rattle.demand_2_soundness.proofs.Groups.{Almost}
use Rattle.demand_2_soundness.proofs.Codes.{accepted-is, used-object}
use Rattle.demand_2_soundness.proofs.Members.{bit-other}
use Rattle.demand_2_soundness.proofs.Standing.{sound-almost}
use Rattle.demand_2_soundness.proofs.Moves.{moved-into, moved_row}
use Rattle.demand_2_soundness.proofs.Waiting.{current-under, current-row, current-used, current-ready, not-idle, at-semaphore-row}
use Rattle.demand_3_turns.proofs.Ahead.{ahead-new}
use Rattle.demand_3_turns.proofs.Made.{Accepted, by_answer, tasks-after, semaphores-after, line_after}
use Rattle.demand_3_turns.proofs.Turns.{Waiter}
use Rattle.rules.specs.declared.Call.{Call}

module _ (t : Tables) (typed : Typed t) (sound : Sound t) (s : ℕ) (word : s < word_end) (arrival : semaphore t.semaphores s KIND < 2)
    (waits : (made t (asked 0x22 s forever 0 0)).answer.outcome ≡ now_waiting) where
  abbrev q : Call
  q = asked 0x22 s forever 0 0

  abbrev i : ℕ
  i = current t.state

  abbrev k : Task
  k = waiting (task t.tasks i) at_semaphore s forever 0 0

  abbrev place : List ℕ → ℕ
  place = Semaphores.place_in (semaphore t.semaphores s KIND) t.tasks (task t.tasks i).priority

  -- a refusal has outcome 0
  ok : Accepted t q
  ok = by_answer t sound q (λ no. absurd (omega (arith, waits, no.outcome))) (λ r. r)

  -- the count was 0, so that it waits
  none_left : ltb 0 (semaphore t.semaphores s COUNT) ≡ false
  unfolding call_of Semaphores.semaphore_call Semaphores.pend_effect
  none_left =
      let outcome : (call_for t q).effect.answer.outcome ≡ now_waiting = sym (ap (λ (r : Answer). r.outcome) ok.answer) ∙ waits in
      by_bool _ (λ e. absurd (omega (arith, rw e at outcome))) (λ e. e)

  here : s < semaphore_count
  unfolding call_of Semaphores.semaphore_call Semaphores.pend_cases
  here =
      row-used semaphore_width semaphore_count t.semaphores s USED (used-object _ _ (accepted-is _ ok.cases).at3 (accepted-is _ ok.cases).at11)

  other : i ≢ 0
  unfolding call_of Semaphores.semaphore_call Semaphores.pend_cases Semaphores.pend_waits
  other =
      let none : semaphore t.semaphores s COUNT ≡ 0 = omega (arith, ltb-false 0 (semaphore t.semaphores s COUNT) none_left) in
      not-idle t sound (rw none at (accepted-is (Semaphores.pend_cases t.semaphores t.state _ s forever 0 0) ok.cases).at5)

  row : Means (task_rule (levels t.state) i k)
  row = at-semaphore-row _ i (task t.tasks i) other (current-row t sound) (current-used t sound) s forever (omega arith) here

  almost : Almost t
  almost = sound-almost t typed sound

  -- it goes to its place in line s, and nothing else changes
  pend-tasks : (call_for t q).effect.next.tasks ≡ (moved place i k (task_queues t.tasks t.lines)).tasks
  unfolding call_of Semaphores.semaphore_call Semaphores.pend_effect
  pend-tasks = rw none_left

  pend-lines : (call_for t q).effect.next.lines ≡ (moved place i k (task_queues t.tasks t.lines)).lines
  unfolding call_of Semaphores.semaphore_call Semaphores.pend_effect
  pend-lines = rw none_left

  pend-semaphores : (call_for t q).effect.next.semaphores ≡ t.semaphores
  unfolding call_of Semaphores.semaphore_call Semaphores.pend_effect
  pend-semaphores = rw none_left

  pub begins : Waiter s (current t.state) (next t (asked 0x22 s forever 0 0))
  unfolding ticks_for
  begins =
      let now : task (next t q).tasks i ≡ k =
      ap (λ (ts : List ℕ). task ts i) (tasks-after t q ok ∙ pend-tasks) ∙ moved_row t almost place i k (current-under t sound) row in
      record { blocked = rw now (refl, refl); endless = rw now; arrival = rw (semaphores-after t q ok, pend-semaphores) arrival }

  -- a ready task did not stand there
  absent : count i (line t.lines (semaphore_line s)) ≡ 0
  unfolding home_by
  absent =
      let low = here in
      let apart : task_home t.tasks i ≢ semaphore_line s = λ e. omega (arith, rw (current-ready t sound) at e) in
      almost.standing.tasks i (semaphore_line s) (inl (omega arith)) ∙ bit-other _ _ apart

  pub at_back : line (next t q).lines (semaphore_line s) ≡ line t.lines (semaphore_line s) ++ (i ∷ [])
  unfolding home_by
  at_back =
      let low = here in
      let xs : List ℕ = line t.lines (semaphore_line s) in
      line_after t q ok (semaphore_line s) (inl (omega arith))
      ∙ ap (λ (ls : List ℕ). line ls (semaphore_line s)) pend-lines
      ∙ moved-into t almost place i k (current-under t sound) row (semaphore_line s) (inl (omega arith)) refl
      ∙ rw (without-absent i xs absent, lt-ltb _ _ arrival) (put_at-back i xs)

  pub behind : before_at s (current t.state) (next t (asked 0x22 s forever 0 0)) ≡ line t.lines (semaphore_line s)
  behind = ap (ahead i) at_back ∙ ahead-new i (line t.lines (semaphore_line s)) absent
