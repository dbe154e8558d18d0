-- Calls 00 to 06 leave a task that they do not move its row and its place.
use Prim.Native.Nat.{ℕ, ◌<◌}
use mathlib.Core.Path.{◌≡◌, refl, sym, ◌∙◌}
use mathlib.Core.Logic.{◌≢◌, ⊎_elim}
use mathlib.Core.Bool.{true, false, ◌||◌, true≢false}
use native.Mathlib.Omega.{arith}
use borrow.Author.Tests.{eqb-true, eqb-false, ne_eqb, not-false}
use lib.Dec.{eqb}
use Rattle.rules.specs.Answer.{T}
use Rattle.rules.specs.Tables.{Typed, task_count, not_in_use, terminated, inactive, task, no_task}
use Rattle.rules.specs.Lines.{TaskQueues, task_queues, at_back}
use Rattle.rules.specs.Dispatch.{context}
use Rattle.rules.specs.Tasks.{free_task, blocked, placed_at, with_priority, reprioritized, create_cases, create_effect, delete_cases, delete_effect}
use Rattle.rules.specs.Tasks.{set_priority_cases, set_priority_effect, yield_cases, yield_effect, end_cases, end_effect, sleep_cases, sleep_effect}
use Rattle.rules.specs.Tasks.{last_result_effect, task_call}
use Rattle.rules.specs.declared.Tables.{Tables}
use Rattle.rules.specs.declared.Task.{Task}
use Rattle.rules_laws.proofs.Calls.{chosen}
use Rattle.demand_2_soundness.proofs.Codes.{accepted-is, used-object}
use Rattle.demand_2_soundness.proofs.TaskRows.{task-same, in_use}
use Rattle.demand_2_soundness.proofs.Objects.{free-is}
use Rattle.demand_3_turns.proofs.Same.{Unmoved, Arrival}
use Rattle.demand_3_turns.proofs.Steps.{SameRow, in_row}
use Rattle.demand_3_turns.proofs.Leaves.{Left, Leaves, by_number, by-test, unknown-leaves, called-by-task, stay, moves, current-moves}
use Rattle.rules.specs.declared.Call.{Call}

-- another priority of a blocked task
repriced : (k : Task) (p : ℕ) → blocked k.mode ≡ true → SameRow k (with_priority k p)
repriced k p e =
    record { mode = refl; object = refl; priority = λ n. absurd (true≢false (sym e ∙ n)); endless = λ z. z; result = (refl, refl) }

-- a task that ended or is inactive, by the test of call 01
past : (m : ℕ) → (eqb m terminated || eqb m inactive) ≡ true → m < terminated → ⊥
past m e l = omega (arith, eqb-true m inactive (rw (ne_eqb m terminated (λ z. omega arith)) at e))

module _ (t : Tables) (typed : Typed t) (q : Call) (i : ℕ) (u : Unmoved t q i) where
  abbrev tq : TaskQueues
  tq = task_queues t.tasks t.lines

  abbrev whole : TaskQueues → TaskQueues
  whole y = y

  create-leaves : eqb (free_task t.tasks) task_count ≡ false → Left t i (create_effect tq q.a).next
  unfolding create_effect free_task
  create-leaves room =
      let w = free_task t.tasks in
      let free : (task t.tasks w).mode ≡ not_in_use = eqb-true _ _ (free-is task_count (λ n. eqb (task t.tasks n).mode not_in_use) room).1 in
      moves t typed q i u w (λ (e : w ≡ i). u.used (rw e at free)) at_back (placed_at no_task q.a) (λ _ xs. refl)

  delete-leaves : q.number ≡ 0x01 → (eqb (task t.tasks q.a).mode terminated || eqb (task t.tasks q.a).mode inactive) ≡ true
      → Left t i (delete_effect tq q.a).next
  unfolding delete_effect
  delete-leaves number ended =
      in_row i (Arrival t) tq q.a no_task (λ e. absurd (past (task t.tasks q.a).mode ended (rw e (u.stays number e))))

  -- call 02 on another task, or on this one with the same priority or while it is blocked
  reprioritized-leaves : q.number ≡ 0x02 → (task t.tasks q.a).mode ≢ not_in_use → Left t i (reprioritized tq q.a q.b)
  unfolding reprioritized
  reprioritized-leaves number used =
      let k = task t.tasks q.a in
      chosen (λ (y : TaskQueues). Left t i y) (eqb q.b k.priority) _ _
      (λ _. stay t i)
      (λ new.
      chosen (λ (y : TaskQueues). Left t i y) (blocked k.mode) _ _
      (λ e.
      in_row i (Arrival t) tq q.a (with_priority k q.b)
      (λ own. rw (← own, task-same t.tasks q.a (with_priority k q.b) typed.tasks (in_use t.tasks q.a used)) (repriced k q.b e)))
      (λ e.
      moves t typed q i u q.a
      (λ (own : q.a ≡ i).
      ⊎_elim
      (λ (same : q.b ≡ (task t.tasks i).priority). eqb-false q.b k.priority new (rw own same))
      (λ (waits : blocked (task t.tasks i).mode ≡ true). true≢false (sym waits ∙ rw own at e))
      (u.kept number own))
      at_back (placed_at k q.b) (λ _ xs. refl)))

  sleep-leaves : context t.lines t.state ≡ T → Left t i (sleep_effect tq t.state q.a).next
  unfolding sleep_effect
  sleep-leaves by = by-test t i whole (eqb q.a 0) _ _ (λ _. stay t i) (λ _. current-moves t typed q i u by _)

  pub tasks-leave : Leaves t i whole (task_call tq t.state (context t.lines t.state) q.number q.a q.b q.c q.d)
  unfolding task_call create_cases delete_cases set_priority_cases set_priority_effect yield_cases yield_effect end_cases end_effect sleep_cases last_result_effect
  tasks-leave =
      by_number t i whole q.number 0x00 _ _ (λ _ z. create-leaves (accepted-is _ z).at6)
      (by_number t i whole q.number 0x01 _ _ (λ n z. delete-leaves n (not-false _ (accepted-is _ z).at5))
      (by_number t i whole q.number 0x02 _ _ (λ n z. reprioritized-leaves n (used-object _ _ (accepted-is _ z).at3 (accepted-is _ z).at11))
      (by_number t i whole q.number 0x03 _ _ (λ _ z. current-moves t typed q i u (called-by-task _ (accepted-is _ z).at2) _)
      (by_number t i whole q.number 0x04 _ _ (λ _ z. current-moves t typed q i u (called-by-task _ (accepted-is _ z).at2) _)
      (by_number t i whole q.number 0x05 _ _ (λ _ z. sleep-leaves (called-by-task _ (accepted-is _ z).at2))
      (by_number t i whole q.number 0x06 _ _ (λ _ _. stay t i) (unknown-leaves t i whole tq)))))))
