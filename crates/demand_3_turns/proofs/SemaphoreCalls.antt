-- Calls 20 to 24 leave a task that they do not move its row and its place.
use Prim.Native.Nat.{ℕ}
use mathlib.Core.Path.{◌≡◌}
use mathlib.Core.Logic.{◌≢◌}
use mathlib.Core.Bool.{false}
use mathlib.Core.List.{List}
use borrow.Author.Tests.{eqb-false, lt-ltb}
use lib.Dec.{eqb, ltb}
use lib.ListN.{length}
use Rattle.rules.specs.Tables.{Typed, semaphore_count, semaphore_width, task, current, semaphore, at_semaphore, USED, KIND, COUNT}
use Rattle.rules.specs.Lines.{home_by, semaphore_line, anyone}
use Rattle.rules.specs.Waits.{WaitTables, wait_tables, queues_of, outside, waiting}
use Rattle.rules.specs.Semaphores.{place_in, create_effect, delete_effect, pend_cases, pend_effect, post_effect, reset_effect, semaphore_call}
use Rattle.rules.specs.Dispatch.{context}
use Rattle.rules.specs.declared.Tables.{Tables}
use Rattle.rules_laws.proofs.Rows.{row-used}
use Rattle.demand_2_soundness.proofs.Codes.{accepted-is, used-object}
use Rattle.demand_2_soundness.proofs.Objects.{in-task}
use Rattle.demand_3_turns.proofs.Same.{served_line, Unmoved, Arrival}
use Rattle.demand_3_turns.proofs.Leaves.{Left, Leaves, by_number, by-test, unknown-leaves, stay, moves, current-other, first-moves}
use Rattle.rules.specs.declared.Call.{Call}

module _ (t : Tables) (typed : Typed t) (q : Call) (i : ℕ) (u : Unmoved t q i) where
  abbrev tq : WaitTables
  tq = wait_tables t.tasks t.lines t.semaphores

  -- where the waiters are in arrival order the current task joins at the back
  back : semaphore t.semaphores q.a USED ≢ 0 → Arrival t q.a → (xs : List ℕ)
      → place_in (semaphore t.semaphores q.a KIND) t.tasks (task t.tasks (current t.state)).priority xs ≡ length xs
  back used r xs =
      rw (lt-ltb (semaphore t.semaphores q.a KIND) 2 (r.kind (row-used semaphore_width semaphore_count t.semaphores q.a USED used)))

  pend-leaves : outside (context t.lines t.state) q.b ≡ false → semaphore t.semaphores q.a USED ≢ 0
      → Left t i (queues_of (pend_effect tq t.state q.a q.b).next)
  unfolding pend_effect home_by
  pend-leaves limited used =
      by-test t i queues_of (ltb 0 (semaphore t.semaphores q.a COUNT)) _ _
      (λ _. stay t i)
      (λ _.
      by-test t i queues_of (eqb q.b 0) _ _
      (λ _. stay t i)
      (λ e.
      moves t typed q i u (current t.state) (current-other t typed q i u (in-task _ q.b limited (eqb-false _ _ e))) _
      (waiting (task t.tasks (current t.state)) at_semaphore q.a q.b 0 0)
      (back used)))

  post-leaves : q.number ≡ 0x23 → Left t i (queues_of (post_effect tq q.a).next)
  unfolding post_effect served_line
  post-leaves number =
      by-test t i queues_of (anyone t.lines (semaphore_line q.a)) _ _
      (λ some. first-moves t typed q i u (semaphore_line q.a) 0 0 (rw number) some)
      (λ _. stay t i)

  pub semaphores-leave : Leaves t i queues_of (semaphore_call tq t.state (context t.lines t.state) q.number q.a q.b q.c q.d)
  unfolding semaphore_call create_effect delete_effect pend_cases reset_effect
  semaphores-leave =
      by_number t i queues_of q.number 0x20 _ _ (λ _ _. stay t i)
      (by_number t i queues_of q.number 0x21 _ _ (λ _ _. stay t i)
      (by_number t i queues_of q.number 0x22 _ _ (λ _ z. pend-leaves (accepted-is _ z).at2 (used-object _ _ (accepted-is _ z).at3 (accepted-is _ z).at11))
      (by_number t i queues_of q.number 0x23 _ _ (λ n _. post-leaves n)
      (by_number t i queues_of q.number 0x24 _ _ (λ _ _. stay t i) (unknown-leaves t i queues_of tq)))))
