-- Calls 40 to 43 leave a task that they do not move its row and its place.
use Prim.Native.Nat.{ℕ}
use mathlib.Core.Path.{◌≡◌}
use mathlib.Core.Bool.{false}
use borrow.Author.Tests.{eqb-false}
use lib.Dec.{eqb}
use Rattle.rules.specs.Tables.{Typed, mailbox, reading, writing, MESSAGES}
use Rattle.rules.specs.Lines.{mailbox_line}
use Rattle.rules.specs.Waits.{WaitTables, wait_tables, queues_of, outside}
use Rattle.rules.specs.Mailboxes.{waits_first, is_full, create_effect, delete_effect, post_cases, post_effect, oldest_taken, pend_cases, pend_effect, mailbox_call}
use Rattle.rules.specs.Dispatch.{context}
use Rattle.rules.specs.declared.Tables.{Tables}
use Rattle.rules_laws.proofs.Calls.{chosen}
use Rattle.demand_2_soundness.proofs.Codes.{accepted-is}
use Rattle.demand_2_soundness.proofs.Objects.{in-task, first-waits}
use Rattle.demand_3_turns.proofs.Same.{served_line, Unmoved}
use Rattle.demand_3_turns.proofs.Leaves.{Left, Leaves, by_number, by-test, unknown-leaves, stay, current-moves, first-moves}
use Rattle.rules.specs.declared.Call.{Call}

module _ (t : Tables) (typed : Typed t) (q : Call) (i : ℕ) (u : Unmoved t q i) where
  abbrev tq : WaitTables
  tq = wait_tables t.tasks t.lines t.mailboxes

  post-leaves : q.number ≡ 0x42 → outside (context t.lines t.state) q.c ≡ false
      → Left t i (queues_of (post_effect tq t.state q.a q.b q.c).next)
  unfolding post_effect served_line
  post-leaves number limited =
      by-test t i queues_of (waits_first t.tasks t.lines q.a reading) _ _
      (λ e. first-moves t typed q i u (mailbox_line q.a) 0 q.b (rw number) (first-waits t.tasks t.lines q.a reading e))
      (λ _.
      by-test t i queues_of (is_full t.mailboxes q.a) _ _
      (λ _.
      by-test t i queues_of (eqb q.c 0) _ _
      (λ _. stay t i)
      (λ e. current-moves t typed q i u (in-task _ q.c limited (eqb-false _ _ e)) _))
      (λ _. stay t i))

  taken-leaves : q.number ≡ 0x43 → Left t i (queues_of (oldest_taken tq q.a))
  unfolding oldest_taken served_line
  taken-leaves number =
      chosen (λ (y : WaitTables). Left t i (queues_of y)) (waits_first t.tasks t.lines q.a writing) _ _
      (λ e. first-moves t typed q i u (mailbox_line q.a) 0 0 (rw number) (first-waits t.tasks t.lines q.a writing e))
      (λ _. stay t i)

  pend-leaves : q.number ≡ 0x43 → outside (context t.lines t.state) q.b ≡ false
      → Left t i (queues_of (pend_effect tq t.state q.a q.b).next)
  unfolding pend_effect
  pend-leaves number limited =
      by-test t i queues_of (eqb (mailbox t.mailboxes q.a MESSAGES) 0) _ _
      (λ _.
      by-test t i queues_of (eqb q.b 0) _ _
      (λ _. stay t i)
      (λ e. current-moves t typed q i u (in-task _ q.b limited (eqb-false _ _ e)) _))
      (λ _. taken-leaves number)

  pub mailboxes-leave : Leaves t i queues_of (mailbox_call tq t.state (context t.lines t.state) q.number q.a q.b q.c q.d)
  unfolding mailbox_call create_effect delete_effect post_cases pend_cases
  mailboxes-leave =
      by_number t i queues_of q.number 0x40 _ _ (λ _ _. stay t i)
      (by_number t i queues_of q.number 0x41 _ _ (λ _ _. stay t i)
      (by_number t i queues_of q.number 0x42 _ _ (λ n z. post-leaves n (accepted-is _ z).at2)
      (by_number t i queues_of q.number 0x43 _ _ (λ n z. pend-leaves n (accepted-is _ z).at2) (unknown-leaves t i queues_of tq))))
