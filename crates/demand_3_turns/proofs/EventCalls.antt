-- Calls 30 to 33 leave a task that they do not move its row and its place.
use Prim.Native.Nat.{ℕ}
use mathlib.Core.Path.{◌≡◌}
use mathlib.Core.Bool.{false}
use borrow.Author.Tests.{eqb-false}
use lib.Dec.{eqb}
use Rattle.rules.specs.Tables.{Typed, event, BITS}
use Rattle.rules.specs.Lines.{event_line}
use Rattle.rules.specs.Waits.{WaitTables, wait_tables, queues_of, outside}
use Rattle.rules.specs.Events.{matched, waiter_match, posted_bits, create_effect, delete_effect, pend_cases, pend_effect, event_call}
use Rattle.rules.specs.Dispatch.{context}
use Rattle.rules.specs.declared.Tables.{Tables}
use Rattle.demand_2_soundness.proofs.Codes.{accepted-is}
use Rattle.demand_2_soundness.proofs.Objects.{in-task, match-waits}
use Rattle.demand_3_turns.proofs.Same.{served_line, Unmoved}
use Rattle.demand_3_turns.proofs.Leaves.{Left, Leaves, by_number, by-test, unknown-leaves, stay, current-moves, first-moves}
use Rattle.rules.specs.declared.Call.{Call}

module _ (t : Tables) (typed : Typed t) (q : Call) (i : ℕ) (u : Unmoved t q i) where
  abbrev tq : WaitTables
  tq = wait_tables t.tasks t.lines t.events

  pend-leaves : outside (context t.lines t.state) q.d ≡ false
      → Left t i (queues_of (pend_effect tq t.state q.a q.b q.c q.d).next)
  unfolding pend_effect
  pend-leaves limited =
      by-test t i queues_of (eqb (matched (event t.events q.a BITS) q.b q.c) 0) _ _
      (λ _.
      by-test t i queues_of (eqb q.d 0) _ _
      (λ _. stay t i)
      (λ e. current-moves t typed q i u (in-task _ q.d limited (eqb-false _ _ e)) _))
      (λ _. stay t i)

  post-leaves : q.number ≡ 0x33 → (bits : ℕ) → Left t i (queues_of (posted_bits tq q.a bits).next)
  unfolding posted_bits served_line
  post-leaves number bits =
      let match : ℕ = waiter_match t.tasks t.lines q.a bits in
      by-test t i queues_of (eqb match 0) _ _
      (λ _. stay t i)
      (λ e. first-moves t typed q i u (event_line q.a) 0 match (rw number) (match-waits t.tasks t.lines q.a bits e))

  pub events-leave : Leaves t i queues_of (event_call tq t.state (context t.lines t.state) q.number q.a q.b q.c q.d)
  unfolding event_call create_effect delete_effect pend_cases
  events-leave =
      by_number t i queues_of q.number 0x30 _ _ (λ _ _. stay t i)
      (by_number t i queues_of q.number 0x31 _ _ (λ _ _. stay t i)
      (by_number t i queues_of q.number 0x32 _ _ (λ _ z. pend-leaves (accepted-is _ z).at2)
      (by_number t i queues_of q.number 0x33 _ _ (λ n _. post-leaves n _) (unknown-leaves t i queues_of tq))))
