-- Whom an accepted call may serve: the first in the line of the semaphore, event or mailbox that it names; and so not who stands elsewhere.
use Prim.Native.Nat.{ℕ, ◌<◌}
use mathlib.Core.Path.{◌≡◌, ap}
use mathlib.Core.Logic.{◌≢◌, ◌⊎◌, inl, inr, ⊎_elim}
use mathlib.Core.Bool.{true}
use mathlib.Core.List.{List}
use native.Mathlib.Omega.{arith}
use borrow.Author.Tests.{ne_eqb, ltb-true}
use lib.ListN.{length}
use Rattle.basics.specs.Lists.{count}
use Rattle.basics.proofs.Laws.{same?, count-first}
use Rattle.rules.specs.Answer.{code_of}
use Rattle.rules.specs.Tables.{semaphore_count, semaphore_width, event_count, event_width, mailbox_count, mailbox_width, USED, CAPACITY}
use Rattle.rules.specs.Lines.{line, anyone, front_of, semaphore_line, event_line, mailbox_line, nowhere, task_home, posted_line}
use Rattle.rules.specs.Semaphores as Semaphores
use Rattle.rules.specs.Events as Events
use Rattle.rules.specs.Mailboxes as Mailboxes
use Rattle.rules.specs.Step.{call_of}
use Rattle.rules.specs.declared.Tables.{Tables}
use Rattle.rules_laws.proofs.Rows.{row-used}
use Rattle.rules_laws.proofs.Lines.{line-out}
use Rattle.demand_1_refusals.proofs.Known.{call_for}
use Rattle.demand_2_soundness.proofs.Groups.{OfTasks, Standing}
use Rattle.demand_2_soundness.proofs.Codes.{accepted-is, used-object}
use Rattle.demand_2_soundness.proofs.Members.{bit-eq}
use Rattle.demand_3_turns.proofs.Same.{served_line}
use Rattle.rules.specs.declared.Call.{Call}

pub data Reaches (q : Call) : Type 0 where
  at_semaphore : q.number ≡ 0x23 → q.a < semaphore_count → served_line q ≡ semaphore_line q.a → Reaches q
  at_event : q.a < event_count → served_line q ≡ event_line q.a → Reaches q
  at_mailbox : q.a < mailbox_count → served_line q ≡ mailbox_line q.a → Reaches q
  nobody : served_line q ≡ nowhere → Reaches q

module _ (t : Tables) (q : Call) (z : code_of (call_for t q).cases ≡ 0) where
  pub of-post : q.number ≡ 0x23 → q.a < semaphore_count
  unfolding call_of Semaphores.semaphore_call Semaphores.post_cases
  of-post e =
      row-used semaphore_width semaphore_count t.semaphores q.a USED (used-object _ _ (accepted-is _ (rw e at z)).at3 (accepted-is _ (rw e at z)).at11)

  pub of-event : q.number ≡ 0x33 → q.a < event_count
  unfolding call_of Events.event_call Events.post_cases
  of-event e = row-used event_width event_count t.events q.a USED (used-object _ _ (accepted-is _ (rw e at z)).at3 (accepted-is _ (rw e at z)).at11)

  pub of-mailbox : (q.number ≡ 0x42) ⊎ (q.number ≡ 0x43) → q.a < mailbox_count
  unfolding call_of Mailboxes.mailbox_call Mailboxes.post_cases Mailboxes.pend_cases
  of-mailbox (inl e) =
      row-used mailbox_width mailbox_count t.mailboxes q.a CAPACITY (used-object _ _ (accepted-is _ (rw e at z)).at3 (accepted-is _ (rw e at z)).at11)
  of-mailbox (inr e) =
      row-used mailbox_width mailbox_count t.mailboxes q.a CAPACITY (used-object _ _ (accepted-is _ (rw e at z)).at3 (accepted-is _ (rw e at z)).at11)

  pub reaches : Reaches q
  unfolding served_line
  reaches =
      ⊎_elim
      (λ (e : q.number ≡ 0x23). at_semaphore e (of-post e) (rw e))
      (λ (n23 : q.number ≢ 0x23).
      ⊎_elim
      (λ (e : q.number ≡ 0x33). at_event (of-event e) (rw e))
      (λ (n33 : q.number ≢ 0x33).
      ⊎_elim
      (λ (e : q.number ≡ 0x42). at_mailbox (of-mailbox (inl e)) (rw e))
      (λ (n42 : q.number ≢ 0x42).
      ⊎_elim
      (λ (e : q.number ≡ 0x43). at_mailbox (of-mailbox (inr e)) (rw e))
      (λ (n43 : q.number ≢ 0x43). nobody (rw (ne_eqb _ _ n23, ne_eqb _ _ n33, ne_eqb _ _ n42, ne_eqb _ _ n43)))
      (same? q.number 0x43))
      (same? q.number 0x42))
      (same? q.number 0x33))
      (same? q.number 0x23)

-- the line is one of tasks, or none
pub reached-line : (q : Call) → Reaches q → (served_line q < posted_line 0) ⊎ (served_line q ≡ nowhere)
reached-line q (at_semaphore n h e) = inl (omega arith)
reached-line q (at_event h e) = inl (omega arith)
reached-line q (at_mailbox h e) = inl (omega arith)
reached-line q (nobody e) = inr e

module _ (ts ws ls : List ℕ) (standing : Standing ts ws ls) (i : ℕ) where
  -- who is the first in a line of tasks has it as home
  pub first_home : (j : ℕ) → OfTasks j → anyone ls j ≡ true → front_of ls j ≡ i → task_home ts i ≡ j
  first_home j o some e =
      let c : 0 < count i (line ls j) = rw e at (count-first (line ls j) (ltb-true _ _ some)) in
      bit-eq (task_home ts i) j (rw (standing.tasks i j o) at c)

  pub not_first : (q : Call) → Reaches q → task_home ts i ≢ served_line q → anyone ls (served_line q) ≡ true → front_of ls (served_line q) ≢ i
  not_first q r apart some e =
      ⊎_elim
      (λ (h : served_line q < posted_line 0). apart (first_home (served_line q) (inl h) some e))
      (λ (n : served_line q ≡ nowhere).
      omega (arith, ltb-true 0 (length (line ls (served_line q))) some, ap length (line-out ls (served_line q) (omega arith))))
      (reached-line q r)
