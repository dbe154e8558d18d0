-- What an accepted post does at each of the three kinds: it wakes the first who waits there (`Wakes`), or its value is 0 and nobody is readied.
use Prim.Native.Nat.{ℕ, ◌*◌}
use mathlib.Core.Path.{◌≡◌, refl, ap, ◌∙◌}
use mathlib.Core.Logic.{◌≢◌, ◌⊎◌, inl, inr, ⊎_elim}
use mathlib.Core.Bool.{true, false}
use mathlib.Core.List.{List}
use native.Mathlib.Omega.{arith}
use lib.Bits.{bit_or}
use lib.Dec.{eqb, ltb}
use lib.ListN.{length}
use borrow.Author.Tests.{ltb-true}
use Rattle.basics.proofs.Laws.{same?}
use Rattle.rules.specs.Answer.{Effect, accepted, done, not_met, now_waiting}
use Rattle.rules.specs.Tables.{Typed, task_count, reading, writing, task, event, current, BITS, task_width}
use Rattle.rules.specs.Lines.{anyone, semaphore_line, event_line, mailbox_line, TaskQueues, task_queues, moved, at_back}
use Rattle.rules.specs.Waits.{WaitTables, wait_tables, with_queues}
use Rattle.rules.specs.Semaphores as Semaphores
use Rattle.rules.specs.Events as Events
use Rattle.rules.specs.Mailboxes as Mailboxes
use Rattle.rules.specs.Step.{call_of}
use Rattle.rules.specs.declared.Answer.{Answer}
use Rattle.rules.specs.declared.Tables.{Tables}
use Rattle.rules.specs.declared.Task.{Task}
use Rattle.rules_laws.proofs.Calls.{chosen}
use Rattle.runs.specs.Run.{made, next}
use Rattle.demand_1_refusals.proofs.Known.{call_for}
use Rattle.demand_2_soundness.proofs.TaskRows.{task-same, task-other}
use Rattle.demand_2_soundness.proofs.Objects.{match-waits, first-waits}
use Rattle.demand_3_turns.proofs.Made.{Accepted, tasks-after}
use Rattle.demand_3_turns.proofs.Reach.{of-post, of-event, of-mailbox}
use Rattle.demand_3_turns.proofs.Wakes.{ServesFirst}
use Rattle.rules.specs.declared.Call.{Call}

-- who moves gets the row k, and every other row stays
moved-or-same : (place : List ℕ → ℕ) (i : ℕ) (k : Task) (ts ls : List ℕ) → length ts ≡ task_count * task_width
    → (x : ℕ) → (task (moved place i k (task_queues ts ls)).tasks x ≡ task ts x) ⊎ ((x ≡ i) × (task (moved place i k (task_queues ts ls)).tasks x ≡ k))
unfolding moved
moved-or-same place i k ts ls full x =
    chosen (λ (y : TaskQueues). (task y.tasks x ≡ task ts x) ⊎ ((x ≡ i) × (task y.tasks x ≡ k))) (ltb i task_count) _ _
    (λ lt.
    ⊎_elim
    (λ (e : x ≡ i). inr (e, rw e (task-same ts i k full (ltb-true _ _ lt))))
    (λ (n : x ≢ i). inl (task-other ts i k x n))
    (same? x i))
    (λ _. inl refl)

module _ (t : Tables) (q : Call) (ok : Accepted t q) where
  -- ---- 23, at a semaphore
  module _ (number : q.number ≡ 0x23) where
    pub semaphore-wakes : anyone t.lines (semaphore_line q.a) ≡ true → ServesFirst t q (semaphore_line q.a) 0
    unfolding call_of Semaphores.semaphore_call Semaphores.post_effect
    semaphore-wakes some =
        record {
          waiters = omega (arith, of-post t q ok.cases number);
          some = some;
          outcome = rw (number, some);
          value = rw (number, some);
          tasks = rw (number, some);
          lines = rw (number, some);
        }

    module _ (none : anyone t.lines (semaphore_line q.a) ≡ false) where
      pub counts-value : (made t q).answer.value ≡ 0
      unfolding call_of Semaphores.semaphore_call Semaphores.post_effect
      counts-value = rw (ok.answer, number, none)

      pub counts-tasks : (next t q).tasks ≡ t.tasks
      unfolding call_of Semaphores.semaphore_call Semaphores.post_effect
      counts-tasks = tasks-after t q ok ∙ rw (number, none)

  -- ---- 33, at an event
  module _ (number : q.number ≡ 0x33) where
    -- what the waiter matches, with the mask's bits posted
    abbrev pub match : ℕ
    match = Events.waiter_match t.tasks t.lines q.a (bit_or (event t.events q.a BITS) q.b)

    pub event-wakes : eqb match 0 ≡ false → ServesFirst t q (event_line q.a) match
    unfolding call_of Events.event_call Events.posted_bits
    event-wakes some =
        record {
          waiters = omega (arith, of-event t q ok.cases number);
          some = match-waits t.tasks t.lines q.a _ some;
          outcome = rw (number, some);
          value = rw (number, some);
          tasks = rw (number, some);
          lines = rw (number, some);
        }

    module _ (none : eqb match 0 ≡ true) where
      pub sets-value : (made t q).answer.value ≡ 0
      unfolding call_of Events.event_call Events.posted_bits
      sets-value = rw (ok.answer, number, none)

      pub sets-tasks : (next t q).tasks ≡ t.tasks
      unfolding call_of Events.event_call Events.posted_bits
      sets-tasks = tasks-after t q ok ∙ rw (number, none)

  -- ---- 42, at a mailbox
  module _ (number : q.number ≡ 0x42) where
    pub mailbox-wakes : Mailboxes.waits_first t.tasks t.lines q.a reading ≡ true → ServesFirst t q (mailbox_line q.a) q.b
    unfolding call_of Mailboxes.mailbox_call Mailboxes.post_effect
    mailbox-wakes some =
        record {
          waiters = omega (arith, of-mailbox t q ok.cases (inl number));
          some = first-waits t.tasks t.lines q.a reading some;
          outcome = rw (number, some);
          value = rw (number, some);
          tasks = rw (number, some);
          lines = rw (number, some);
        }

    -- the word is stored, or the post is not met, or its caller waits
    module _ (none : Mailboxes.waits_first t.tasks t.lines q.a reading ≡ false) where
      abbrev effect : Effect WaitTables
      effect = Mailboxes.post_effect (wait_tables t.tasks t.lines t.mailboxes) t.state q.a q.b q.c

      abbrev waits_with : Task → Effect WaitTables
      waits_with k =
          accepted now_waiting 0
          (with_queues (wait_tables t.tasks t.lines t.mailboxes) (moved at_back (current t.state) k (task_queues t.tasks t.lines)))

      by-room : (P : Effect WaitTables → Type 0) → ((ms : List ℕ) → P (accepted done 0 (wait_tables t.tasks t.lines ms)))
          → P (accepted not_met 0 (wait_tables t.tasks t.lines t.mailboxes)) → ((k : Task) → k.mode ≡ writing → P (waits_with k)) → P effect
      unfolding Mailboxes.post_effect
      by-room P stored unmet waits =
          rw none
          (chosen P (Mailboxes.is_full t.mailboxes q.a) _ _
          (λ _. chosen P (eqb q.c 0) _ _ (λ _. unmet) (λ _. waits _ refl))
          (λ _. stored _))

      is-effect : (call_for t q).effect.answer ≡ effect.answer
      unfolding call_of Mailboxes.mailbox_call
      is-effect = rw number

      is-next : (call_for t q).effect.next.tasks ≡ effect.next.tasks
      unfolding call_of Mailboxes.mailbox_call
      is-next = rw number

      pub stores-value : (made t q).answer.value ≡ 0
      stores-value =
          ap (λ (r : Answer). r.value) (ok.answer ∙ is-effect) ∙ by-room (λ (e : Effect WaitTables). e.answer.value ≡ 0) (λ ms. refl) refl (λ k m. refl)

      -- every row stays, but that of a caller that now waits to write
      pub stores-rows : Typed t → (x : ℕ)
          → (task (next t q).tasks x ≡ task t.tasks x) ⊎ ((x ≡ current t.state) × ((task (next t q).tasks x).mode ≡ writing))
      stores-rows typed x =
          rw (tasks-after t q ok ∙ is-next)
          (by-room
          (λ (e : Effect WaitTables). (task e.next.tasks x ≡ task t.tasks x) ⊎ ((x ≡ current t.state) × ((task e.next.tasks x).mode ≡ writing)))
          (λ ms. inl refl) (inl refl)
          (λ k m.
          ⊎_elim inl (λ (e, row). inr (e, ap (λ (w : Task). w.mode) row ∙ m))
          (moved-or-same at_back (current t.state) k t.tasks t.lines typed.tasks x)))
