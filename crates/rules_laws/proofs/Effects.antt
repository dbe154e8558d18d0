-- What a call does where it is accepted is answered with code 0, whatever its number.
use Prim.Native.Nat.{ℕ}
use mathlib.Core.Path.{◌≡◌, refl}
use mathlib.Core.Bool.{Bool, cond as if}
use mathlib.Core.List.{List}
use lib.Dec.{eqb, ltb}
use Rattle.rules.specs.Answer.{Cases, Effect, CallRule, called, accepted}
use Rattle.rules.specs.Tables.{semaphore, event, mailbox, reading, COUNT, BITS, MESSAGES}
use Rattle.rules.specs.Lines.{TaskQueues, anyone, semaphore_line}
use Rattle.rules.specs.Waits.{WaitTables}
use Rattle.rules.specs.Swis.{SwiQueues}
use Rattle.rules.specs.Tick.{TickTables}
use Rattle.rules.specs.Tasks as Tasks
use Rattle.rules.specs.Swis as Swis
use Rattle.rules.specs.Semaphores as Semaphores
use Rattle.rules.specs.Events as Events
use Rattle.rules.specs.Mailboxes as Mailboxes
use Rattle.rules.specs.Clocks as Clocks
use Rattle.rules.specs.Heap as Heap
use Rattle.rules.specs.Switches as Switches
use Rattle.rules.specs.Tick as Tick
use Rattle.rules.specs.Step.{with_queued, with_posts, with_semaphores, with_events, with_mailboxes, with_clocks, with_heap, with_ticked, over, in_range, call_of}
use Rattle.rules.specs.declared.Tables.{Tables}
use Rattle.rules_laws.proofs.Calls.{chosen}

record Coded {A : Type 0} (e : Effect A) : Type 0 where
  code : e.answer.code ≡ 0

record Accepts {A : Type 0} (c : CallRule A) : Type 0 where
  effect : Coded c.effect

module _ {A : Type 0} where
  plain : (o v : ℕ) (t : A) → Coded (accepted o v t)
  plain o v t = record { code = refl }

  tested : (b : Bool) {x y : Effect A} → Coded x → Coded y → Coded (if b x y)
  tested b {x} {y} p q = chosen (λ (e : Effect A). Coded e) b x y (λ _. p) (λ _. q)

  -- a call, and a choice of calls
  does : (c : Cases) {e : Effect A} → Coded e → Accepts (called c e)
  does c p = record { effect = p }

  one : (c : Cases) (o v : ℕ) (t : A) → Accepts (called c (accepted o v t))
  one c o v t = does c (plain o v t)

  numbered : (b : Bool) {x y : CallRule A} → Accepts x → Accepts y → Accepts (if b x y)
  numbered b {x} {y} p q = chosen (λ (c : CallRule A). Accepts c) b x y (λ _. p) (λ _. q)

  -- a kind's call as a call on all tables
  all : (put : A → Tables) (c : CallRule A) → Accepts c → Accepts (over put c)
  all put c p = record { effect = record { code = p.effect.code } }

-- ---- the effects that go by a test
module _ (q : WaitTables) (st : List ℕ) (a b c d : ℕ) where
  pend-code : Coded (Semaphores.pend_effect q st a b)
  unfolding Semaphores.pend_effect
  pend-code = tested (ltb 0 (semaphore q.objects a COUNT)) (plain _ _ _) (tested (eqb b 0) (plain _ _ _) (plain _ _ _))

  post-code : Coded (Semaphores.post_effect q a)
  unfolding Semaphores.post_effect
  post-code = tested (anyone q.lines (semaphore_line a)) (plain _ _ _) (plain _ _ _)

  event-pend-code : Coded (Events.pend_effect q st a b c d)
  unfolding Events.pend_effect
  event-pend-code =
      tested (eqb (Events.matched (event q.objects a BITS) b c) 0) (tested (eqb d 0) (plain _ _ _) (plain _ _ _)) (plain _ _ _)

  event-post-code : Coded (Events.posted_bits q a b)
  unfolding Events.posted_bits
  event-post-code = tested (eqb (Events.waiter_match q.tasks q.lines a b) 0) (plain _ _ _) (plain _ _ _)

  mailbox-post-code : Coded (Mailboxes.post_effect q st a b c)
  unfolding Mailboxes.post_effect
  mailbox-post-code =
      tested (Mailboxes.waits_first q.tasks q.lines a reading) (plain _ _ _)
      (tested (Mailboxes.is_full q.objects a) (tested (eqb c 0) (plain _ _ _) (plain _ _ _)) (plain _ _ _))

  mailbox-pend-code : Coded (Mailboxes.pend_effect q st a b)
  unfolding Mailboxes.pend_effect
  mailbox-pend-code = tested (eqb (mailbox q.objects a MESSAGES) 0) (tested (eqb b 0) (plain _ _ _) (plain _ _ _)) (plain _ _ _)

-- ---- each kind
module _ (x number a b c d : ℕ) where
  task-code : (q : TaskQueues) (st : List ℕ) → Accepts (Tasks.task_call q st x number a b c d)
  unfolding Tasks.task_call Tasks.create_effect Tasks.delete_effect Tasks.set_priority_effect Tasks.yield_effect Tasks.end_effect
      Tasks.sleep_effect Tasks.last_result_effect
  task-code q st =
      numbered (eqb number 0x00) (one _ _ _ _)
      (numbered (eqb number 0x01) (one _ _ _ _)
      (numbered (eqb number 0x02) (one _ _ _ _)
      (numbered (eqb number 0x03) (one _ _ _ _)
      (numbered (eqb number 0x04) (one _ _ _ _)
      (numbered (eqb number 0x05) (does _ (tested (eqb a 0) (plain _ _ _) (plain _ _ _)))
      (numbered (eqb number 0x06) (one _ _ _ _) (one _ _ _ _)))))))

  swi-code : (p : SwiQueues) (cs st : List ℕ) → Accepts (Swis.swi_call p cs st x number a b c d)
  unfolding Swis.swi_call Swis.create_effect Swis.delete_effect Swis.post_effect Swis.change_effect Swis.zero_effect Swis.end_effect Swis.taken_effect
  swi-code p cs st =
      numbered (eqb number 0x10) (one _ _ _ _)
      (numbered (eqb number 0x11) (one _ _ _ _)
      (numbered (eqb number 0x12) (one _ _ _ _)
      (numbered (eqb number 0x13) (one _ _ _ _)
      (numbered (eqb number 0x14) (one _ _ _ _)
      (numbered (eqb number 0x15) (one _ _ _ _)
      (numbered (eqb number 0x16) (one _ _ _ _)
      (numbered (eqb number 0x17) (one _ _ _ _)
      (numbered (eqb number 0x18) (one _ _ _ _) (one _ _ _ _)))))))))

  semaphore-code : (q : WaitTables) (st : List ℕ) → Accepts (Semaphores.semaphore_call q st x number a b c d)
  unfolding Semaphores.semaphore_call Semaphores.create_effect Semaphores.delete_effect Semaphores.reset_effect
  semaphore-code q st =
      numbered (eqb number 0x20) (one _ _ _ _)
      (numbered (eqb number 0x21) (one _ _ _ _)
      (numbered (eqb number 0x22) (does _ (pend-code q st a b c d))
      (numbered (eqb number 0x23) (does _ (post-code q st a b c d))
      (numbered (eqb number 0x24) (one _ _ _ _) (one _ _ _ _)))))

  event-code : (q : WaitTables) (st : List ℕ) → Accepts (Events.event_call q st x number a b c d)
  unfolding Events.event_call Events.create_effect Events.delete_effect
  event-code q st =
      numbered (eqb number 0x30) (one _ _ _ _)
      (numbered (eqb number 0x31) (one _ _ _ _)
      (numbered (eqb number 0x32) (does _ (event-pend-code q st a b c d))
      (numbered (eqb number 0x33) (does _ (event-post-code q st a _ c d)) (one _ _ _ _))))

  mailbox-code : (q : WaitTables) (st : List ℕ) → Accepts (Mailboxes.mailbox_call q st x number a b c d)
  unfolding Mailboxes.mailbox_call Mailboxes.create_effect Mailboxes.delete_effect
  mailbox-code q st =
      numbered (eqb number 0x40) (one _ _ _ _)
      (numbered (eqb number 0x41) (one _ _ _ _)
      (numbered (eqb number 0x42) (does _ (mailbox-post-code q st a b c d))
      (numbered (eqb number 0x43) (does _ (mailbox-pend-code q st a b c d)) (one _ _ _ _))))

  clock-code : (cs ws : List ℕ) → Accepts (Clocks.clock_call cs ws x number a b c d)
  unfolding Clocks.clock_call Clocks.create_effect Clocks.delete_effect Clocks.start_effect Clocks.stop_effect
  clock-code cs ws =
      numbered (eqb number 0x50) (one _ _ _ _)
      (numbered (eqb number 0x51) (one _ _ _ _)
      (numbered (eqb number 0x52) (one _ _ _ _)
      (numbered (eqb number 0x53) (one _ _ _ _) (one _ _ _ _))))

  heap-code : (h : List ℕ) → Accepts (Heap.heap_call h x number a b c d)
  unfolding Heap.heap_call Heap.take_effect Heap.give_effect
  heap-code h = numbered (eqb number 0x60) (one _ _ _ _) (numbered (eqb number 0x61) (one _ _ _ _) (one _ _ _ _))

  switch-code : (t : TickTables) → Accepts (Tick.switch_call t x number a b c d)
  unfolding Tick.switch_call Switches.off_effect Switches.restore_effect Switches.in_effect Switches.out_effect
  switch-code t =
      numbered (eqb number 0x74) (one _ _ _ _)
      (numbered (eqb number 0x75) (one _ _ _ _)
      (numbered (eqb number 0x76) (one _ _ _ _)
      (numbered (eqb number 0x77) (one _ _ _ _)
      (numbered (eqb number 0x78) (one _ _ _ _) (one _ _ _ _)))))

  accepts : (t : Tables) → Accepts (call_of t x number a b c d)
  unfolding call_of
  accepts t =
      numbered (in_range number 0x00) (all (with_queued t) _ (task-code _ _))
      (numbered (in_range number 0x10) (all (with_posts t) _ (swi-code _ _ _))
      (numbered (in_range number 0x20) (all (with_semaphores t) _ (semaphore-code _ _))
      (numbered (in_range number 0x30) (all (with_events t) _ (event-code _ _))
      (numbered (in_range number 0x40) (all (with_mailboxes t) _ (mailbox-code _ _))
      (numbered (in_range number 0x50) (all (with_clocks t) _ (clock-code _ _))
      (numbered (in_range number 0x60) (all (with_heap t) _ (heap-code _))
      (numbered (in_range number 0x70) (all (with_ticked t) _ (switch-code _)) (one _ _ _ t))))))))

pub effect-code : (t : Tables) (x number a b c d : ℕ) → (call_of t x number a b c d).effect.answer.code ≡ 0
effect-code t x number a b c d = (accepts x number a b c d t).effect.code
