-- Whom the calls of tasks, semaphores, events and mailboxes move: nobody in a line of Swis and, by number and answer, nobody at all.
use Prim.Native.Nat.{ℕ, ◌<◌}
use mathlib.Core.Path.{◌≡◌, refl, sym, ap, ◌∙◌}
use mathlib.Core.Bool.{Bool, true, false, not, ◌&&◌, ◌||◌, true≢false, cond as if}
use mathlib.Core.List.{List}
use native.Mathlib.Omega.{arith}
use borrow.Author.Tests.{eqb-true, ne_eqb}
use lib.Dec.{eqb, ltb}
use Rattle.basics.specs.Rule.{Means}
use Rattle.rules.specs.Answer.{Cases, Effect, accepted, CallRule, called, code_of, done, not_met, now_waiting}
use Rattle.rules.specs.Tables.{no_task, reading, writing, semaphore, event, mailbox, current, USED, COUNT, BITS, CAPACITY, MESSAGES, levels, event_count}
use Rattle.rules.specs.Tables.{event_width, mailbox_count, mailbox_width, semaphore_count, semaphore_width}
use Rattle.rules.specs.Lines.{semaphore_line, mailbox_line, event_line, posted_line, line, anyone, front_of, home_by, TaskQueues, at_back}
use Rattle.rules.specs.Waits.{WaitTables, wait_tables, queues_of, wakes_first}
use Rattle.rules.specs.Sound.{tasks_rule}
use Rattle.rules.specs.Tasks as Tasks
use Rattle.rules.specs.Semaphores as Semaphores
use Rattle.rules.specs.Events as Events
use Rattle.rules.specs.Mailboxes as Mailboxes
use Rattle.rules_laws.proofs.Rows.{row-used}
use Rattle.rules_laws.proofs.Calls.{chosen}
use Rattle.demand_2_soundness.proofs.Groups.{SwisStay, NeverWaits}
use Rattle.demand_2_soundness.proofs.Codes.{accepted-is, used-object}
use Rattle.demand_2_soundness.proofs.Standing.{first-not}
use Rattle.demand_2_soundness.proofs.Objects.{match-waits, first-waits}
use Rattle.demand_2_soundness.proofs.Aside.{home-aside, moved-aside, waits-aside, woken-aside, placed-aside, priority-aside}

-- ---- what an accepted call leaves: the lines of Swis as they were, and all lines as they were where `moves` says of its outcome and value that
-- nobody has moved
pub record Leaves {A : Type 0} (lines_of : A → List ℕ) (ls : List ℕ) (moves : ℕ → ℕ → Bool) (e : Effect A) : Type 0 where
  pub swis : SwisStay ls (lines_of e.next)
  pub none : moves e.answer.outcome e.answer.value ≡ false → lines_of e.next ≡ ls

pub record Quiet {A : Type 0} (lines_of : A → List ℕ) (ls : List ℕ) (moves : ℕ → ℕ → Bool) (c : CallRule A) : Type 0 where
  pub leaves : code_of c.cases ≡ 0 → Leaves lines_of ls moves c.effect

module _ {A : Type 0} {lines_of : A → List ℕ} {ls : List ℕ} {moves : ℕ → ℕ → Bool} where
  -- all lines stay; a task moves, and the outcome and value say so
  stays : {o v : ℕ} {x : A} → lines_of x ≡ ls → Leaves lines_of ls moves (accepted o v x)
  stays e = record { swis = λ j low high. ap (λ (l : List ℕ). line l j) e; none = λ _. e }

  goes : {o v : ℕ} {x : A} → moves o v ≡ true → SwisStay ls (lines_of x) → Leaves lines_of ls moves (accepted o v x)
  goes m aside = record { swis = aside; none = λ n. absurd (true≢false (sym m ∙ n)) }

  tested : (b : Bool) {x y : Effect A} → Leaves lines_of ls moves x → Leaves lines_of ls moves y → Leaves lines_of ls moves (if b x y)
  tested b {x} {y} p q = chosen (λ (e : Effect A). Leaves lines_of ls moves e) b x y (λ _. p) (λ _. q)

  -- a call, one that leaves all lines as they are, and a choice of calls
  does : {c : Cases} {e : Effect A} → (code_of c ≡ 0 → Leaves lines_of ls moves e) → Quiet lines_of ls moves (called c e)
  does p = record { leaves = p }

  same : {c : Cases} {o v : ℕ} {x : A} → lines_of x ≡ ls → Quiet lines_of ls moves (called c (accepted o v x))
  same e = does (λ _. stays e)

  numbered : (b : Bool) {x y : CallRule A} → (b ≡ true → Quiet lines_of ls moves x) → Quiet lines_of ls moves y → Quiet lines_of ls moves (if b x y)
  numbered b {x} {y} p q = chosen (λ (c : CallRule A). Quiet lines_of ls moves c) b x y p (λ _. q)

-- ---- tasks: a delete and a last result move nobody
abbrev pub task_moves : ℕ → ℕ → ℕ → Bool
task_moves number o v = not (eqb number 0x01) && not (eqb number 0x06)

module _ (q : TaskQueues) (sx : List ℕ) (rows : Means (tasks_rule (levels sx) q.tasks)) (st : List ℕ) (x number a b c d : ℕ) where
  pub tasks-quiet : Quiet (λ (y : TaskQueues). y.lines) q.lines (task_moves number) (Tasks.task_call q st x number a b c d)
  unfolding Tasks.task_call Tasks.create_effect Tasks.delete_effect Tasks.set_priority_effect Tasks.yield_effect Tasks.end_effect
      Tasks.sleep_effect Tasks.last_result_effect home_by
  tasks-quiet =
      numbered (eqb number 0x00) (λ e. does (λ _. goes (rw (eqb-true number 0x00 e)) (placed-aside q sx rows _ no_task a)))
      (numbered (eqb number 0x01) (λ _. same refl)
      (numbered (eqb number 0x02) (λ e. does (λ _. goes (rw (eqb-true number 0x02 e)) (priority-aside q sx rows a b)))
      (numbered (eqb number 0x03)
      (λ e. does (λ _. goes (rw (eqb-true number 0x03 e)) (moved-aside q sx rows at_back (current st) _ (home-aside q sx rows (current st)))))
      (numbered (eqb number 0x04)
      (λ e. does (λ _. goes (rw (eqb-true number 0x04 e)) (moved-aside q sx rows at_back (current st) _ (λ j low high n. omega arith))))
      (numbered (eqb number 0x05)
      (λ e.
      does
      (λ _.
      tested (eqb a 0) (stays refl) (goes (rw (eqb-true number 0x05 e)) (moved-aside q sx rows at_back (current st) _ (λ j low high n. omega arith)))))
      (numbered (eqb number 0x06) (λ _. same refl) (same refl)))))))

-- ---- a post at any of the three kinds: it wakes the first in line, who is not task 0, so its value says that a task has moved
module _ (q : WaitTables) (sx : List ℕ) (rows : Means (tasks_rule (levels sx) q.tasks)) (never : NeverWaits 0 q.lines) where
  wakes-one : {moves : ℕ → ℕ → Bool} (j v : ℕ) (os : List ℕ) → ((i : ℕ) → eqb i 0 ≡ false → moves done i ≡ true)
      → j < posted_line 0 → anyone q.lines j ≡ true
      → Leaves (λ (y : WaitTables). y.lines) q.lines moves (wakes_first j v (wait_tables q.tasks q.lines os))
  wakes-one j v os says waiters some =
      goes (says _ (ne_eqb (front_of q.lines j) 0 (first-not 0 q.lines never j waiters some))) (woken-aside (queues_of q) sx rows _ done v)

-- ---- semaphores and events: only a wait that begins, and a post with a wake, move a task (`dispatch_after/specs/Settle` says it of the code's answer)
abbrev pub waits_or_wakes : ℕ → ℕ → ℕ → ℕ → Bool
waits_or_wakes post number o v = eqb o now_waiting || (eqb number post && not (eqb v 0))

module _ (q : WaitTables) (sx : List ℕ) (rows : Means (tasks_rule (levels sx) q.tasks)) (never : NeverWaits 0 q.lines)
    (st : List ℕ) (x number a b c d : ℕ) where
  abbrev LeavesBy : ℕ → Effect WaitTables → Type 0
  LeavesBy post e = Leaves (λ (y : WaitTables). y.lines) q.lines (waits_or_wakes post number) e

  pend-leaves : code_of (Semaphores.pend_cases q.objects st x a b c d) ≡ 0 → LeavesBy 0x23 (Semaphores.pend_effect q st a b)
  unfolding Semaphores.pend_cases Semaphores.pend_effect home_by
  pend-leaves z =
      let ok = accepted-is (Semaphores.pend_cases q.objects st x a b c d) z in
      let lt : a < semaphore_count = row-used semaphore_width semaphore_count q.objects a USED (used-object _ _ ok.at3 ok.at11) in
      tested (ltb 0 (semaphore q.objects a COUNT)) (stays refl)
      (tested (eqb b 0) (stays refl) (goes refl (waits-aside (queues_of q) sx rows _ (current st) _ (omega arith))))

  post-leaves : eqb number 0x23 ≡ true → code_of (Semaphores.post_cases q.objects a b c d) ≡ 0 → LeavesBy 0x23 (Semaphores.post_effect q a)
  unfolding Semaphores.post_cases Semaphores.post_effect
  post-leaves e z =
      let ok = accepted-is (Semaphores.post_cases q.objects a b c d) z in
      let lt : a < semaphore_count = row-used semaphore_width semaphore_count q.objects a USED (used-object _ _ ok.at3 ok.at11) in
      chosen (LeavesBy 0x23) (anyone q.lines (semaphore_line a)) _ _
      (wakes-one q sx rows never (semaphore_line a) 0 q.objects (λ i n. rw (e, n)) (omega arith))
      (λ _. stays refl)

  pub semaphores-quiet : Quiet (λ (y : WaitTables). y.lines) q.lines (waits_or_wakes 0x23 number) (Semaphores.semaphore_call q st x number a b c d)
  unfolding Semaphores.semaphore_call Semaphores.create_effect Semaphores.delete_effect Semaphores.reset_effect
  semaphores-quiet =
      numbered (eqb number 0x20) (λ _. same refl)
      (numbered (eqb number 0x21) (λ _. same refl)
      (numbered (eqb number 0x22) (λ _. does pend-leaves)
      (numbered (eqb number 0x23) (λ e. does (post-leaves e))
      (numbered (eqb number 0x24) (λ _. same refl) (same refl)))))

  event-pend-leaves : code_of (Events.pend_cases q.lines q.objects st x a b c d) ≡ 0 → LeavesBy 0x33 (Events.pend_effect q st a b c d)
  unfolding Events.pend_cases Events.pend_effect home_by
  event-pend-leaves z =
      let ok = accepted-is (Events.pend_cases q.lines q.objects st x a b c d) z in
      let lt : a < event_count = row-used event_width event_count q.objects a USED (used-object _ _ ok.at3 ok.at11) in
      tested (eqb (Events.matched (event q.objects a BITS) b c) 0)
      (tested (eqb d 0) (stays refl) (goes refl (waits-aside (queues_of q) sx rows _ (current st) _ (omega arith))))
      (stays refl)

  event-post-leaves : (bits : ℕ) → eqb number 0x33 ≡ true → code_of (Events.post_cases q.objects a c d) ≡ 0 → LeavesBy 0x33 (Events.posted_bits q a bits)
  unfolding Events.post_cases Events.posted_bits
  event-post-leaves bits e z =
      let ok = accepted-is (Events.post_cases q.objects a c d) z in
      let lt : a < event_count = row-used event_width event_count q.objects a USED (used-object _ _ ok.at3 ok.at11) in
      chosen (LeavesBy 0x33) (eqb (Events.waiter_match q.tasks q.lines a bits) 0) _ _
      (λ _. stays refl)
      (λ m. wakes-one q sx rows never (event_line a) _ _ (λ i n. rw (e, n)) (omega arith) (match-waits q.tasks q.lines a bits m))

  pub events-quiet : Quiet (λ (y : WaitTables). y.lines) q.lines (waits_or_wakes 0x33 number) (Events.event_call q st x number a b c d)
  unfolding Events.event_call Events.create_effect Events.delete_effect
  events-quiet =
      numbered (eqb number 0x30) (λ _. same refl)
      (numbered (eqb number 0x31) (λ _. same refl)
      (numbered (eqb number 0x32) (λ _. does event-pend-leaves)
      (numbered (eqb number 0x33) (λ e. does (event-post-leaves _ e)) (same refl))))

-- ---- mailboxes: a post that waits or wakes, and a pend unless it is not met
abbrev pub mailbox_moves : ℕ → ℕ → ℕ → Bool
mailbox_moves number o v = if (eqb number 0x42) (eqb o now_waiting || not (eqb v 0)) (eqb number 0x43 && not (eqb o not_met))

module _ (q : WaitTables) (sx : List ℕ) (rows : Means (tasks_rule (levels sx) q.tasks)) (never : NeverWaits 0 q.lines)
    (st : List ℕ) (x number a b c d : ℕ) where
  abbrev LeavesMailbox : Effect WaitTables → Type 0
  LeavesMailbox e = Leaves (λ (y : WaitTables). y.lines) q.lines (mailbox_moves number) e

  mailbox-post-leaves : eqb number 0x42 ≡ true → code_of (Mailboxes.post_cases q.tasks q.lines q.objects st x a c d) ≡ 0
      → LeavesMailbox (Mailboxes.post_effect q st a b c)
  unfolding Mailboxes.post_cases Mailboxes.post_effect home_by
  mailbox-post-leaves e z =
      let ok = accepted-is (Mailboxes.post_cases q.tasks q.lines q.objects st x a c d) z in
      let lt : a < mailbox_count = row-used mailbox_width mailbox_count q.objects a CAPACITY (used-object _ _ ok.at3 ok.at11) in
      chosen LeavesMailbox (Mailboxes.waits_first q.tasks q.lines a reading) _ _
      (λ w. wakes-one q sx rows never (mailbox_line a) b q.objects (λ i n. rw (e, n)) (omega arith) (first-waits q.tasks q.lines a reading w))
      (λ _.
      tested (Mailboxes.is_full q.objects a)
      (tested (eqb c 0) (stays refl) (goes (rw e) (waits-aside (queues_of q) sx rows _ (current st) _ (omega arith))))
      (stays refl))

  taken_aside : SwisStay q.lines (Mailboxes.oldest_taken q a).lines
  unfolding Mailboxes.oldest_taken
  taken_aside j low high =
      chosen (λ (y : WaitTables). line y.lines j ≡ line q.lines j) (Mailboxes.waits_first q.tasks q.lines a writing) _ _
      (λ _. woken-aside (queues_of q) sx rows _ 0 0 j low high) (λ _. refl)

  mailbox-pend-leaves : eqb number 0x43 ≡ true → code_of (Mailboxes.pend_cases q.objects st x a b c d) ≡ 0
      → LeavesMailbox (Mailboxes.pend_effect q st a b)
  unfolding Mailboxes.pend_cases Mailboxes.pend_effect home_by
  mailbox-pend-leaves e z =
      let ok = accepted-is (Mailboxes.pend_cases q.objects st x a b c d) z in
      let lt : a < mailbox_count = row-used mailbox_width mailbox_count q.objects a CAPACITY (used-object _ _ ok.at3 ok.at11) in
      tested (eqb (mailbox q.objects a MESSAGES) 0)
      (tested (eqb b 0) (stays refl) (goes (rw (eqb-true number 0x43 e)) (waits-aside (queues_of q) sx rows _ (current st) _ (omega arith))))
      (goes (rw (eqb-true number 0x43 e)) taken_aside)

  pub mailboxes-quiet : Quiet (λ (y : WaitTables). y.lines) q.lines (mailbox_moves number) (Mailboxes.mailbox_call q st x number a b c d)
  unfolding Mailboxes.mailbox_call Mailboxes.create_effect Mailboxes.delete_effect
  mailboxes-quiet =
      numbered (eqb number 0x40) (λ _. same refl)
      (numbered (eqb number 0x41) (λ _. same refl)
      (numbered (eqb number 0x42) (λ e. does (mailbox-post-leaves e))
      (numbered (eqb number 0x43) (λ e. does (mailbox-pend-leaves e)) (same refl))))
