-- A call of a known number: the cases of its definition are the rows of the table.
use Prim.{Unit, tt}
use Prim.Native.Nat.{ℕ, ◌<◌}
use mathlib.Core.Path.{◌≡◌, refl, sym}
use mathlib.Core.Logic.{◌≢◌, ⊎_elim}
use mathlib.Core.Bool.{Bool, true, false, not, ◌&&◌, and_comm, or-false}
use mathlib.Core.List.{List, [], ◌∷◌}
use native.Mathlib.Omega.{arith}
use lib.Dec.{eqb, ltb}
use borrow.Author.Tests.{ne_eqb}
use Rattle.basics.specs.Lists.{count}
use Rattle.basics.proofs.Laws.{same?}
use Rattle.rules.specs.Answer.{Cases, CallRule, asked}
use Rattle.rules.specs.Rows.{field}
use Rattle.rules.specs.Tables.{task, clock, task_width, task_count, swi_width, swi_count, semaphore_width, semaphore_count, event_width, event_count}
use Rattle.rules.specs.Tables.{mailbox_width, mailbox_count, clock_width, clock_count, USED, CAPACITY}
use Rattle.rules.specs.Step.{call_of}
use Rattle.rules.specs.Dispatch.{context}
use Rattle.rules.specs.Waits as Waits
use Rattle.rules.specs.Tasks as Tasks
use Rattle.rules.specs.Swis as Swis
use Rattle.rules.specs.Semaphores as Semaphores
use Rattle.rules.specs.Events as Events
use Rattle.rules.specs.Mailboxes as Mailboxes
use Rattle.rules.specs.Clocks as Clocks
use Rattle.rules.specs.Heap as Heap
use Rattle.rules.specs.Switches as Switches
use Rattle.rules.specs.Tick as Tick
use Rattle.rules.specs.declared.Tables.{Tables}
use Rattle.demand_1_refusals.specs.Refusals.{among, known, unknown_number, thread_order, wrong_context, limit_of, object_table, takes_object, size_of}
use Rattle.demand_1_refusals.specs.Refusals.{used_in, outside_table, inside_unused, bad_value, unused_not_zero, bad_argument, first_is, begins_wait}
use Rattle.demand_1_refusals.specs.Refusals.{state_forbids, no_free_number, at_its_end, no_heap_room, switched_off}
use Rattle.rules.specs.declared.Call.{Call}

-- what holds of each of a list's numbers holds of those that stand in it
abbrev pub All : (ℕ → Type 0) → List ℕ → Type 0
All P [] = Unit {0}
All P (m ∷ ms) = P m × All P ms

pub one_of : (P : ℕ → Type 0) (ms : List ℕ) → All P ms → (n : ℕ) → 0 < count n ms → P n
unfolding count
one_of P [] all n h = absurd (omega arith)
one_of P (m ∷ ms) all n h =
    ⊎_elim
    (λ (e : m ≡ n). rw (← e) all.0)
    (λ (d : m ≢ n). one_of P ms all.1 n (omega (arith, rw (ne_eqb m n d) at h)))
    (same? m n)

-- a call's definition and its cases, and the rows of the table
abbrev pub call_for : Tables → Call → CallRule Tables
call_for t q = call_of t (context t.lines t.state) q.number q.a q.b q.c q.d

abbrev pub cases_of : Tables → Call → Cases
cases_of t q = (call_for t q).cases

-- all codes' cases but those of 3 and 11
abbrev pub Agrees : Tables → Call → Type 0
Agrees t q =
    (cases_of t q 10 ≡ false)
    × (cases_of t q 1 ≡ unknown_number q)
    × (cases_of t q 2 ≡ wrong_context (thread_order t) q)
    × (cases_of t q 4 ≡ bad_argument t q)
    × (cases_of t q 5 ≡ state_forbids (thread_order t) t q)
    × (cases_of t q 6 ≡ no_free_number t q)
    × (cases_of t q 7 ≡ at_its_end t q)
    × (cases_of t q 8 ≡ no_heap_room t q)
    × (cases_of t q 9 ≡ switched_off (thread_order t) t q)

infixr 35 ◌&◌
pub ◌&◌ : {A B : Type 0} → A → B → A × B
a & b = (a, b)

-- nine rows that agree by computation
rows : {a b c d e f g h i : Bool}
    → (a ≡ a) × (b ≡ b) × (c ≡ c) × (d ≡ d) × (e ≡ e) × (f ≡ f) × (g ≡ g) × (h ≡ h) × (i ≡ i)
rows = (refl, refl, refl, refl, refl, refl, refl, refl, refl)

-- in the order of `known`, a line for each range
pub agrees : (t : Tables) (a b c d : ℕ) → All (λ n. Agrees t (asked n a b c d)) known
unfolding call_of among count unknown_number wrong_context limit_of bad_value unused_not_zero bad_argument first_is begins_wait state_forbids no_free_number at_its_end
    no_heap_room switched_off Waits.outside
    Tasks.task_call Tasks.create_cases Tasks.delete_cases Tasks.set_priority_cases Tasks.yield_cases Tasks.end_cases Tasks.sleep_cases Tasks.last_result_cases
    Swis.swi_call Swis.create_cases Swis.delete_cases Swis.post_cases Swis.mask_cases Swis.end_cases Swis.taken_cases
    Semaphores.semaphore_call Semaphores.create_cases Semaphores.delete_cases Semaphores.reset_cases Semaphores.pend_waits Semaphores.pend_cases
    Semaphores.post_cases Events.event_call Events.create_cases Events.delete_cases Events.pend_waits Events.pend_cases Events.post_cases
    Mailboxes.mailbox_call Mailboxes.waits_first Mailboxes.create_cases Mailboxes.delete_cases Mailboxes.post_waits Mailboxes.pend_waits
    Mailboxes.post_cases Mailboxes.pend_cases Clocks.clock_call Clocks.create_cases Clocks.delete_cases Clocks.start_stop_cases
    Heap.heap_call Heap.take_cases Heap.give_cases Tick.switch_call Switches.off_cases Switches.restore_cases Switches.in_cases Switches.interrupt_cases
agrees t a b c d =
    rows & rows & rows & rows & rows & rows & rows
    & rows & rows & rows & rows & rows & rows & rows & rows & rows
    & rows & rows & rows & rows & rows
    & rows & rows & (refl, refl, refl, sym (or-false _), refl, refl, refl, refl, refl) & rows
    & rows & rows & rows & rows
    & rows & rows & rows & rows
    & rows & rows
    & rows & rows & rows & rows & rows
    & tt

-- ---- codes 3 and 11: the case of 3, since a number outside its table reads as not in use
abbrev pub ObjectAgrees : Tables → Call → Type 0
ObjectAgrees t q = (cases_of t q 3 ≡ outside_table q) × (cases_of t q 11 ≡ inside_unused t q)

module _ (w n : ℕ) (t : List ℕ) (a f : ℕ) where
  abbrev free : Bool
  free = eqb (field w n t a f) 0

  unread : ltb a n ≡ false → free ≡ true
  unfolding field
  unread e = rw e

  on : ((free && not (ltb a n)) ≡ not (ltb a n)) × ((free && ltb a n) ≡ (ltb a n && free))
  on = (either free (ltb a n) unread, and_comm free (ltb a n))
    where
      either : (u b : Bool) → (b ≡ false → u ≡ true) → (u && not b) ≡ not b
      either true b h = refl
      either false true h = refl
      either false false h = h refl

none : {x y : Bool} → (x ≡ x) × (y ≡ y)
none = (refl, refl)

-- in the order of `known`, a line for each range
pub object-agrees : (t : Tables) (a b c d : ℕ) → All (λ n. ObjectAgrees t (asked n a b c d)) known
unfolding call_of task clock among count object_table takes_object size_of used_in outside_table inside_unused
    Tasks.task_call Tasks.create_cases Tasks.delete_cases Tasks.set_priority_cases Tasks.yield_cases Tasks.end_cases Tasks.sleep_cases Tasks.last_result_cases
    Swis.swi_call Swis.create_cases Swis.delete_cases Swis.post_cases Swis.mask_cases Swis.end_cases Swis.taken_cases
    Semaphores.semaphore_call Semaphores.create_cases Semaphores.delete_cases Semaphores.reset_cases Semaphores.pend_cases Semaphores.post_cases
    Events.event_call Events.create_cases Events.delete_cases Events.pend_cases Events.post_cases
    Mailboxes.mailbox_call Mailboxes.create_cases Mailboxes.delete_cases Mailboxes.post_cases Mailboxes.pend_cases
    Clocks.clock_call Clocks.create_cases Clocks.delete_cases Clocks.start_stop_cases Heap.heap_call Heap.take_cases Heap.give_cases Tick.switch_call
    Switches.off_cases Switches.restore_cases Switches.in_cases Switches.interrupt_cases
object-agrees t a b c d =
    let on_task = on task_width task_count t.tasks a 0 in
    let on_swi = on swi_width swi_count t.swis a USED in
    let on_semaphore = on semaphore_width semaphore_count t.semaphores a USED in
    let on_event = on event_width event_count t.events a USED in
    let on_mailbox = on mailbox_width mailbox_count t.mailboxes a CAPACITY in
    let on_clock = on clock_width clock_count t.clocks a 0 in
    none & on_task & on_task & none & none & none & on_task
    & none & on_swi & on_swi & on_swi & on_swi & on_swi & on_swi & none & none
    & none & on_semaphore & on_semaphore & on_semaphore & on_semaphore
    & none & on_event & on_event & on_event
    & none & on_mailbox & on_mailbox & on_mailbox
    & on_swi & on_clock & on_clock & on_clock
    & none & none
    & none & none & none & none & none
    & tt
