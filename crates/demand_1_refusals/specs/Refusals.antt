-- 01's table of refusals, row by row: of each row, whether what it has under 'Given when' holds for this call on these tables. The tests of one
-- object, argument or switch are those that the calls' definitions use; which call asks for which, and in which row, is written here anew.
use Rattle.std.specs.Prelude.{ℕ, ◌*◌, ◌≡◌, Bool, true, false, not, ◌&&◌, ◌||◌, cond as if, List, [], ◌∷◌, eqb, ltb, leb, get_or}
use Rattle.basics.specs.Lists.{count, all_of}
use Rattle.rules.specs.Answer.{Cases, T, S, I, unused}
use Rattle.rules.specs.Tables.{task_count, swi_count, semaphore_count, event_count, mailbox_count, clock_count, heap_units, swi_levels, levels, minus_one, forever}
use Rattle.rules.specs.Tables.{mailbox_most, terminated, inactive, task, swi, semaphore, event, mailbox, clock, state, current, USED, KIND, COUNT, BITS}
use Rattle.rules.specs.Tables.{CAPACITY, MESSAGES, POSTED, DEPTH, SWIS, reading, unit_bytes, most_depth}
use Rattle.rules.specs.Lines.{semaphore_line, event_line, mailbox_line, anyone, front_of}
use Rattle.rules.specs.Waits.{switch_off, idle}
use Rattle.rules.specs.Tasks.{is_priority, free_task, blocked}
use Rattle.rules.specs.Swis.{free_swi, is_active, is_named}
use Rattle.rules.specs.Semaphores.{free_semaphore, most, is_binary, count_most, kind_count}
use Rattle.rules.specs.Events.{free_event, matched}
use Rattle.rules.specs.Mailboxes.{free_mailbox, is_full}
use Rattle.rules.specs.Clocks.{free_clock}
use Rattle.rules.specs.Heap.{is_block, lowest_run, units_of}
use Rattle.rules.specs.Switches.{bad_key}
use Rattle.rules.specs.Dispatch.{context}
use Rattle.rules.specs.Sound.{sound}
use Rattle.rules.specs.declared.Tables.{Tables}
use Rattle.rules.specs.declared.Call.{Call}

-- ---- what the rows of the codes 2, 5 and 9 ask of the threads' order; all else they read in the other tables. So an engine that keeps this order in
-- another way than by lines can be held to the same rows
pub record ThreadOrder : Type 0 where
  -- who calls: T, S or I
  pub caller : ℕ
  -- whether someone stands in this line, and who is first there
  pub anyone : ℕ → Bool
  pub first : ℕ → ℕ
  -- whether this Swi is active
  pub is_active : ℕ → Bool

-- the order in these tables
abbrev pub thread_order : Tables → ThreadOrder
thread_order t = record { caller = context t.lines t.state; anyone = anyone t.lines; first = front_of t.lines; is_active = is_active t.lines }

-- the call's number is one of these
unfoldable pub among : List ℕ → Call → Bool
among ns q = ltb 0 (count q.number ns)

-- ---- row 1, code 10: "the tables are not sound"
abbrev pub not_sound : Tables → Bool
not_sound t = not (sound t)

-- ---- row 2, code 1: "unknown call number"
abbrev pub known : List ℕ
known =
    0x00 ∷ 0x01 ∷ 0x02 ∷ 0x03 ∷ 0x04 ∷ 0x05 ∷ 0x06
    ∷ 0x10 ∷ 0x11 ∷ 0x12 ∷ 0x13 ∷ 0x14 ∷ 0x15 ∷ 0x16 ∷ 0x17 ∷ 0x18
    ∷ 0x20 ∷ 0x21 ∷ 0x22 ∷ 0x23 ∷ 0x24
    ∷ 0x30 ∷ 0x31 ∷ 0x32 ∷ 0x33
    ∷ 0x40 ∷ 0x41 ∷ 0x42 ∷ 0x43
    ∷ 0x50 ∷ 0x51 ∷ 0x52 ∷ 0x53
    ∷ 0x60 ∷ 0x61
    ∷ 0x74 ∷ 0x75 ∷ 0x76 ∷ 0x77 ∷ 0x78
    ∷ []

unfoldable pub unknown_number : Call → Bool
unknown_number q = not (among known q)

-- ---- row 3, code 2: "wrong context, or a limit other than 0 outside a task"
-- the calls that T alone may make; T and S; T and S, a Swi not with every argument; S alone; I alone; all others anyone
abbrev pub by_t : List ℕ
by_t =
    0x00 ∷ 0x01 ∷ 0x03 ∷ 0x04 ∷ 0x05 ∷ 0x10 ∷ 0x11 ∷ 0x20 ∷ 0x21 ∷ 0x24 ∷ 0x30 ∷ 0x31 ∷ 0x40 ∷ 0x41 ∷ 0x50 ∷ 0x51 ∷ 0x60 ∷ 0x61 ∷ []

abbrev pub by_ts : List ℕ
by_ts = 0x02 ∷ []

-- T and S, but No. 10: "2 for a Swi naming anything but 1"
abbrev pub by_ts_naming : List ℕ
by_ts_naming = 0x77 ∷ 0x78 ∷ []

abbrev pub by_s : List ℕ
by_s = 0x17 ∷ 0x18 ∷ []

abbrev pub by_i : List ℕ
by_i = 0x75 ∷ 0x76 ∷ []

-- the calls that have a limit
abbrev pub limited : List ℕ
limited = 0x22 ∷ 0x32 ∷ 0x42 ∷ 0x43 ∷ []

-- the limit of the calls that have one, 0 of the others: "22 pend (semaphore, limit)", "32 pend (event, and-mask, or-mask, limit)",
-- "42 post (mailbox, word, limit)", "43 pend (mailbox, limit)"
unfoldable pub limit_of : Call → ℕ
limit_of q = if (among (0x22 ∷ 0x43 ∷ []) q) q.b (if (among (0x42 ∷ []) q) q.c (if (among (0x32 ∷ []) q) q.d 0))

unfoldable pub wrong_context : ThreadOrder → Call → Bool
wrong_context o q =
    let x = o.caller in
    if (among by_t q) (not (eqb x T))
    (if (among by_ts q) (eqb x I)
    (if (among by_ts_naming q) (eqb x I || (eqb x S && not (eqb q.a 1)))
    (if (among by_s q) (not (eqb x S))
    (if (among by_i q) (not (eqb x I))
    (if (among limited q) (not (eqb x T) && not (eqb (limit_of q) 0)) false)))))

-- ---- row 4, codes 3 and 11: document 01's "an object number out of range or not in use", which request No. 2 splits
-- "A call on an object takes its number first."; call 50 takes a Swi's
abbrev pub on_task : List ℕ
on_task = 0x01 ∷ 0x02 ∷ 0x06 ∷ []

abbrev pub on_swi : List ℕ
on_swi = 0x11 ∷ 0x12 ∷ 0x13 ∷ 0x14 ∷ 0x15 ∷ 0x16 ∷ 0x50 ∷ []

abbrev pub on_semaphore : List ℕ
on_semaphore = 0x21 ∷ 0x22 ∷ 0x23 ∷ 0x24 ∷ []

abbrev pub on_event : List ℕ
on_event = 0x31 ∷ 0x32 ∷ 0x33 ∷ []

abbrev pub on_mailbox : List ℕ
on_mailbox = 0x41 ∷ 0x42 ∷ 0x43 ∷ []

abbrev pub on_clock : List ℕ
on_clock = 0x51 ∷ 0x52 ∷ 0x53 ∷ []

-- "1 tasks, 2 Swis, 3 semaphores, 4 events, 5 mailboxes, 6 clocks": the table in which a call's object number is looked up; 0 where it takes none
unfoldable pub object_table : Call → ℕ
object_table q =
    if (among on_task q) 1
    (if (among on_swi q) 2
    (if (among on_semaphore q) 3
    (if (among on_event q) 4
    (if (among on_mailbox q) 5
    (if (among on_clock q) 6 0)))))

unfoldable pub takes_object : Call → Bool
takes_object q = ltb 0 (object_table q)

-- "32 tasks (0 to 31), 16 Swis, 16 semaphores, 8 events, 8 mailboxes .., 16 clocks"
unfoldable pub size_of : ℕ → ℕ
size_of table = get_or (0 ∷ task_count ∷ swi_count ∷ semaphore_count ∷ event_count ∷ mailbox_count ∷ clock_count ∷ []) table 0

-- what a table has of object a: 0 where that is not in use
unfoldable pub used_in : Tables → ℕ → ℕ → ℕ
used_in t table a =
    get_or
    (0 ∷ (task t.tasks a).mode ∷ swi t.swis a USED ∷ semaphore t.semaphores a USED ∷ event t.events a USED ∷ mailbox t.mailboxes a CAPACITY
    ∷ (clock t.clocks a).used ∷ [])
    table 0

-- "Code 3 stays for a number outside its table."
unfoldable pub outside_table : Call → Bool
outside_table q = takes_object q && not (ltb q.a (size_of (object_table q)))

-- "A number inside the table whose object is not in use gets a new code."
unfoldable pub inside_unused : Tables → Call → Bool
inside_unused t q = takes_object q && (ltb q.a (size_of (object_table q)) && eqb (used_in t (object_table q) q.a) 0)

-- a refusal's value: "The answer's value names the table"; "for these two codes the value is no longer 0"
unfoldable pub value_of : Call → ℕ → ℕ
value_of q k = if (eqb k 3 || eqb k 11) (object_table q) 0

-- ---- row 5, code 4: "a bad argument, or an unused one not 0"
-- No. 10: "4 for 0, for values above 3"
abbrev pub bad_switches : ℕ → Bool
bad_switches which = eqb which 0 || ltb 3 which

-- priorities of 00 and 02, by the number of levels (No. 14); 05 "n = 4,294,967,295 is 4"; 10 "priority 0 to 15"; 20 "kinds 0 .. 3", "count to
-- 65,535 or 1"; 24 "count as in 20"; 32 "both masks 0 is 4"; 40 capacity 1 to 8; 50 "first ticks from 1"; 60 "bytes 1 to 2,048"; 61 "a live block's
-- start, and bytes that round up to its size"; No. 10: 77, 78 "4 for 0, for values above 3, or for key bits not named"
unfoldable pub bad_value : Tables → Call → Bool
bad_value t q =
    if (among (0x00 ∷ []) q) (not (is_priority (levels t.state) q.a))
    (if (among (0x02 ∷ []) q) (not (is_priority (levels t.state) q.b))
    (if (among (0x05 ∷ []) q) (eqb q.a forever)
    (if (among (0x10 ∷ []) q) (not (ltb q.a swi_levels))
    (if (among (0x20 ∷ []) q) (not (ltb q.a kind_count) || not (leb q.b (most q.a)))
    (if (among (0x24 ∷ []) q) (not (leb q.b (most (semaphore t.semaphores q.a KIND))))
    (if (among (0x32 ∷ []) q) (eqb q.b 0 && eqb q.c 0)
    (if (among (0x40 ∷ []) q) (eqb q.a 0 || not (leb q.a mailbox_most))
    (if (among (0x50 ∷ []) q) (eqb q.b 0)
    (if (among (0x60 ∷ []) q) (eqb q.a 0 || not (leb q.a (heap_units * unit_bytes)))
    (if (among (0x61 ∷ []) q) (not (is_block t.heap q.a q.b))
    (if (among (0x77 ∷ []) q) (bad_switches q.a)
    (if (among (0x78 ∷ []) q) (bad_switches q.a || bad_key q.a q.b) false))))))))))))

-- how many arguments a call names
abbrev pub names_none : List ℕ
names_none = 0x03 ∷ 0x04 ∷ 0x17 ∷ 0x18 ∷ 0x30 ∷ 0x74 ∷ 0x75 ∷ 0x76 ∷ []

abbrev pub names_two : List ℕ
names_two = 0x02 ∷ 0x10 ∷ 0x15 ∷ 0x16 ∷ 0x20 ∷ 0x22 ∷ 0x24 ∷ 0x33 ∷ 0x43 ∷ 0x61 ∷ 0x78 ∷ []

abbrev pub names_three : List ℕ
names_three = 0x42 ∷ 0x50 ∷ []

abbrev pub names_four : List ℕ
names_four = 0x32 ∷ []

unfoldable pub unused_not_zero : Call → Bool
unused_not_zero q =
    if (among names_none q) (unused q.a q.b q.c q.d)
    (if (among names_two q) (unused 0 0 q.c q.d)
    (if (among names_three q) (unused 0 0 0 q.d)
    (if (among names_four q) false (unused 0 q.b q.c q.d))))

unfoldable pub bad_argument : Tables → Call → Bool
bad_argument t q = bad_value t q || (among known q && unused_not_zero q)

-- someone waits at mailbox a, and the first is in this mode
unfoldable pub first_is : ThreadOrder → Tables → ℕ → ℕ → Bool
first_is o t a mode = o.anyone (mailbox_line a) && eqb (task t.tasks (o.first (mailbox_line a))).mode mode

-- ---- a wait that begins: a sleep above 0; a pend at count 0, unmatched bits or an empty mailbox, a post at a full one that no reader waits
-- for, each with a limit other than 0
unfoldable pub begins_wait : ThreadOrder → Tables → Call → Bool
begins_wait o t q =
    if (among (0x05 ∷ []) q) (ltb 0 q.a)
    (if (among (0x22 ∷ []) q) (eqb (semaphore t.semaphores q.a COUNT) 0 && not (eqb (limit_of q) 0))
    (if (among (0x32 ∷ []) q) (eqb (matched (event t.events q.a BITS) q.b q.c) 0 && not (eqb (limit_of q) 0))
    (if (among (0x42 ∷ []) q)
    (not (first_is o t q.a reading) && is_full t.mailboxes q.a && not (eqb (limit_of q) 0))
    (if (among (0x43 ∷ []) q) (eqb (mailbox t.mailboxes q.a MESSAGES) 0 && not (eqb (limit_of q) 0)) false))))

-- ---- row 6, code 5: "the object's state forbids it"
-- 01 "terminated or inactive only"; 02 "task 0, a terminated task, or -1 for the current or a blocked task"; 11 "posted, active or named by a
-- clock"; 21, 24, 31, 41 "with waiters", 41 "or messages"; 32 "a waiter there already"; "task 0 ending or beginning a sleep or wait"
unfoldable pub state_forbids : ThreadOrder → Tables → Call → Bool
state_forbids o t q =
    if (among (0x01 ∷ []) q) (not (eqb (task t.tasks q.a).mode terminated || eqb (task t.tasks q.a).mode inactive))
    (if (among (0x02 ∷ []) q)
    (eqb q.a 0 || eqb (task t.tasks q.a).mode terminated
    || (eqb q.b minus_one && (eqb q.a (current t.state) || blocked (task t.tasks q.a).mode)))
    (if (among (0x04 ∷ []) q) (idle t.state)
    (if (among (0x11 ∷ []) q) (not (eqb (swi t.swis q.a POSTED) 0) || o.is_active q.a || is_named t.clocks q.a)
    (if (among (0x21 ∷ 0x24 ∷ []) q) (o.anyone (semaphore_line q.a))
    (if (among (0x31 ∷ []) q) (o.anyone (event_line q.a))
    (if (among (0x32 ∷ []) q) (o.anyone (event_line q.a) || (begins_wait o t q && idle t.state))
    (if (among (0x41 ∷ []) q) (o.anyone (mailbox_line q.a) || not (eqb (mailbox t.mailboxes q.a MESSAGES) 0))
    (begins_wait o t q && idle t.state))))))))

-- ---- row 7, code 6: "no free number in the table"
unfoldable pub no_free_number : Tables → Call → Bool
no_free_number t q =
    if (among (0x00 ∷ []) q) (eqb (free_task t.tasks) task_count)
    (if (among (0x10 ∷ []) q) (eqb (free_swi t.swis) swi_count)
    (if (among (0x20 ∷ []) q) (eqb (free_semaphore t.semaphores) semaphore_count)
    (if (among (0x30 ∷ []) q) (eqb (free_event t.events) event_count)
    (if (among (0x40 ∷ []) q) (eqb (free_mailbox t.mailboxes) mailbox_count)
    (if (among (0x50 ∷ []) q) (eqb (free_clock t.clocks) clock_count) false)))))

-- ---- row 8, code 7: "count or depth at its end": "counting at 65,535 is 7", "7 at depth 8"
unfoldable pub at_its_end : Tables → Call → Bool
at_its_end t q =
    if (among (0x23 ∷ []) q)
    (not (is_binary (semaphore t.semaphores q.a KIND)) && leb count_most (semaphore t.semaphores q.a COUNT))
    (if (among (0x74 ∷ []) q) (not (ltb (state t.state DEPTH) most_depth)) false)

-- ---- row 9, code 8: "no heap room": "exactly if no run of that many adjacent free units exists"
unfoldable pub no_heap_room : Tables → Call → Bool
no_heap_room t q = if (among (0x60 ∷ []) q) (eqb (lowest_run t.heap (units_of q.a)) heap_units) false

-- ---- row 10, code 9: "a yield, end, sleep above 0 or wait that begins, while either switch is off; or a Swi end while Swis are off"
unfoldable pub switched_off : ThreadOrder → Tables → Call → Bool
switched_off o t q =
    if (among (0x03 ∷ 0x04 ∷ []) q) (switch_off t.state)
    (if (among (0x17 ∷ []) q) (eqb (state t.state SWIS) 0) (begins_wait o t q && switch_off t.state))

-- ---- the table: of each code its case, where threads stand in this order
unfoldable pub refusal_by : ThreadOrder → Tables → Call → ℕ → Bool
refusal_by o t q k =
    if (eqb k 1) (unknown_number q)
    (if (eqb k 2) (wrong_context o q)
    (if (eqb k 3) (outside_table q)
    (if (eqb k 11) (inside_unused t q)
    (if (eqb k 4) (bad_argument t q)
    (if (eqb k 5) (state_forbids o t q)
    (if (eqb k 6) (no_free_number t q)
    (if (eqb k 7) (at_its_end t q)
    (if (eqb k 8) (no_heap_room t q)
    (if (eqb k 9) (switched_off o t q) false)))))))))

unfoldable pub refusal : Tables → Call → ℕ → Bool
refusal t q k = if (eqb k 10) (not_sound t) (refusal_by (thread_order t) t q k)

-- no case of these codes holds
abbrev pub None : List ℕ → Cases → Type 0
None ks c = all_of (λ k. not (c k)) ks ≡ true
