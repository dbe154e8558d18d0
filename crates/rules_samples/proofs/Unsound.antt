-- 01, 'Sound tables': sound tables with one change each, by the rule that it breaks. Every call on them is refused with code 10.
-- In this order: the state, the heap, clocks; tasks (task 0, ranges, words without meaning, waits); lines and who stands there; semaphores, events,
-- mailboxes, Swis; dispatch; and that all of them are refused.
use Prim.Native.Nat.{ℕ}
use mathlib.Core.Path.{◌≡◌, refl}
use mathlib.Core.Bool.{true}
use mathlib.Core.List.{List, [], ◌∷◌, ◌++◌, map}
use Rattle.rules.specs.Tables.{forever, minus_one, sleeping, USED, MODE, TASK-PRIORITY, OBJECT, TASK-LEFT, HELD, MASK, OUTCOME, VALUE, KIND, COUNT, BITS}
use Rattle.rules.specs.Tables.{CAPACITY, MESSAGES, PRIORITY, INITIAL, TRIGGER, POSTED, TAKEN, CLOCK-SWI, CLOCK-FIRST, PERIOD, CLOCK-LEFT, DEPTH, SWIS}
use Rattle.rules.specs.Tables.{TASKS, CURRENT, LEVELS}
use Rattle.rules.specs.Lines.{semaphore_line, mailbox_line, event_line, posted_line, active_line, ready_line}
use Rattle.rules.specs.Sound.{sound}
use Rattle.rules.specs.declared.Tables.{Tables}
use Rattle.rules.proofs.Computed.{computed}
use Rattle.rules.proofs.Standing.{lines_with}
use Rattle.rules_samples.proofs.Broken.{Broken, Flaw, ◌breaks◌, whole, ◌row◌, of-state, of-heap, of-clocks, of-tasks, of-lines, of_members}
use Rattle.rules_samples.proofs.Broken.{of-task-once, of-swi-once, of-semaphores, of-events, of-mailboxes, of-swis, of-active, of-dispatch}
use Rattle.rules_samples.proofs.Broken.{fails_at, is_broken, all_broken, AllRefused, all-refused}
use Rattle.rules_samples.proofs.Busy.{busy, busy-sound, held, held-sound, task_is, semaphore_is, event_is, mailbox_is, swi_is, clock_is, unit_is, state_is}
use Rattle.rules_samples.proofs.Busy.{byte_is, line_is}

-- changes that are alike: one for each of these words or numbers, and what all of them break
abbrev pub alike : (ℕ → Tables → Tables) → Broken → List ℕ → List Flaw
alike change b xs = map (λ x. change x breaks b) xs

-- these words of task i are 1; and of each of these tasks this word is x
abbrev pub ones : ℕ → List ℕ → List Flaw
ones i fs = alike (λ f. task_is i f 1) (of-tasks row i) fs

abbrev pub each_task : List ℕ → ℕ → ℕ → List Flaw
each_task is f x = map (λ i. task_is i f x breaks of-tasks row i) is

-- what belongs to a wait
abbrev pub wait_words : List ℕ
wait_words = OBJECT ∷ TASK-LEFT ∷ HELD ∷ MASK ∷ []

-- ---- "Interrupt depth 0 to 8; a switch for Swis and one for tasks"; "The current task is ready"
abbrev pub states : List Flaw
states =
    alike (state_is DEPTH) (whole of-state) (9 ∷ [])
    ++ alike (state_is SWIS) (whole of-state) (2 ∷ [])
    ++ alike (state_is TASKS) (whole of-state) (2 ∷ [])
    -- no task's number; asleep, and terminated
    ++ alike (state_is CURRENT) (whole of-state) (32 ∷ 2 ∷ 7 ∷ [])
    -- No. 14: "The number of levels, 16 or 32"
    ++ alike (state_is LEVELS) (whole of-state) (0 ∷ 15 ∷ 17 ∷ 31 ∷ 33 ∷ [])

-- ---- "A heap entry is free, first of a block or later in one; a later one never stands first or after a free one."
abbrev pub units : List Flaw
units = unit_is 5 3 breaks of-heap row 5 ∷ unit_is 0 2 breaks of-heap row 0 ∷ unit_is 4 2 breaks of-heap row 4 ∷ []

-- ---- "Records not in use are all 0"; "a clock names a Swi in use"; "first ticks from 1"
abbrev pub clocks : List Flaw
clocks =
    clock_is 0 USED 2 breaks of-clocks row 0
    -- clock 2 is not in use
    ∷ clock_is 2 CLOCK-SWI 3 breaks of-clocks row 2
    ∷ alike (λ f. clock_is 2 f 1) (of-clocks row 2) (CLOCK-FIRST ∷ PERIOD ∷ CLOCK-LEFT ∷ [])
    -- a Swi that is not in use, and a number that is no Swi's, of a running clock and of a stopped one
    ++ (clock_is 0 CLOCK-SWI 4 breaks of-clocks row 0
    ∷ clock_is 1 CLOCK-SWI 16 breaks of-clocks row 1
    ∷ clock_is 0 CLOCK-FIRST 0 breaks of-clocks row 0
    ∷ [])

-- ---- "task 0 is as said": "the idle task, priority 0, always ready"; it never waited
abbrev pub idle : List Flaw
idle =
    task_is 0 MODE sleeping breaks of-tasks row 0
    ∷ ones 0 (TASK-PRIORITY ∷ OBJECT ∷ TASK-LEFT ∷ HELD ∷ MASK ∷ OUTCOME ∷ VALUE ∷ [])

-- ---- "All numbers are in this page's ranges": modes, priorities, last results
abbrev pub ranges : List Flaw
ranges =
    task_is 1 MODE 9 breaks of-tasks row 1
    -- "Task priorities -1 and 1 to 15", and "inactive (exactly at -1)": ready, asleep and terminated tasks
    ∷ alike (task_is 1 TASK-PRIORITY) (of-tasks row 1) (0 ∷ 16 ∷ [])
    ++ (task_is 2 TASK-PRIORITY 0 breaks of-tasks row 2
    ∷ task_is 7 TASK-PRIORITY minus_one breaks of-tasks row 7
    ∷ task_is 8 TASK-PRIORITY 5 breaks of-tasks row 8
    -- an ended wait was done or not met, and "an expired one outcome 1, value 0"
    ∷ task_is 7 OUTCOME 2 breaks of-tasks row 7
    ∷ task_is 7 VALUE 1 breaks of-tasks row 7
    ∷ [])

-- ---- "Records not in use are all 0, and so are fields without meaning at the time (.., an ended wait's data, ..)"
abbrev pub without_meaning : List Flaw
without_meaning =
    -- not in use
    ones 10 (TASK-PRIORITY ∷ OBJECT ∷ TASK-LEFT ∷ HELD ∷ MASK ∷ OUTCOME ∷ VALUE ∷ [])
    -- ready, terminated, inactive
    ++ ones 1 wait_words
    ++ ones 7 wait_words
    ++ ones 8 wait_words
    -- asleep: at no object, with no data
    ++ ones 2 (OBJECT ∷ HELD ∷ MASK ∷ [])
    -- at a semaphore, and a reader: no masks and no word; a writer: no second word
    ++ ones 3 (HELD ∷ MASK ∷ [])
    ++ ones 5 (HELD ∷ MASK ∷ [])
    ++ ones 6 (MASK ∷ [])

-- ---- waits: at an object that there is; "sleeps (always limited) and limited waits have 1 or more ticks left", without end none are kept
abbrev pub waits : List Flaw
waits =
    each_task (2 ∷ []) TASK-LEFT 0
    ++ each_task (2 ∷ 3 ∷ 4 ∷ 5 ∷ 6 ∷ []) TASK-LEFT forever
    ++ each_task (3 ∷ []) OBJECT 16
    ++ each_task (4 ∷ 5 ∷ 6 ∷ []) OBJECT 8
    -- at an event: "both masks 0 is 4"
    ++ each_task (4 ∷ []) HELD 0

-- ---- lines: room for 32, and zeros behind those who stand there
abbrev pub lines : List Flaw
lines =
    byte_is (ready_line 5) 0 33 breaks of-lines row ready_line 5
    ∷ byte_is (ready_line 5) 2 3 breaks of-lines row ready_line 5
    ∷ byte_is (semaphore_line 9) 32 3 breaks of-lines row semaphore_line 9
    ∷ []

-- ---- "Nothing else stands in a queue or line or is an event's waiter."
abbrev pub strangers : List Flaw
strangers =
    -- a number that is no task's
    line_is (ready_line 5) (1 ∷ 32 ∷ []) breaks of_members row ready_line 5
    -- task 9, ready at 3, in the queue of 4
    ∷ line_is (ready_line 4) (9 ∷ []) breaks of_members row ready_line 4
    -- asleep, terminated, not in use, inactive
    ∷ line_is (ready_line 4) (2 ∷ []) breaks of_members row ready_line 4
    ∷ line_is (ready_line 4) (7 ∷ []) breaks of_members row ready_line 4
    ∷ line_is (ready_line 0) (0 ∷ 10 ∷ []) breaks of_members row ready_line 0
    ∷ line_is (ready_line 0) (0 ∷ 8 ∷ []) breaks of_members row ready_line 0
    -- a ready task in a semaphore's line; and waiters at objects where they do not wait
    ∷ line_is (semaphore_line 1) (1 ∷ []) breaks of_members row semaphore_line 1
    ∷ line_is (semaphore_line 1) (3 ∷ []) breaks of_members row semaphore_line 1
    ∷ line_is (event_line 1) (4 ∷ []) breaks of_members row event_line 1
    ∷ line_is (mailbox_line 2) (5 ∷ []) breaks of_members row mailbox_line 2
    ∷ line_is (mailbox_line 2) (6 ∷ []) breaks of_members row mailbox_line 2
    -- among the posted Swis: one that is not, a number that is no Swi's, and Swi 2, of priority 6, at 2
    ∷ line_is (posted_line 6) (2 ∷ 3 ∷ []) breaks of_members row posted_line 6
    ∷ line_is (posted_line 6) (2 ∷ 16 ∷ []) breaks of_members row posted_line 6
    ∷ line_is (posted_line 2) (2 ∷ []) breaks of_members row posted_line 2
    ∷ []

-- ---- "Each ready task stands once, in its priority's queue. Each blocked task .. stands once in one semaphore's or mailbox's line, or is the
-- one waiter of an event."
abbrev pub once : List Flaw
once =
    -- not in its line
    line_is (ready_line 3) [] breaks of-task-once row 9
    ∷ line_is (semaphore_line 0) [] breaks of-task-once row 3
    ∷ line_is (event_line 0) [] breaks of-task-once row 4
    ∷ line_is (mailbox_line 0) [] breaks of-task-once row 5
    ∷ line_is (mailbox_line 1) [] breaks of-task-once row 6
    ∷ task_is 3 OBJECT 1 breaks of-task-once row 3
    -- twice
    ∷ line_is (ready_line 5) (1 ∷ 1 ∷ []) breaks of-task-once row 1
    ∷ line_is (semaphore_line 0) (3 ∷ 3 ∷ []) breaks of-task-once row 3
    -- "Posted Swis stand once in their priority's queue"
    ∷ line_is (posted_line 6) [] breaks of-swi-once row 2
    ∷ line_is (posted_line 6) (2 ∷ 2 ∷ []) breaks of-swi-once row 2
    ∷ swi_is 3 POSTED 1 breaks of-swi-once row 3
    ∷ []

-- ---- "A semaphore with waiters has count 0, a binary one at most 1."; "count to 65,535 or 1"
abbrev pub semaphores : List Flaw
semaphores =
    semaphore_is 0 USED 2 breaks of-semaphores row 0
    -- not in use: with a kind, a count, a waiter
    ∷ semaphore_is 3 KIND 1 breaks of-semaphores row 3
    ∷ semaphore_is 3 COUNT 1 breaks of-semaphores row 3
    ∷ line_is (semaphore_line 3) (3 ∷ []) breaks of-semaphores row 3
    ∷ semaphore_is 1 KIND 4 breaks of-semaphores row 1
    ∷ semaphore_is 2 COUNT 65536 breaks of-semaphores row 2
    -- binary, of kind 1 and of kind 3
    ∷ semaphore_is 1 COUNT 2 breaks of-semaphores row 1
    ∷ semaphore_is 2 KIND 3 breaks of-semaphores row 2
    ∷ semaphore_is 0 COUNT 1 breaks of-semaphores row 0
    ∷ []

-- ---- "the one waiter of an event"; "An event's waiter is not satisfied by its posted bits."
abbrev pub events : List Flaw
events =
    event_is 0 USED 2 breaks of-events row 0
    -- not in use: with bits, a waiter
    ∷ event_is 2 BITS 1 breaks of-events row 2
    ∷ line_is (event_line 2) (4 ∷ []) breaks of-events row 2
    ∷ line_is (event_line 0) (4 ∷ 3 ∷ []) breaks of-events row 0
    -- the whole and-mask, and a bit of the or-mask
    ∷ event_is 0 BITS 3 breaks of-events row 0
    ∷ task_is 4 MASK 1 breaks of-events row 0
    ∷ []

-- ---- "mailboxes of 1 to 8 messages"; "Readers wait only at an empty mailbox, writers only at a full one."
abbrev pub mailboxes : List Flaw
mailboxes =
    mailbox_is 2 CAPACITY 9 breaks of-mailboxes row 2
    ∷ mailbox_is 2 MESSAGES 4 breaks of-mailboxes row 2
    -- words past the messages there, of a mailbox in use and of one not in use
    ∷ mailbox_is 2 3 6 breaks of-mailboxes row 2
    ∷ mailbox_is 3 2 6 breaks of-mailboxes row 3
    -- not in use: with a message, a waiter
    ∷ mailbox_is 3 MESSAGES 1 breaks of-mailboxes row 3
    ∷ line_is (mailbox_line 3) (5 ∷ []) breaks of-mailboxes row 3
    ∷ mailbox_is 0 MESSAGES 1 breaks of-mailboxes row 0
    ∷ mailbox_is 1 CAPACITY 2 breaks of-mailboxes row 1
    ∷ []

-- ---- "priority 0 to 15"; "fields without meaning at the time (.., the taken trigger of a Swi not active)"
abbrev pub swis : List Flaw
swis =
    swi_is 3 USED 2 breaks of-swis row 3
    -- not in use
    ∷ alike (λ f. swi_is 4 f 1) (of-swis row 4) (PRIORITY ∷ INITIAL ∷ TRIGGER ∷ POSTED ∷ TAKEN ∷ [])
    ++ (swi_is 3 PRIORITY 16 breaks of-swis row 3 ∷ swi_is 3 POSTED 2 breaks of-swis row 3 ∷ swi_is 3 TAKEN 1 breaks of-swis row 3 ∷ [])

-- ---- "active Swis are in use and rise strictly in priority"
abbrev pub actives : List Flaw
actives =
    swi_is 0 USED 0 breaks whole of-active
    ∷ line_is active_line (0 ∷ 1 ∷ 16 ∷ []) breaks whole of-active
    -- equal, falling, twice
    ∷ swi_is 0 PRIORITY 6 breaks whole of-active
    ∷ line_is active_line (1 ∷ 0 ∷ []) breaks whole of-active
    ∷ line_is active_line (0 ∷ 0 ∷ []) breaks whole of-active
    ∷ []

-- ---- "the dispatch rule has nothing left to do"
abbrev pub due : List Flaw
due =
    -- Swi 2, posted at 6, is above the top active one; or none is active
    swi_is 1 PRIORITY 5 breaks whole of-dispatch
    ∷ line_is active_line [] breaks whole of-dispatch
    ∷ []

-- with tasks on, the current task is the front of the highest queue
abbrev pub overtaken : List Flaw
overtaken = state_is TASKS 1 breaks whole of-dispatch ∷ []

abbrev pub flaws : List Flaw
flaws =
    states ++ units ++ clocks ++ idle ++ ranges ++ without_meaning ++ waits ++ lines ++ strangers ++ once ++ semaphores ++ events ++ mailboxes ++ swis
    ++ actives ++ due

pub record Unsound : Type 0 where
  -- what is changed is sound
  pub busy-is-sound : sound busy ≡ true
  pub held-is-sound : sound held ≡ true
  -- and is refused after each change
  pub refuses : AllRefused busy flaws
  pub refuses-overtaken : AllRefused held overtaken

pub unsound : Unsound
unfolding computed lines_with busy held fails_at is_broken all_broken
unsound =
    record {
      busy-is-sound = busy-sound;
      held-is-sound = held-sound;
      refuses = all-refused busy flaws refl;
      refuses-overtaken = all-refused held overtaken refl;
    }
