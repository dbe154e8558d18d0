-- Sentences of 01, each shown by a small case of its definition, so that a definition that says otherwise is refused at once.
-- In this order: the small tables; the record `Sentences`, a field for each, by the parts of 01; and that all of them hold, computed.
use Prim.Native.Nat.{ℕ, ◌*◌, ◌-◌}
use mathlib.Core.Path.{◌≡◌, refl}
use mathlib.Core.Bool.{true, false}
use mathlib.Core.List.{List, [], ◌∷◌, ◌++◌, map}
use lib.ListN.{length}
use Rattle.basics.specs.Lists.{zeros}
use Rattle.basics.specs.Rule.{holds}
use Rattle.rules.specs.Answer.{Effect, answer, accepted, refused, called, answered, named, code_of, given, on_object, never, done, T, S, I}
use Rattle.rules.specs.Tables.{task, forever, ready, sleeping, at_semaphore, at_event, reading, writing, few_levels}
use Rattle.rules.specs.Tables.{task_count, task_width, swi_count, swi_width, semaphore_count, semaphore_width, event_count, event_width}
use Rattle.rules.specs.Tables.{mailbox_count, mailbox_width, clock_count, clock_width}
use Rattle.rules.specs.Lines.{line, joined, task_queues, semaphore_line, mailbox_line, event_line, posted_line, active_line, ready_line}
use Rattle.rules.specs.Waits.{ticks_for, wait_tables}
use Rattle.rules.specs.Tasks.{reprioritized}
use Rattle.rules.specs.Swis.{swi_queues, end_effect}
use Rattle.rules.specs.Semaphores.{place_in, post_effect}
use Rattle.rules.specs.Events.{free_event, matched, post_cases, post_effect as post_event}
use Rattle.rules.specs.Mailboxes.{post_effect as post_mailbox, pend_effect as pend_mailbox}
use Rattle.rules.specs.Switches.{off_cases, off_effect, restore_cases, restore_effect}
use Rattle.rules.specs.Tick.{TickTables, task_tick, tick_tables, ticked, switch_call}
use Rattle.rules.specs.Dispatch.{started}
use Rattle.rules.specs.Sound.{other_rule}
use Rattle.rules.specs.Step.{settled, finished}
use Rattle.rules.specs.Fresh.{no_events}
use Rattle.rules.specs.declared.Tables.{Tables}
use Rattle.rules.proofs.Computed.{computed}
use Rattle.rules.proofs.Standing.{lines_with, ◌has◌}

-- these words, and zeros behind them up to so many: a row, or a table that begins with these rows
abbrev pub filled : ℕ → List ℕ → List ℕ
filled n ws = ws ++ zeros (n - length ws)

-- a table of tasks that begins with these rows, and of each other kind with these words
abbrev pub task_rows : List ℕ → List ℕ → List ℕ
task_rows one two =
    filled (task_count * task_width) (filled task_width (ready ∷ []) ++ filled task_width one ++ filled task_width two)

abbrev pub swi_words : List ℕ → List ℕ
swi_words = filled (swi_count * swi_width)

-- tasks 1, at this priority and with so many ticks left, and 2, at 5 and without end, wait at semaphore 0
abbrev pub waiters : ℕ → ℕ → List ℕ
waiters p n = task_rows (at_semaphore ∷ p ∷ 0 ∷ n ∷ []) (at_semaphore ∷ 5 ∷ [])

-- their line, and task 0 ready
abbrev pub waiting : List ℕ
unfolding lines_with
waiting = lines_with (semaphore_line 0 has (1 ∷ 2 ∷ []) ∷ ready_line 0 has (0 ∷ []) ∷ [])

-- a counting semaphore with this count
abbrev pub counting : ℕ → List ℕ
counting n = filled (semaphore_count * semaphore_width) (1 ∷ 0 ∷ n ∷ [])

-- tasks 1 and 2 are blocked in this mode at object 0 and hold this word, and task 2 stands before task 1 in this line
abbrev pub blocked : ℕ → ℕ → List ℕ
blocked mode word = task_rows (mode ∷ 5 ∷ 0 ∷ 0 ∷ word ∷ []) (mode ∷ 5 ∷ 0 ∷ 0 ∷ word ∷ [])

abbrev pub two_at : ℕ → List ℕ
unfolding lines_with
two_at j = lines_with (j has (2 ∷ 1 ∷ []) ∷ ready_line 0 has (0 ∷ []) ∷ [])

-- a mailbox for one message: it is empty; it has this word
abbrev pub empty : List ℕ
empty = filled (mailbox_count * mailbox_width) (1 ∷ [])

abbrev pub full : ℕ → List ℕ
full word = filled (mailbox_count * mailbox_width) (1 ∷ 1 ∷ word ∷ [])

-- a Swi of priority 3 and initial trigger 5, with this taken trigger
abbrev pub taking : ℕ → List ℕ
taking n = swi_words (1 ∷ 3 ∷ 5 ∷ 5 ∷ 0 ∷ n ∷ [])

-- the same, posted with this trigger
abbrev pub posted_with : ℕ → List ℕ
posted_with n = swi_words (1 ∷ 3 ∷ 5 ∷ n ∷ 1 ∷ [])

-- an event with these bits
abbrev pub bits : ℕ → List ℕ
bits n = filled (event_count * event_width) (1 ∷ n ∷ [])

-- depth 0, both switches on, and this current task
abbrev pub currently : ℕ → List ℕ
currently i = 0 ∷ 1 ∷ 1 ∷ 0 ∷ i ∷ []

-- these switches, at depth 0
abbrev pub switched : ℕ → ℕ → List ℕ
switched swis tasks = 0 ∷ swis ∷ tasks ∷ 0 ∷ 0 ∷ []

-- the codes of 77 by such a caller for each `which` from 0 to 4, and of 78 for each key from 0 to 4
abbrev pub off_codes : ℕ → List ℕ
off_codes x = map (λ which. code_of (off_cases x which 0 0 0)) (0 ∷ 1 ∷ 2 ∷ 3 ∷ 4 ∷ [])

abbrev pub restore_codes : ℕ → ℕ → List ℕ
restore_codes x which = map (λ key. code_of (restore_cases x which key 0 0)) (0 ∷ 1 ∷ 2 ∷ 3 ∷ 4 ∷ [])

-- the codes of the numbers that the switches had before No. 10
abbrev pub old_codes : List ℕ
old_codes = map (λ number. code_of (switch_call (tick_tables [] [] [] [] (switched 1 1)) T number 0 0 0 0).cases) (0x70 ∷ 0x71 ∷ 0x72 ∷ 0x73 ∷ [])

-- a clock comes to 0 and posts Swi 3, and task 1's sleep ends, at priority 0. Nobody can tell the order on sound tables, since Swis and tasks stand
-- in lines of their own; the Swi's priority is 17, and that line is the ready queue of 0
abbrev pub together : TickTables
unfolding lines_with
together =
    tick_tables (task_rows (sleeping ∷ 0 ∷ 0 ∷ 1 ∷ []) []) (lines_with []) (swi_words (zeros (3 * swi_width) ++ (1 ∷ 17 ∷ [])))
    (filled (clock_count * clock_width) (1 ∷ 3 ∷ 1 ∷ 0 ∷ 1 ∷ []))
    (currently 0)

pub record Sentences : Type 0 where
  -- "a code is given exactly in its case": where no case holds the call has its effect
  pub accepts : (t : List ℕ) (e : Effect (List ℕ)) → answered t (called never e) ≡ e
  -- "A refusal has outcome 0, value 0 and no change"
  pub refuses : (t : List ℕ) (e : Effect (List ℕ)) → answered t (called (given 5 true never) e) ≡ refused 5 t
  -- No. 2: "Code 3 stays for a number outside its table. A number inside the table whose object is not in use gets a new code"
  pub outside : code_of (on_object 16 16 0 never) ≡ 3
  pub inside : code_of (on_object 16 15 0 never) ≡ 11
  pub in_use : code_of (on_object 16 15 1 never) ≡ 0
  -- "The answer's value names the table", of these two codes alone; a clock's create takes a Swi's number
  pub names : named 0x43 (answer 3 0 0) ≡ answer 3 0 5
  pub names-a-swi : named 0x50 (answer 11 0 0) ≡ answer 11 0 2
  pub names-none : named 0x23 (answer 7 0 0) ≡ answer 7 0 0
  -- 'The answer': what the call answered is given, whoever runs next; a refused number's table is named
  pub answers : (n : ℕ) (r : Effect Tables) → (finished n r).answer ≡ named n r.answer
  -- event 7 is the last of its table, and not in use; event 8 is outside
  pub not-in-use : code_of (post_cases no_events 7 0 0) ≡ 11
  pub not_there : code_of (post_cases no_events 8 0 0) ≡ 3
  -- "Checks run in the order of this table": the object before the arguments
  pub object-first : code_of (post_cases no_events 8 1 0) ≡ 3
  -- "a new object takes the lowest free number": event 0 is in use
  pub lowest : free_event (bits 0) ≡ 1
  -- "After each accepted call .. the current task becomes the front of the highest non-empty ready queue": from task 1, blocked, to task 0
  pub dispatches : (settled 0 [] waiting (currently 1)).state ≡ currently 0
  -- "its trigger is kept as taken and set back to its initial value" where it starts
  pub starts : (started 0 (posted_line 3) (swi_queues (posted_with 7) [])).swis ≡ taking 7
  -- "Tasks join queues at the back."
  pub joins : line (joined (ready_line 0) 3 waiting) (ready_line 0) ≡ 0 ∷ 3 ∷ []
  -- "02 set priority: .. a blocked task keeps its place in line"
  pub keeps-place : reprioritized (task_queues (waiters 5 0) waiting) 1 6 ≡ task_queues (waiters 6 0) waiting
  -- "Limit 4,294,967,295 is without end.", and any other is its ticks
  pub without_end : ticks_for forever ≡ 0
  pub limited : ticks_for 7 ≡ 7
  -- "Kinds 0 and 1 wait in arrival order"
  pub arrival : place_in 0 (waiters 5 0) 5 (1 ∷ 2 ∷ []) ≡ 2
  -- "23 post: .. the first waiter ready": the second waits on
  pub wakes : line (post_effect (wait_tables (waiters 5 0) waiting (counting 0)) 0).next.lines (semaphore_line 0) ≡ 2 ∷ []
  -- "or value 0 and count one up", where nobody waits
  pub counts : post_effect (wait_tables [] [] (counting 0)) 0 ≡ accepted done 0 (wait_tables [] [] (counting 1))
  -- a waiter ready, "or" the count: not both
  pub wakes-only : (post_effect (wait_tables (waiters 5 0) waiting (counting 0)) 0).next.objects ≡ counting 0
  -- "33 post: sets bits", value 0: nobody was served
  pub unserved : post_event (wait_tables [] [] (bits 0)) 0 1 ≡ accepted done 0 (wait_tables [] [] (bits 1))
  -- No. 8: "Let the value be the woken task's number": the first in line, at each of the three kinds
  pub names-waiter : (post_effect (wait_tables (blocked at_semaphore 0) (two_at (semaphore_line 0)) (counting 0)) 0).answer ≡ answer 0 done 2
  pub names-served : (post_event (wait_tables (blocked at_event 1) (two_at (event_line 0)) (bits 0)) 0 1).answer ≡ answer 0 done 2
  pub names-reader : (post_mailbox (wait_tables (blocked reading 0) (two_at (mailbox_line 0)) empty) [] 0 9 0).answer ≡ answer 0 done 2
  -- "and 0 if none was woken": a word that is stored
  pub stores : post_mailbox (wait_tables [] [] empty) [] 0 9 0 ≡ accepted done 0 (wait_tables [] [] (full 9))
  -- "43 pend: value the oldest word", also where a writer is let in
  pub lets-in : (pend_mailbox (wait_tables (blocked writing 8) (two_at (mailbox_line 0)) (full 9)) [] 0 0).answer ≡ answer 0 done 9
  -- "the whole and-mask if all its bits are posted", and no part of it
  pub no_part : matched 1 3 0 ≡ 0
  pub whole-mask : matched 3 3 0 ≡ 3
  -- "at 0 the task leaves its line and is ready"
  pub leaves : line (task_tick (task_queues (waiters 5 1) waiting) 1).lines (semaphore_line 0) ≡ 2 ∷ []
  pub is-ready : line (task_tick (task_queues (waiters 5 1) waiting) 1).lines (ready_line 5) ≡ 1 ∷ []
  -- "Then running clocks ..": they come before the tasks
  pub clocks-first : line (ticked together).lines (ready_line 0) ≡ 3 ∷ 1 ∷ []
  -- No. 10: "77 (which; T S) turns off Swis (1), tasks (2) or both (3) and answers the named ones' old settings in the same bits"
  pub swis-off : off_effect (switched 1 1) 1 ≡ accepted done 1 (switched 0 1)
  pub tasks-off : off_effect (switched 1 1) 2 ≡ accepted done 2 (switched 1 0)
  pub both-off : off_effect (switched 1 1) 3 ≡ accepted done 3 (switched 0 0)
  pub tasks-off-already : off_effect (switched 1 0) 3 ≡ accepted done 1 (switched 0 0)
  pub swis-off-already : off_effect (switched 0 1) 3 ≡ accepted done 2 (switched 0 0)
  -- "78 (which, key; T S) turns on those of the named switches whose bit in the key is set and changes no other"
  pub swis-on : restore_effect (switched 0 0) 3 1 ≡ accepted done 0 (switched 1 0)
  pub tasks-on : restore_effect (switched 0 0) 3 2 ≡ accepted done 0 (switched 0 1)
  pub both-on : restore_effect (switched 0 0) 3 3 ≡ accepted done 0 (switched 1 1)
  pub not-in-key : restore_effect (switched 1 1) 3 0 ≡ accepted done 0 (switched 1 1)
  pub no_other : restore_effect (switched 0 1) 1 1 ≡ accepted done 0 (switched 1 1)
  -- the same of a key bit that is not named, which is refused
  pub not_named : restore_effect (switched 0 0) 1 3 ≡ accepted done 0 (switched 1 0)
  -- "70 to 73 become unknown numbers"
  pub unknown-now : ◌≡◌ {A = List ℕ} old_codes (1 ∷ 1 ∷ 1 ∷ 1 ∷ [])
  -- "2 for a Swi naming anything but 1, and 4 for 0, for values above 3, or for key bits not named; for a Swi, code 2 comes first"
  pub which-too-great : ◌≡◌ {A = List ℕ} (map (λ which. code_of (off_cases T which 0 0 0)) (8 ∷ 257 ∷ 2147483649 ∷ [])) (4 ∷ 4 ∷ 4 ∷ [])
  pub key-too-great : ◌≡◌ {A = List ℕ} (map (λ key. code_of (restore_cases T 3 key 0 0)) (8 ∷ 256 ∷ 2147483648 ∷ [])) (4 ∷ 4 ∷ 4 ∷ [])
  pub off-by-T : ◌≡◌ {A = List ℕ} (off_codes T) (4 ∷ 0 ∷ 0 ∷ 0 ∷ 4 ∷ [])
  pub off-by-S : ◌≡◌ {A = List ℕ} (off_codes S) (2 ∷ 0 ∷ 2 ∷ 2 ∷ 2 ∷ [])
  pub off-by-I : ◌≡◌ {A = List ℕ} (off_codes I) (2 ∷ 2 ∷ 2 ∷ 2 ∷ 2 ∷ [])
  pub restore-swis-by-T : ◌≡◌ {A = List ℕ} (restore_codes T 1) (0 ∷ 0 ∷ 4 ∷ 4 ∷ 4 ∷ [])
  pub restore-tasks-by-T : ◌≡◌ {A = List ℕ} (restore_codes T 2) (0 ∷ 4 ∷ 0 ∷ 4 ∷ 4 ∷ [])
  pub restore-both-by-T : ◌≡◌ {A = List ℕ} (restore_codes T 3) (0 ∷ 0 ∷ 0 ∷ 0 ∷ 4 ∷ [])
  pub restore-four-by-T : ◌≡◌ {A = List ℕ} (restore_codes T 4) (4 ∷ 4 ∷ 4 ∷ 4 ∷ 4 ∷ [])
  pub restore-swis-by-S : ◌≡◌ {A = List ℕ} (restore_codes S 1) (0 ∷ 0 ∷ 4 ∷ 4 ∷ 4 ∷ [])
  pub restore-both-by-S : ◌≡◌ {A = List ℕ} (restore_codes S 3) (2 ∷ 2 ∷ 2 ∷ 2 ∷ 2 ∷ [])
  pub restore-swis-by-I : ◌≡◌ {A = List ℕ} (restore_codes I 1) (2 ∷ 2 ∷ 2 ∷ 2 ∷ 2 ∷ [])
  -- "fields without meaning at the time (.., the taken trigger of a Swi not active)" are 0: a Swi that ends has none
  pub ends : (end_effect (swi_queues (taking 2) (lines_with (active_line has (0 ∷ []) ∷ [])))).next.swis ≡ taking 0
  -- "fields without meaning at the time (.., an ended wait's data, ..)" are 0: a ready task has no ticks left
  pub ended-wait : holds (other_rule few_levels (task (filled task_width (ready ∷ 5 ∷ 0 ∷ 1 ∷ [])) 0)) ≡ false
  pub no-wait : holds (other_rule few_levels (task (filled task_width (ready ∷ 5 ∷ [])) 0)) ≡ true

pub sentences : Sentences
unfolding computed lines_with
sentences =
    record {
      accepts = λ t e. refl;
      refuses = λ t e. refl;
      outside = refl;
      inside = refl;
      in_use = refl;
      names = refl;
      names-a-swi = refl;
      names-none = refl;
      answers = λ n r. refl;
      not-in-use = refl;
      not_there = refl;
      object-first = refl;
      lowest = refl;
      dispatches = refl;
      starts = refl;
      joins = refl;
      keeps-place = refl;
      without_end = refl;
      limited = refl;
      arrival = refl;
      wakes = refl;
      counts = refl;
      wakes-only = refl;
      unserved = refl;
      names-waiter = refl;
      names-served = refl;
      names-reader = refl;
      stores = refl;
      lets-in = refl;
      no_part = refl;
      whole-mask = refl;
      leaves = refl;
      is-ready = refl;
      clocks-first = refl;
      swis-off = refl;
      tasks-off = refl;
      both-off = refl;
      tasks-off-already = refl;
      swis-off-already = refl;
      swis-on = refl;
      tasks-on = refl;
      both-on = refl;
      not-in-key = refl;
      no_other = refl;
      not_named = refl;
      unknown-now = refl;
      which-too-great = refl;
      key-too-great = refl;
      off-by-T = refl;
      off-by-S = refl;
      off-by-I = refl;
      restore-swis-by-T = refl;
      restore-tasks-by-T = refl;
      restore-both-by-T = refl;
      restore-four-by-T = refl;
      restore-swis-by-S = refl;
      restore-both-by-S = refl;
      restore-swis-by-I = refl;
      ends = refl;
      ended-wait = refl;
      no-wait = refl;
    }
