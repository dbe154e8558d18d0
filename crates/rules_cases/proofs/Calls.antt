-- 01, 'The calls': a run for each kind of object in which cases a to l show little, and the order of the checks.
use Prim.Native.Nat.{ℕ}
use mathlib.Core.Path.{refl}
use mathlib.Core.List.{List, [], ◌∷◌, ◌++◌, map}
use lib.ListN.{replicate}
use Rattle.rules.specs.Tables.{forever, minus_one, most_depth}
use Rattle.rules.specs.Fresh.{fresh}
use Rattle.rules.specs.declared.Thread.{Thread}
use Rattle.rules_laws.proofs.Runs.{Asked, Line, AllRun, ◌⇒◌, asked, said, saw, T, S, I, create_task, delete_task, set_priority, yield, end, sleep, last_result}
use Rattle.rules_laws.proofs.Runs.{create_swi, delete_swi, post_swi, end_swi, posted_of, create_semaphore, pend, create_mailbox, delete_mailbox, post_mailbox}
use Rattle.rules_laws.proofs.Runs.{pend_mailbox, create_clock, start_clock, stop_clock, ticks_of, turn_off, restore, swis_off, restore_swis, post, delete_semaphore}
use Rattle.rules_laws.proofs.Runs.{create_event, delete_event, pend_event, post_event, delete_clock, tasks_off, restore_tasks, interrupt_in, interrupt_out, tick}
use Rattle.rules_laws.proofs.Fresh.{fresh-sound, fresh-typed}
use Rattle.demand_2_soundness.proofs.RunsBySteps.{runs-by-steps, steps}

-- "Tasks join queues at the back."; "03 yield"; "02 set priority: value the old one"; "05 sleep"; "04 end"; "01 delete: terminated only"
abbrev pub tasks : List Line
tasks =
    create_task 5 ⇒ said 0 0 1 (T 1)
    ∷ create_task 5 ⇒ said 0 0 2 (T 1)
    ∷ yield ⇒ said 0 0 0 (T 2)
    ∷ set_priority 1 6 ⇒ said 0 0 5 (T 1)
    ∷ sleep 0 ⇒ said 0 0 0 (T 1)
    ∷ sleep 1 ⇒ said 0 2 0 (T 2)
    ∷ delete_task 1 ⇒ said 5 0 0 (T 2)
    ∷ end ⇒ said 0 0 0 (T 0)
    ∷ end ⇒ said 5 0 0 (T 0)
    ∷ delete_task 2 ⇒ said 0 0 0 (T 0)
    ∷ interrupt_in ⇒ said 0 0 0 I
    ∷ tick ⇒ said 0 0 0 I
    ∷ last_result 1 ⇒ said 0 0 0 I
    ∷ interrupt_out ⇒ said 0 0 0 (T 1)
    ∷ []

-- "value the oldest word"; "Limit 0 instead of a wait: outcome 1"; "41 delete: 5 with .. messages"
abbrev pub messages : List Line
messages =
    create_mailbox 2 ⇒ said 0 0 0 (T 0)
    ∷ post_mailbox 0 7 0 ⇒ said 0 0 0 (T 0)
    ∷ post_mailbox 0 8 0 ⇒ said 0 0 0 (T 0)
    ∷ post_mailbox 0 9 0 ⇒ said 0 1 0 (T 0)
    ∷ delete_mailbox 0 ⇒ said 5 0 0 (T 0)
    ∷ pend_mailbox 0 0 ⇒ said 0 0 7 (T 0)
    ∷ pend_mailbox 0 0 ⇒ said 0 0 8 (T 0)
    ∷ pend_mailbox 0 0 ⇒ said 0 1 0 (T 0)
    ∷ delete_mailbox 0 ⇒ said 0 0 0 (T 0)
    ∷ []

-- "else wait holding the word"; "the first waiting writer's word then joins the back and that writer is ready"; "to the first waiting reader"
abbrev pub writers-and-readers : List Line
writers-and-readers =
    create_mailbox 1 ⇒ said 0 0 0 (T 0)
    ∷ post_mailbox 0 7 0 ⇒ said 0 0 0 (T 0)
    ∷ create_task 5 ⇒ said 0 0 1 (T 1)
    ∷ post_mailbox 0 8 forever ⇒ said 0 2 0 (T 0)
    ∷ pend_mailbox 0 0 ⇒ said 0 0 7 (T 1)
    ∷ last_result 1 ⇒ said 0 0 0 (T 1)
    ∷ pend_mailbox 0 0 ⇒ said 0 0 8 (T 1)
    ∷ pend_mailbox 0 forever ⇒ said 0 2 0 (T 0)
    ∷ post_mailbox 0 9 0 ⇒ said 0 0 1 (T 1)
    ∷ last_result 1 ⇒ said 0 0 9 (T 1)
    ∷ []

-- No. 8: "Let the value be the woken task's number, and 0 if none was woken": tasks 3 and 2 at a semaphore by priority, at one in arrival order and as
-- readers, and task 3 at an event, woken by a task, an interrupt and a Swi, also with tasks off. Nobody is woken where the post counts, stays at 1, matches
-- nothing, stores, is not met or waits, nor by the post of a Swi; a pend that lets a writer in answers the word; and who expired is not named
abbrev pub woken : List Line
woken =
    create_semaphore 0 0 ⇒ said 0 0 0 (T 0)
    ∷ create_semaphore 3 0 ⇒ said 0 0 1 (T 0)
    ∷ create_event ⇒ said 0 0 0 (T 0)
    ∷ create_mailbox 1 ⇒ said 0 0 0 (T 0)
    ∷ create_task 1 ⇒ said 0 0 1 (T 1)
    ∷ create_task 5 ⇒ said 0 0 2 (T 2)
    ∷ pend 1 forever ⇒ said 0 2 0 (T 1)
    ∷ create_task 6 ⇒ said 0 0 3 (T 3)
    ∷ pend 1 forever ⇒ said 0 2 0 (T 1)
    ∷ post 1 ⇒ said 0 0 3 (T 3)
    ∷ pend 0 forever ⇒ said 0 2 0 (T 1)
    ∷ post 1 ⇒ said 0 0 2 (T 2)
    ∷ pend 0 forever ⇒ said 0 2 0 (T 1)
    ∷ post 1 ⇒ said 0 0 0 (T 1)
    ∷ post 1 ⇒ said 0 0 0 (T 1)
    ∷ post 0 ⇒ said 0 0 3 (T 3)
    ∷ pend_event 0 1 0 forever ⇒ said 0 2 0 (T 1)
    ∷ post_event 0 2 ⇒ said 0 0 0 (T 1)
    ∷ post_event 0 1 ⇒ said 0 0 3 (T 3)
    ∷ pend_mailbox 0 forever ⇒ said 0 2 0 (T 1)
    ∷ post 0 ⇒ said 0 0 2 (T 2)
    ∷ pend_mailbox 0 forever ⇒ said 0 2 0 (T 1)
    ∷ post_mailbox 0 9 0 ⇒ said 0 0 3 (T 3)
    ∷ last_result 3 ⇒ said 0 0 9 (T 3)
    ∷ post_mailbox 0 8 0 ⇒ said 0 0 2 (T 3)
    ∷ post_mailbox 0 7 0 ⇒ said 0 0 0 (T 3)
    ∷ post_mailbox 0 6 0 ⇒ said 0 1 0 (T 3)
    ∷ post_mailbox 0 6 forever ⇒ said 0 2 0 (T 2)
    ∷ pend_mailbox 0 0 ⇒ said 0 0 7 (T 3)
    ∷ last_result 3 ⇒ said 0 0 0 (T 3)
    ∷ pend 0 1 ⇒ said 0 2 0 (T 2)
    ∷ pend 0 forever ⇒ said 0 2 0 (T 1)
    ∷ interrupt_in ⇒ said 0 0 0 I
    ∷ tick ⇒ said 0 0 0 I
    ∷ post 0 ⇒ said 0 0 2 I
    ∷ interrupt_out ⇒ said 0 0 0 (T 3)
    ∷ pend 0 forever ⇒ said 0 2 0 (T 2)
    ∷ pend 0 forever ⇒ said 0 2 0 (T 1)
    ∷ tasks_off ⇒ said 0 0 2 (T 1)
    ∷ post 0 ⇒ said 0 0 3 (T 1)
    ∷ restore_tasks 2 ⇒ said 0 0 0 (T 3)
    ∷ create_swi 3 0 ⇒ said 0 0 0 (T 3)
    ∷ post_swi 0 ⇒ said 0 0 0 (S 0)
    ∷ post 0 ⇒ said 0 0 2 (S 0)
    ∷ end_swi ⇒ said 0 0 0 (T 3)
    ∷ []

-- "50 create: .. stopped"; "start sets the first ticks again"; "at 0 the Swi is posted, and the clock has its period again or stops if that is 0"
abbrev pub clocks : List Line
clocks =
    create_swi 3 0 ⇒ said 0 0 0 (T 0)
    ∷ create_clock 0 2 3 ⇒ said 0 0 0 (T 0)
    ∷ create_clock 0 1 0 ⇒ said 0 0 1 (T 0)
    ∷ ticks_of 0 ⇒ saw 0
    ∷ start_clock 0 ⇒ said 0 0 0 (T 0)
    ∷ ticks_of 0 ⇒ saw 2
    ∷ delete_swi 0 ⇒ said 5 0 0 (T 0)
    ∷ interrupt_in ⇒ said 0 0 0 I
    ∷ tick ⇒ said 0 0 0 I
    ∷ posted_of 0 ⇒ saw 0
    ∷ tick ⇒ said 0 0 0 I
    ∷ posted_of 0 ⇒ saw 1
    ∷ ticks_of 0 ⇒ saw 3
    ∷ stop_clock 0 ⇒ said 0 0 0 I
    ∷ ticks_of 0 ⇒ saw 0
    ∷ start_clock 1 ⇒ said 0 0 0 I
    ∷ tick ⇒ said 0 0 0 I
    ∷ ticks_of 1 ⇒ saw 0
    ∷ interrupt_out ⇒ said 0 0 0 (S 0)
    ∷ []

-- No. 10: 77 "answers the named ones' old settings in the same bits; 78 .. turns on those of the named switches whose bit in the key is set"; Swis and
-- tasks are held back until then
abbrev pub switches : List Line
switches =
    create_swi 3 0 ⇒ said 0 0 0 (T 0)
    ∷ swis_off ⇒ said 0 0 1 (T 0)
    ∷ swis_off ⇒ said 0 0 0 (T 0)
    ∷ tasks_off ⇒ said 0 0 2 (T 0)
    ∷ post_swi 0 ⇒ said 0 0 0 (T 0)
    ∷ create_task 5 ⇒ said 0 0 1 (T 0)
    ∷ yield ⇒ said 9 0 0 (T 0)
    ∷ restore_swis 0 ⇒ said 0 0 0 (T 0)
    ∷ restore_swis 2 ⇒ said 4 0 0 (T 0)
    ∷ restore_swis 1 ⇒ said 0 0 0 (S 0)
    ∷ end_swi ⇒ said 0 0 0 (T 0)
    ∷ restore_tasks 2 ⇒ said 0 0 0 (T 1)
    ∷ []

-- "or both (3)": 77 answers the one that was on; a key of 0 turns nothing on, and nothing off; with Swis alone off a yield is 9; of both turned on at once
-- the Swi comes first: task 1 is not current yet, for it can be made inactive
abbrev pub both : List Line
both =
    create_swi 3 0 ⇒ said 0 0 0 (T 0)
    ∷ tasks_off ⇒ said 0 0 2 (T 0)
    ∷ turn_off 3 ⇒ said 0 0 1 (T 0)
    ∷ turn_off 3 ⇒ said 0 0 0 (T 0)
    ∷ create_task 5 ⇒ said 0 0 1 (T 0)
    ∷ post_swi 0 ⇒ said 0 0 0 (T 0)
    ∷ restore 3 0 ⇒ said 0 0 0 (T 0)
    ∷ restore 3 2 ⇒ said 0 0 0 (T 0)
    ∷ yield ⇒ said 9 0 0 (T 0)
    ∷ turn_off 1 ⇒ said 0 0 0 (T 0)
    ∷ turn_off 3 ⇒ said 0 0 2 (T 0)
    ∷ restore 3 3 ⇒ said 0 0 0 (S 0)
    ∷ set_priority 1 minus_one ⇒ said 0 0 5 (S 0)
    ∷ set_priority 1 5 ⇒ said 0 0 minus_one (S 0)
    ∷ restore 1 0 ⇒ said 0 0 0 (S 0)
    ∷ end_swi ⇒ said 0 0 0 (T 1)
    ∷ restore 3 0 ⇒ said 0 0 0 (T 1)
    ∷ turn_off 3 ⇒ said 0 0 3 (T 1)
    ∷ restore 3 1 ⇒ said 0 0 0 (T 1)
    ∷ yield ⇒ said 9 0 0 (T 1)
    ∷ turn_off 3 ⇒ said 0 0 1 (T 1)
    ∷ restore 3 3 ⇒ said 0 0 0 (T 1)
    ∷ yield ⇒ said 0 0 0 (T 1)
    ∷ []

-- these calls, each refused with this code while this thread runs
abbrev pub refused : ℕ → Thread → List Asked → List Line
refused code who qs = map (λ q. q ⇒ said code 0 0 who) qs

-- the numbers that the switches had before No. 10
abbrev pub old_numbers : List Asked
old_numbers = asked 0x70 0 0 0 0 ∷ asked 0x71 1 0 0 0 ∷ asked 0x72 0 0 0 0 ∷ asked 0x73 1 0 0 0 ∷ []

-- "2 for a Swi naming anything but 1, and 4 for 0, for values above 3, or for key bits not named; for a Swi, code 2 comes first": both calls by a task,
-- a Swi and an interrupt; "70 to 73 become unknown numbers"
abbrev pub which : List Line
which =
    (create_swi 3 0 ⇒ said 0 0 0 (T 0) ∷ [])
    ++ refused 4 (T 0) (turn_off 0 ∷ turn_off 4 ∷ turn_off 8 ∷ turn_off 257 ∷ turn_off 2147483649 ∷ turn_off 4294967295 ∷ [])
    ++ refused 4 (T 0) (asked 0x77 1 1 0 0 ∷ asked 0x77 2 0 1 0 ∷ asked 0x77 3 0 0 1 ∷ [])
    ++ refused 4 (T 0) (restore 0 0 ∷ restore 4 4 ∷ restore 4294967295 1 ∷ [])
    ++ refused 4 (T 0) (restore 1 2 ∷ restore 1 3 ∷ restore 2 1 ∷ restore 3 4 ∷ restore 3 8 ∷ restore 3 256 ∷ restore 3 2147483648 ∷ restore 3 4294967295 ∷ [])
    ++ refused 4 (T 0) (asked 0x78 3 3 1 0 ∷ asked 0x78 3 3 0 1 ∷ [])
    ++ refused 1 (T 0) (asked 0x79 1 0 0 0 ∷ old_numbers)
    ++ (turn_off 3 ⇒ said 0 0 3 (T 0) ∷ restore 3 3 ⇒ said 0 0 0 (T 0) ∷ restore 3 3 ⇒ said 0 0 0 (T 0) ∷ post_swi 0 ⇒ said 0 0 0 (S 0) ∷ [])
    ++ refused 2 (S 0) (turn_off 0 ∷ turn_off 2 ∷ turn_off 3 ∷ turn_off 4 ∷ turn_off 5 ∷ turn_off 4294967295 ∷ asked 0x77 2 1 0 0 ∷ [])
    ++ refused 4 (S 0) (asked 0x77 1 1 0 0 ∷ asked 0x77 1 0 1 0 ∷ asked 0x77 1 0 0 1 ∷ [])
    ++ (turn_off 1 ⇒ said 0 0 1 (S 0) ∷ turn_off 1 ⇒ said 0 0 0 (S 0) ∷ end_swi ⇒ said 9 0 0 (S 0) ∷ [])
    ++ refused 2 (S 0) (restore 0 0 ∷ restore 2 2 ∷ restore 3 1 ∷ restore 4 1 ∷ restore 2 4 ∷ asked 0x78 2 2 1 0 ∷ [])
    ++ refused 4 (S 0) (restore 1 2 ∷ restore 1 4 ∷ asked 0x78 1 1 1 0 ∷ asked 0x78 1 1 0 1 ∷ [])
    ++ (restore 1 0 ⇒ said 0 0 0 (S 0) ∷ end_swi ⇒ said 9 0 0 (S 0) ∷ restore 1 1 ⇒ said 0 0 0 (S 0) ∷ [])
    ++ refused 1 (S 0) old_numbers
    ++ (interrupt_in ⇒ said 0 0 0 I ∷ [])
    ++ refused 2 I (turn_off 0 ∷ turn_off 1 ∷ turn_off 2 ∷ turn_off 3 ∷ turn_off 4 ∷ asked 0x77 1 1 0 0 ∷ [])
    ++ refused 2 I (restore 0 0 ∷ restore 1 1 ∷ restore 1 2 ∷ restore 2 2 ∷ restore 3 3 ∷ restore 4 4 ∷ asked 0x78 1 1 1 0 ∷ [])
    ++ refused 1 I old_numbers
    ++ (interrupt_out ⇒ said 0 0 0 (S 0) ∷ end_swi ⇒ said 0 0 0 (T 0) ∷ turn_off 3 ⇒ said 0 0 3 (T 0) ∷ [])

-- "74 interrupt in, 7 at depth 8; 75 out"
abbrev pub interrupts : List Line
interrupts =
    (interrupt_out ⇒ said 2 0 0 (T 0) ∷ replicate most_depth (interrupt_in ⇒ said 0 0 0 I))
    ++ (interrupt_in ⇒ said 7 0 0 I ∷ interrupt_out ⇒ said 0 0 0 I ∷ interrupt_in ⇒ said 0 0 0 I ∷ [])

-- No. 2: "Code 3 stays for a number outside its table. A number inside the table whose object is not in use gets a new code. The answer's value names
-- the table": of each table the first number outside, the last inside, which is free, and one whose object was deleted; call 50 names Swis. Task 0, an
-- inactive task and a terminated one are in use
abbrev pub numbers : List Line
numbers =
    create_task minus_one ⇒ said 0 0 1 (T 0)
    ∷ create_task 5 ⇒ said 0 0 2 (T 2)
    ∷ end ⇒ said 0 0 0 (T 0)
    ∷ last_result 0 ⇒ said 0 0 0 (T 0)
    ∷ last_result 1 ⇒ said 0 0 0 (T 0)
    ∷ last_result 2 ⇒ said 0 0 0 (T 0)
    ∷ last_result 32 ⇒ said 3 0 1 (T 0)
    ∷ last_result 4294967295 ⇒ said 3 0 1 (T 0)
    ∷ last_result 31 ⇒ said 11 0 1 (T 0)
    ∷ delete_task 1 ⇒ said 0 0 0 (T 0)
    ∷ last_result 1 ⇒ said 11 0 1 (T 0)
    ∷ create_swi 3 0 ⇒ said 0 0 0 (T 0)
    ∷ create_clock 0 1 0 ⇒ said 0 0 0 (T 0)
    ∷ start_clock 16 ⇒ said 3 0 6 (T 0)
    ∷ start_clock 15 ⇒ said 11 0 6 (T 0)
    ∷ delete_clock 0 ⇒ said 0 0 0 (T 0)
    ∷ start_clock 0 ⇒ said 11 0 6 (T 0)
    ∷ post_swi 16 ⇒ said 3 0 2 (T 0)
    ∷ post_swi 4294967295 ⇒ said 3 0 2 (T 0)
    ∷ post_swi 15 ⇒ said 11 0 2 (T 0)
    ∷ create_clock 16 1 0 ⇒ said 3 0 2 (T 0)
    ∷ create_clock 15 0 0 ⇒ said 11 0 2 (T 0)
    ∷ delete_swi 0 ⇒ said 0 0 0 (T 0)
    ∷ post_swi 0 ⇒ said 11 0 2 (T 0)
    ∷ create_clock 0 1 0 ⇒ said 11 0 2 (T 0)
    ∷ create_semaphore 0 0 ⇒ said 0 0 0 (T 0)
    ∷ post 16 ⇒ said 3 0 3 (T 0)
    ∷ post 15 ⇒ said 11 0 3 (T 0)
    ∷ delete_semaphore 0 ⇒ said 0 0 0 (T 0)
    ∷ post 0 ⇒ said 11 0 3 (T 0)
    ∷ create_event ⇒ said 0 0 0 (T 0)
    ∷ post_event 8 1 ⇒ said 3 0 4 (T 0)
    ∷ post_event 7 1 ⇒ said 11 0 4 (T 0)
    ∷ delete_event 0 ⇒ said 0 0 0 (T 0)
    ∷ post_event 0 1 ⇒ said 11 0 4 (T 0)
    ∷ create_mailbox 1 ⇒ said 0 0 0 (T 0)
    ∷ post_mailbox 8 7 0 ⇒ said 3 0 5 (T 0)
    ∷ post_mailbox 7 7 0 ⇒ said 11 0 5 (T 0)
    ∷ delete_mailbox 0 ⇒ said 0 0 0 (T 0)
    ∷ post_mailbox 0 7 0 ⇒ said 11 0 5 (T 0)
    ∷ []

-- "Checks run in the order of this table": 1 before 2, 1 and 2 before 3 and 11, 3 and 11 before 4, 5 and 9, 4 before 5 and before 7, 5 before 9
abbrev pub order : List Line
order =
    create_semaphore 0 0 ⇒ said 0 0 0 (T 0)
    ∷ create_semaphore 0 65535 ⇒ said 0 0 1 (T 0)
    ∷ asked 0x23 16 1 0 0 ⇒ said 3 0 3 (T 0)
    ∷ asked 0x23 7 1 0 0 ⇒ said 11 0 3 (T 0)
    ∷ asked 0x23 1 1 0 0 ⇒ said 4 0 0 (T 0)
    ∷ set_priority 0 16 ⇒ said 4 0 0 (T 0)
    ∷ tasks_off ⇒ said 0 0 2 (T 0)
    ∷ pend 16 1 ⇒ said 3 0 3 (T 0)
    ∷ pend 7 1 ⇒ said 11 0 3 (T 0)
    ∷ pend 0 1 ⇒ said 5 0 0 (T 0)
    ∷ yield ⇒ said 9 0 0 (T 0)
    ∷ interrupt_in ⇒ said 0 0 0 I
    ∷ asked 0x79 1 0 0 0 ⇒ said 1 0 0 I
    ∷ asked 0x80 0 0 0 0 ⇒ said 1 0 0 I
    ∷ asked 0x07 99 0 0 0 ⇒ said 1 0 0 I
    ∷ delete_semaphore 16 ⇒ said 2 0 0 I
    ∷ delete_semaphore 7 ⇒ said 2 0 0 I
    ∷ pend 16 1 ⇒ said 2 0 0 I
    ∷ pend 16 0 ⇒ said 3 0 3 I
    ∷ pend 7 1 ⇒ said 2 0 0 I
    ∷ pend 7 0 ⇒ said 11 0 3 I
    ∷ []

-- in two lists, so that each is computed within the steps that one proof may take
abbrev pub all : List (List Line)
all = tasks ∷ messages ∷ writers-and-readers ∷ clocks ∷ switches ∷ []

abbrev pub more : List (List Line)
more = interrupts ∷ numbers ∷ order ∷ woken ∷ both ∷ which ∷ []

-- from fresh tables each says what stands beside its calls
pub all-run : AllRun fresh all
unfolding steps
all-run = runs-by-steps fresh all fresh-typed fresh-sound refl refl

pub more-run : AllRun fresh more
unfolding steps
more-run = runs-by-steps fresh more fresh-typed fresh-sound refl refl
