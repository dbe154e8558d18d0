-- Request No. 8 in a worked example. Task 0 makes a semaphore, an event, three mailboxes and task 1, of low priority, which makes the others. Tasks 2
-- and 3 wait at semaphore 0, task 4 at event 0, tasks 5 and 6 read at mailbox 0, and task 7 writes at mailbox 2, which is full. From there one post at
-- each kind, whose value is the task that it woke; three that wake nobody; and a pend that lets the writer in.
use Prim.Native.Nat.{ℕ}
use mathlib.Core.Path.{◌≡◌, refl, sym, ◌∙◌}
use mathlib.Core.Logic.{◌≢◌, ⊎_elim}
use mathlib.Core.List.{List, [], ◌∷◌, ◌++◌}
use native.Mathlib.Omega.{arith}
use Rattle.rules.specs.Rows.{with_row}
use Rattle.rules.specs.Tables.{forever, ready, at_semaphore, at_event, reading, writing, tables, task_count, task_width}
use Rattle.rules.specs.Lines.{semaphore_line, event_line, mailbox_line, ready_line}
use Rattle.rules.specs.Fresh.{fresh, no_swis, no_clocks, free_heap}
use Rattle.rules.specs.declared.Tables.{Tables}
use Rattle.rules.specs.declared.Thread.{Thread}
use Rattle.rules_laws.proofs.Runs.{Line, ◌⇒◌, said, says, T, create_task, create_semaphore, create_event, create_mailbox, pend, post, pend_event, post_event}
use Rattle.rules_laws.proofs.Runs.{pend_mailbox, post_mailbox}
use Rattle.rules_laws.proofs.Runs as Runs
use Rattle.rules.proofs.Computed.{computed}
use Rattle.rules.proofs.Standing.{Standing, lines_with, ◌has◌}
use Rattle.runs.specs.Run.{made, next}
use Rattle.rules_laws.proofs.Fresh.{fresh-typed, fresh-is-sound}
use Rattle.woken_task.specs.WokenTask.{Post, semaphore_post, event_post, mailbox_post, Woke, ValueTells}
use Rattle.woken_task.proofs.WokenTask.{woken-task}
use Rattle.demands_examples.proofs.Rows.{tasks_of, semaphores_of, events_of, mailboxes_of, state_of}
use Rattle.demand_2_soundness.proofs.RunsBySteps.{in_words}
use Rattle.demands_examples.proofs.BySteps.{pass, Leads, leads, anything}
use Rattle.rules.specs.Answer.{asked}
use Rattle.rules.specs.declared.Call.{Call}

-- ---- the calls, and what each says: code, outcome, value, thread
abbrev setup : List Line
setup =
    create_semaphore 0 0 ⇒ said 0 0 0 (T 0)
    ∷ create_event ⇒ said 0 0 0 (T 0)
    ∷ create_mailbox 1 ⇒ said 0 0 0 (T 0)
    ∷ create_mailbox 1 ⇒ said 0 0 1 (T 0)
    ∷ create_mailbox 1 ⇒ said 0 0 2 (T 0)
    ∷ post_mailbox 2 8 0 ⇒ said 0 0 0 (T 0)
    ∷ create_task 1 ⇒ said 0 0 1 (T 1)
    ∷ create_task 5 ⇒ said 0 0 2 (T 2)
    ∷ pend 0 forever ⇒ said 0 2 0 (T 1)
    ∷ create_task 5 ⇒ said 0 0 3 (T 3)
    ∷ pend 0 forever ⇒ said 0 2 0 (T 1)
    ∷ create_task 5 ⇒ said 0 0 4 (T 4)
    ∷ pend_event 0 1 0 forever ⇒ said 0 2 0 (T 1)
    ∷ create_task 5 ⇒ said 0 0 5 (T 5)
    ∷ pend_mailbox 0 forever ⇒ said 0 2 0 (T 1)
    ∷ create_task 5 ⇒ said 0 0 6 (T 6)
    ∷ pend_mailbox 0 forever ⇒ said 0 2 0 (T 1)
    ∷ create_task 5 ⇒ said 0 0 7 (T 7)
    ∷ post_mailbox 2 7 forever ⇒ said 0 2 0 (T 1)
    ∷ []

-- ---- the tables: a task's row of this mode, priority and object, the word that it holds and the value of its last result; a mailbox for one word
abbrev row : ℕ → ℕ → ℕ → ℕ → ℕ → List ℕ
row mode priority object word value = mode ∷ priority ∷ object ∷ 0 ∷ word ∷ 0 ∷ 0 ∷ value ∷ []

abbrev empty : List ℕ
empty = 1 ∷ []

abbrev full : ℕ → List ℕ
full word = 1 ∷ 1 ∷ word ∷ []

-- the rows of tasks 1 to 7 while all wait but the first
abbrev rows : List (List ℕ)
rows =
    (row ready 1 0 0 0 ∷ row at_semaphore 5 0 0 0 ∷ row at_semaphore 5 0 0 0 ∷ [])
    ++ (row at_event 5 0 1 0 ∷ row reading 5 0 0 0 ∷ row reading 5 0 0 0 ∷ row writing 5 2 7 0 ∷ [])

-- so, but that task i has this row; who stands in line besides; the event's bits; mailboxes 1 and 2; the current task
unfoldable pub tables_of : ℕ → List ℕ → List Standing → ℕ → List ℕ → List ℕ → ℕ → Tables
unfolding with_row
tables_of i changed standing bits first second current =
    tables (with_row task_width task_count (tasks_of rows) i changed) (lines_with (ready_line 0 has (0 ∷ []) ∷ standing))
    (semaphores_of ((1 ∷ []) ∷ [])) (events_of ((1 ∷ bits ∷ []) ∷ [])) (mailboxes_of (empty ∷ first ∷ second ∷ [])) no_swis no_clocks free_heap
    (state_of 0 current)

-- the row of task 1, which runs
abbrev one : List ℕ
one = row ready 1 0 0 0

-- who stands at semaphore 0, mailbox 0, mailbox 2, event 0, and ready at 1 and at 5
abbrev at : List ℕ → List ℕ → List ℕ → List ℕ → List ℕ → List ℕ → List Standing
at waiters readers writers event low high =
    semaphore_line 0 has waiters
    ∷ mailbox_line 0 has readers
    ∷ mailbox_line 2 has writers
    ∷ event_line 0 has event
    ∷ ready_line 1 has low
    ∷ ready_line 5 has high
    ∷ []

unfoldable pub waits : Tables
waits = tables_of 1 one (at (2 ∷ 3 ∷ []) (5 ∷ 6 ∷ []) (7 ∷ []) (4 ∷ []) (1 ∷ []) []) 0 empty (full 8) 1

pub to-waits : Leads anything 0 fresh setup 0 waits
unfolding computed lines_with tables_of pass in_words waits
to-waits = leads anything 0 fresh fresh-typed fresh-is-sound setup 0 waits refl refl

-- ---- the post at the semaphore wakes task 2, and task 3 waits on
unfoldable pub woken : Tables
woken = tables_of 2 (row ready 5 0 0 0) (at (3 ∷ []) (5 ∷ 6 ∷ []) (7 ∷ []) (4 ∷ []) (1 ∷ []) (2 ∷ [])) 0 empty (full 8) 2

pub to-woken : Leads anything 0 waits (post 0 ⇒ said 0 0 2 (T 2) ∷ []) 1 woken
unfolding computed lines_with tables_of pass in_words waits woken
to-woken = leads anything 0 waits to-waits.typed to-waits.sound _ 1 woken refl refl

-- the post at the event wakes task 4, with the bit that it waited for
unfoldable pub matched : Tables
matched = tables_of 4 (row ready 5 0 0 1) (at (2 ∷ 3 ∷ []) (5 ∷ 6 ∷ []) (7 ∷ []) [] (1 ∷ []) (4 ∷ [])) 0 empty (full 8) 4

pub to-matched : Leads anything 0 waits (post_event 0 1 ⇒ said 0 0 4 (T 4) ∷ []) 0 matched
unfolding computed lines_with tables_of pass in_words waits matched
to-matched = leads anything 0 waits to-waits.typed to-waits.sound _ 0 matched refl refl

-- the post at the mailbox goes straight to task 5, and task 6 reads on
unfoldable pub read : Tables
read = tables_of 5 (row ready 5 0 0 9) (at (2 ∷ 3 ∷ []) (6 ∷ []) (7 ∷ []) (4 ∷ []) (1 ∷ []) (5 ∷ [])) 0 empty (full 8) 5

pub to_read : Leads anything 0 waits (post_mailbox 0 9 0 ⇒ said 0 0 5 (T 5) ∷ []) 0 read
unfolding computed lines_with tables_of pass in_words waits read
to_read = leads anything 0 waits to-waits.typed to-waits.sound _ 0 read refl refl

-- ---- nobody is woken: a bit that task 4 does not wait for; a word that is stored; and one that finds mailbox 2 full, so that task 1 waits to write
unfoldable pub unmatched : Tables
unmatched = tables_of 1 one (at (2 ∷ 3 ∷ []) (5 ∷ 6 ∷ []) (7 ∷ []) (4 ∷ []) (1 ∷ []) []) 2 empty (full 8) 1

pub to-unmatched : Leads anything 0 waits (post_event 0 2 ⇒ said 0 0 0 (T 1) ∷ []) 0 unmatched
unfolding computed lines_with tables_of pass in_words waits unmatched
to-unmatched = leads anything 0 waits to-waits.typed to-waits.sound _ 0 unmatched refl refl

unfoldable pub stored : Tables
stored = tables_of 1 one (at (2 ∷ 3 ∷ []) (5 ∷ 6 ∷ []) (7 ∷ []) (4 ∷ []) (1 ∷ []) []) 0 (full 9) (full 8) 1

pub to-stored : Leads anything 0 waits (post_mailbox 1 9 0 ⇒ said 0 0 0 (T 1) ∷ []) 0 stored
unfolding computed lines_with tables_of pass in_words waits stored
to-stored = leads anything 0 waits to-waits.typed to-waits.sound _ 0 stored refl refl

unfoldable pub queued : Tables
queued = tables_of 1 (row writing 1 2 9 0) (at (2 ∷ 3 ∷ []) (5 ∷ 6 ∷ []) (7 ∷ 1 ∷ []) (4 ∷ []) [] []) 0 empty (full 8) 0

pub to-queued : Leads anything 0 waits (post_mailbox 2 9 forever ⇒ said 0 2 0 (T 0) ∷ []) 0 queued
unfolding computed lines_with tables_of pass in_words waits queued
to-queued = leads anything 0 waits to-waits.typed to-waits.sound _ 0 queued refl refl

-- a pend that lets the writer in: its value is the oldest word, 8
unfoldable pub let_in : Tables
let_in = tables_of 7 (row ready 5 0 0 0) (at (2 ∷ 3 ∷ []) (5 ∷ 6 ∷ []) [] (4 ∷ []) (1 ∷ []) (7 ∷ [])) 0 empty (full 7) 7

pub to-let-in : Leads anything 0 waits (pend_mailbox 2 0 ⇒ said 0 0 8 (T 7) ∷ []) 0 let_in
unfolding computed lines_with tables_of pass in_words waits let_in
to-let-in = leads anything 0 waits to-waits.typed to-waits.sound _ 0 let_in refl refl

-- ---- one call of these on `waits`: its code and its value
pub record Answers (q : Call) (v : ℕ) : Type 0 where
  pub code : (made waits q).answer.code ≡ 0
  pub value : (made waits q).answer.value ≡ v

abbrev pub post_semaphore : Call
post_semaphore = asked 0x23 0 0 0 0

abbrev pub post_the_event : Call
post_the_event = asked 0x33 0 1 0 0

abbrev pub post_to_reader : Call
post_to_reader = asked 0x42 0 9 0 0

abbrev pub post_stored : Call
post_stored = asked 0x42 1 9 0 0

abbrev pub post_waiting : Call
post_waiting = asked 0x42 2 9 forever 0

abbrev pub pend_letting_in : Call
pend_letting_in = asked 0x43 2 0 0 0

-- a call that leads on from there answers what stands beside it
pub told : {number a b c d outcome value n : ℕ} {then : Thread} {u : Tables}
    → Leads anything 0 waits (Runs.asked number a b c d ⇒ said 0 outcome value then ∷ []) n u → Answers (asked number a b c d) value
unfolding says
told l = let e = l.answers.so in record { code = cc; value = cc }

-- ---- the theorem, applied to the three: tasks 2, 4 and 5 were woken
abbrev pub WokeHere : Post → Call → Type 0
WokeHere p q = Woke p waits q (made waits q).answer (next waits q)

was-woken : (p : Post) → ValueTells p → (q : Call) → q.number ≡ p.number → (v : ℕ) → Answers q v → v ≢ 0 → WokeHere p q
was-woken p tells q number v says some =
    ⊎_elim (λ woke. woke) (λ nobody. absurd (some (sym says.value ∙ nobody.none)))
    (tells waits to-waits.typed to-waits.sound q number says.code)

pub woke-two : WokeHere semaphore_post post_semaphore
woke-two = was-woken semaphore_post woken-task.semaphores post_semaphore refl 2 (told to-woken) (λ e. omega arith)

pub woke-four : WokeHere event_post post_the_event
woke-four = was-woken event_post woken-task.events post_the_event refl 4 (told to-matched) (λ e. omega arith)

pub woke-five : WokeHere mailbox_post post_to_reader
woke-five = was-woken mailbox_post woken-task.mailboxes post_to_reader refl 5 (told to_read) (λ e. omega arith)
