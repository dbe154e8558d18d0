-- What a call changed, from the tables before it and after it: the parts of a line of the trace, as numbers (docs/TRACE.md).
use Rattle.std.specs.Prelude.{ℕ, ◌+◌, ◌-◌, Bool, not, ◌&&◌, ◌||◌, cond as if, List, [], ◌∷◌, ◌++◌, eqb, ltb, length}
use Rattle.basics.specs.Lists.{bit}
use Rattle.basics.specs.Find.{all_below}
use Rattle.rules.specs.Rows.{field}
use Rattle.rules.specs.Tables.{TaskTable, LineTable, SemaphoreTable, EventTable, MailboxTable, SwiTable, ClockTable, HeapMap, StateRow, task_count, swi_count}
use Rattle.rules.specs.Tables.{swi_width, semaphore_count, semaphore_width, event_count, event_width, mailbox_count, mailbox_width, clock_count, clock_width, heap_units}
use Rattle.rules.specs.Tables.{task, swi, mailbox, messages, clock, state, TRIGGER, POSTED, CAPACITY, DEPTH, SWIS, TASKS, TICK, CURRENT, LEVELS, swi_levels}
use Rattle.rules.specs.Lines.{line, semaphore_line, event_line, mailbox_line, posted_line, active_line}
use Rattle.rules.specs.Swis.{top, one_down, cleared}
use Rattle.rules.specs.Tick.{aged}
use Rattle.rules.specs.Heap.{unit, first_of, later_in}
use Rattle.rules.specs.declared.Task.{Task}
use Rattle.trace_changes.specs.Numbers.{each_below, count_below, same_list, told}
use Rattle.trace_changes.specs.declared.Made.{Made}

-- ---- 2 "the state after it: depth, Swis on, tasks on, tick, current task, levels"
unfoldable pub state_now : StateRow → List ℕ
state_now st = state st DEPTH ∷ state st SWIS ∷ state st TASKS ∷ state st TICK ∷ state st CURRENT ∷ state st LEVELS ∷ []

-- ---- 3 "each task that changed: number, mode, priority, object, ticks left, outcome, value"
-- "A task changed if its mode, priority, object, outcome or value did."
unfoldable pub same_task : Task → Task → Bool
same_task k l =
    eqb k.mode l.mode
    && eqb k.priority l.priority
    && eqb k.object l.object
    && eqb k.outcome l.outcome
    && eqb k.value l.value

unfoldable pub task_numbers : ℕ → Task → List ℕ
task_numbers i k = i ∷ k.mode ∷ k.priority ∷ k.object ∷ k.left ∷ k.outcome ∷ k.value ∷ []

unfoldable pub changed_tasks : TaskTable → List ℕ → List ℕ
changed_tasks ts us = each_below task_count (λ i. told (not (same_task (task ts i) (task us i))) (task_numbers i (task us i)))

-- ---- 4 "each post of a Swi that was made, in order: clock, Swi, 1 if it was posted already (else 0)"
abbrev pub post : ℕ → ℕ → Bool → List ℕ
post c i already = c ∷ i ∷ bit already ∷ []

abbrev pub is_posted : SwiTable → ℕ → Bool
is_posted ws i = not (eqb (swi ws i POSTED) 0)

-- "of an accepted call 12, 13 or 15 one; of 14 and 16 one if the trigger is now 0"
unfoldable pub call_posts : SwiTable → ℕ → ℕ → ℕ → Bool
call_posts ws number a b =
    eqb number 0x12
    || eqb number 0x13
    || eqb number 0x15
    || (eqb number 0x14 && eqb (one_down (swi ws a TRIGGER)) 0)
    || (eqb number 0x16 && eqb (cleared (swi ws a TRIGGER) b) 0)

-- "'Clock' is .. 16 where the call itself posts."
abbrev pub call_clock : ℕ
call_clock = clock_count

unfoldable pub call_post : SwiTable → ℕ → ℕ → ℕ → List ℕ
call_post ws number a b = told (call_posts ws number a b) (post call_clock a (is_posted ws a))

-- "of a tick one for each clock that runs out, in rising number"
abbrev pub runs_out : ClockTable → ℕ → Bool
runs_out cs c = (aged (clock cs c)).fired

-- a clock below c runs out and posts Swi i
unfoldable pub posted_below : ClockTable → ℕ → ℕ → Bool
posted_below cs i c = not (all_below c (λ n. not (runs_out cs n && eqb (clock cs n).swi i)))

unfoldable pub clock_post : ClockTable → SwiTable → ℕ → List ℕ
clock_post cs ws c =
    told (runs_out cs c) (post c (clock cs c).swi (is_posted ws (clock cs c).swi || posted_below cs (clock cs c).swi c))

unfoldable pub clock_posts : ClockTable → SwiTable → List ℕ
clock_posts cs ws = each_below clock_count (clock_post cs ws)

abbrev pub is_tick : Made → Bool
is_tick q = eqb q.answer.code 0 && eqb q.asked.number 0x76

unfoldable pub posts_made : Made → ClockTable → SwiTable → List ℕ
posts_made q cs ws =
    told (eqb q.answer.code 0) (if (eqb q.asked.number 0x76) (clock_posts cs ws) (call_post ws q.asked.number q.asked.a q.asked.b))

-- ---- 5 "the Swi that dispatch started, if one was: number"
-- A Swi that starts is the top active one, and call 17 takes the one that ends away first: "a Swi that was active and ended may be started anew
-- by the same call".
unfoldable pub is_started : Made → LineTable → MailboxTable → Bool
is_started q ls ms =
    eqb q.answer.code 0 && ltb (length (line ls active_line)) (length (line ms active_line) + bit (eqb q.asked.number 0x17))

unfoldable pub started_swi : Made → LineTable → MailboxTable → List ℕ
started_swi q ls ms = told (is_started q ls ms) (top ms ∷ [])

-- ---- 6 "the posted Swis: numbers, the highest priority first, each queue from its front"
unfoldable pub posted_swis : LineTable → List ℕ
posted_swis ls = each_below swi_levels (λ k. line ls (posted_line (swi_levels - 1 - k)))

-- ---- 7 "the active Swis: numbers, the top one last"
abbrev pub active_swis : LineTable → List ℕ
active_swis ls = line ls active_line

-- ---- 8 to 12: "An object changed if its row or its line did."
-- a row's words
unfoldable pub row : ℕ → ℕ → List ℕ → ℕ → List ℕ
row w n t i = each_below w (λ f. field w n t i f ∷ [])

unfoldable pub same_row : ℕ → ℕ → List ℕ → List ℕ → ℕ → Bool
same_row w n t u i = all_below w (λ f. eqb (field w n t i f) (field w n u i f))

-- "how many wait, who, the front first"
unfoldable pub waiting : LineTable → ℕ → List ℕ
waiting ls j = length (line ls j) ∷ line ls j

-- of n objects with rows of w words, those whose row changed
unfoldable pub changed_rows : ℕ → ℕ → List ℕ → List ℕ → List ℕ
changed_rows w n t u = each_below n (λ i. told (not (same_row w n t u i)) (i ∷ row w n u i))

-- those whose row or line changed, where object i has the line at `from` + i
unfoldable pub changed_lined : ℕ → ℕ → ℕ → List ℕ → LineTable → List ℕ → MailboxTable → List ℕ
changed_lined w n from t ls u ms =
    each_below n (λ i. told (not (same_row w n t u i && same_list (line ls (from + i)) (line ms (from + i)))) (i ∷ (row w n u i ++ waiting ms (from + i))))

-- 8 "each semaphore that changed: number, used, kind, count, how many wait, who, the front first"
abbrev pub changed_semaphores : SemaphoreTable → LineTable → TaskTable → MailboxTable → List ℕ
changed_semaphores ss ls ts ms = changed_lined semaphore_width semaphore_count (semaphore_line 0) ss ls ts ms

-- 9 "each event that changed: number, used, bits, how many wait (0 or 1), who"
abbrev pub changed_events : EventTable → LineTable → List ℕ → MailboxTable → List ℕ
changed_events es ls fs ms = changed_lined event_width event_count (event_line 0) es ls fs ms

-- 10 "each mailbox that changed: number, capacity (0: not in use), messages there, the messages, the oldest first, how many wait, who"
unfoldable pub mailbox_numbers : List ℕ → LineTable → ℕ → List ℕ
mailbox_numbers bs ls i = i ∷ mailbox bs i CAPACITY ∷ length (messages bs i) ∷ (messages bs i ++ waiting ls (mailbox_line i))

unfoldable pub same_mailbox : List ℕ → LineTable → List ℕ → MailboxTable → ℕ → Bool
same_mailbox bs ls ds ms i = same_row mailbox_width mailbox_count bs ds i && same_list (line ls (mailbox_line i)) (line ms (mailbox_line i))

unfoldable pub changed_mailboxes : List ℕ → LineTable → List ℕ → MailboxTable → List ℕ
changed_mailboxes bs ls ds ms = each_below mailbox_count (λ i. told (not (same_mailbox bs ls ds ms i)) (mailbox_numbers ds ms i))

-- 11 "each Swi that changed: number, used, priority, initial, trigger, posted, taken"
abbrev pub changed_swis : SwiTable → List ℕ → List ℕ
changed_swis ws vs = changed_rows swi_width swi_count ws vs

-- 12 "each clock that changed: number, used, Swi, first ticks, period, ticks left"
-- "On a tick a clock changed if it ran out; on every other call, if its row did."
unfoldable pub ran_out : ClockTable → List ℕ → List ℕ
ran_out cs ds = each_below clock_count (λ i. told (runs_out cs i) (i ∷ row clock_width clock_count ds i))

unfoldable pub changed_clocks : Made → ClockTable → List ℕ → List ℕ
changed_clocks q cs ds = if (is_tick q) (ran_out cs ds) (changed_rows clock_width clock_count cs ds)

-- ---- 13 "the heap, if it changed: blocks, units taken"
unfoldable pub same_heap : HeapMap → List ℕ → Bool
same_heap h k = all_below heap_units (λ u. eqb (unit h u) (unit k u))

-- how many units have this entry
unfoldable pub units_with : ℕ → HeapMap → ℕ
units_with e h = count_below heap_units (λ u. eqb (unit h u) e)

abbrev pub blocks : HeapMap → ℕ
blocks h = units_with first_of h

abbrev pub units_taken : HeapMap → ℕ
units_taken h = units_with first_of h + units_with later_in h

unfoldable pub changed_heap : HeapMap → List ℕ → List ℕ
changed_heap h k = told (not (same_heap h k)) (blocks k ∷ units_taken k ∷ [])
