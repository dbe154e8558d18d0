-- 01, 'Semaphores': calls 20 to 24.
use Rattle.std.specs.Prelude.{ℕ, ◌+◌, ◌-◌, Bool, not, ◌&&◌, ◌||◌, cond as if, List, [], ◌∷◌, eqb, ltb, leb}
use Rattle.rules.specs.Tables.{TaskTable, LineTable, SemaphoreTable, StateRow, semaphore_count, semaphore_width, semaphore, with_semaphore, semaphore_row}
use Rattle.rules.specs.Tables.{task, current, at_semaphore, USED, KIND, COUNT}
use Rattle.basics.specs.Lists.{zeros}
use Rattle.basics.specs.Find.{first_below}
use Rattle.rules.specs.Answer.{Cases, given, on_object, never, CallRule, called, Effect, accepted, unknown, done, not_met, now_waiting, not_t, unused}
use Rattle.rules.specs.Lines.{semaphore_line, anyone, moved, at_back, by_priority}
use Rattle.rules.specs.Waits.{WaitTables, wait_tables, queues_of, with_queues, outside, switch_off, idle, waiting, wakes_first}

unfoldable pub free_semaphore : SemaphoreTable → ℕ
free_semaphore ss = first_below semaphore_count (λ i. eqb (semaphore ss i USED) 0)

-- "kinds 0 counting, 1 binary, 2 counting by priority, 3 binary by priority"
abbrev pub kind_count : ℕ
kind_count = 4

abbrev pub first_by_priority : ℕ
first_by_priority = 2

abbrev pub is_binary : ℕ → Bool
is_binary kind = eqb kind 1 || eqb kind 3

-- "count to 65,535 or 1"
abbrev pub count_most : ℕ
count_most = 65535

unfoldable pub most : ℕ → ℕ
most kind = if (is_binary kind) 1 count_most

-- ---- "20 create (kind, count; T): value its number; .. count to 65,535 or 1, else 4."
unfoldable pub create_cases : SemaphoreTable → ℕ → ℕ → ℕ → ℕ → ℕ → Cases
create_cases ss x kind count c d =
    given 2 (not_t x)
    (given 4 (not (ltb kind kind_count) || not (leb count (most kind)) || unused 0 0 c d)
    (given 6 (eqb (free_semaphore ss) semaphore_count) never))

unfoldable pub create_effect : WaitTables → ℕ → ℕ → Effect WaitTables
create_effect q kind count =
    accepted done (free_semaphore q.objects)
    (wait_tables q.tasks q.lines (semaphore_row q.objects (free_semaphore q.objects) (1 ∷ kind ∷ count ∷ [])))

abbrev pub create_call : WaitTables → ℕ → ℕ → ℕ → ℕ → ℕ → CallRule WaitTables
create_call q x a b c d = called (create_cases q.objects x a b c d) (create_effect q a b)

-- ---- "21 delete (T), 24 reset (semaphore, count as in 20; T): 5 with waiters."
unfoldable pub delete_cases : LineTable → SemaphoreTable → ℕ → ℕ → ℕ → ℕ → ℕ → Cases
delete_cases ls ss x a b c d =
    given 2 (not_t x)
    (on_object semaphore_count a (semaphore ss a USED)
    (given 4 (unused 0 b c d)
    (given 5 (anyone ls (semaphore_line a)) never)))

unfoldable pub delete_effect : WaitTables → ℕ → Effect WaitTables
delete_effect q a = accepted done 0 (wait_tables q.tasks q.lines (semaphore_row q.objects a (zeros semaphore_width)))

abbrev pub delete_call : WaitTables → ℕ → ℕ → ℕ → ℕ → ℕ → CallRule WaitTables
delete_call q x a b c d = called (delete_cases q.lines q.objects x a b c d) (delete_effect q a)

unfoldable pub reset_cases : LineTable → SemaphoreTable → ℕ → ℕ → ℕ → ℕ → ℕ → Cases
reset_cases ls ss x a count c d =
    given 2 (not_t x)
    (on_object semaphore_count a (semaphore ss a USED)
    (given 4 (not (leb count (most (semaphore ss a KIND))) || unused 0 0 c d)
    (given 5 (anyone ls (semaphore_line a)) never)))

unfoldable pub reset_effect : WaitTables → ℕ → ℕ → Effect WaitTables
reset_effect q a count = accepted done 0 (wait_tables q.tasks q.lines (with_semaphore q.objects a COUNT count))

abbrev pub reset_call : WaitTables → ℕ → ℕ → ℕ → ℕ → ℕ → CallRule WaitTables
reset_call q x a b c d = called (reset_cases q.lines q.objects x a b c d) (reset_effect q a b)

-- ---- "22 pend (semaphore, limit): count above 0, take one; else limit 0 answers outcome 1; else wait."
unfoldable pub pend_waits : SemaphoreTable → ℕ → ℕ → Bool
pend_waits ss a limit = eqb (semaphore ss a COUNT) 0 && not (eqb limit 0)

unfoldable pub pend_cases : SemaphoreTable → StateRow → ℕ → ℕ → ℕ → ℕ → ℕ → Cases
pend_cases ss st x a limit c d =
    given 2 (outside x limit)
    (on_object semaphore_count a (semaphore ss a USED)
    (given 4 (unused 0 0 c d)
    (given 5 (pend_waits ss a limit && idle st)
    (given 9 (pend_waits ss a limit && switch_off st) never))))

-- "Kinds 0 and 1 wait in arrival order; 2 and 3 before the first waiter of lower priority."
abbrev pub place_in : ℕ → TaskTable → ℕ → List ℕ → ℕ
place_in kind ts p xs = if (ltb kind first_by_priority) (at_back xs) (by_priority ts p xs)

unfoldable pub pend_effect : WaitTables → StateRow → ℕ → ℕ → Effect WaitTables
pend_effect q st a limit =
    if (ltb 0 (semaphore q.objects a COUNT))
    (accepted done 0 (wait_tables q.tasks q.lines (with_semaphore q.objects a COUNT (semaphore q.objects a COUNT - 1))))
    (if (eqb limit 0) (accepted not_met 0 q)
    (accepted now_waiting 0
    (with_queues q
    (moved (place_in (semaphore q.objects a KIND) q.tasks (task q.tasks (current st)).priority) (current st)
    (waiting (task q.tasks (current st)) at_semaphore a limit 0 0)
    (queues_of q)))))

abbrev pub pend_call : WaitTables → StateRow → ℕ → ℕ → ℕ → ℕ → ℕ → CallRule WaitTables
pend_call q st x a b c d = called (pend_cases q.objects st x a b c d) (pend_effect q st a b)

-- ---- "23 post (T S I): value 1 and the first waiter ready, or value 0 and count one up; binary at 1 stays 1; counting at 65,535 is 7 (house)."
-- No. 8, in place of value 1: "the woken task's number, and 0 if none was woken"
unfoldable pub post_cases : SemaphoreTable → ℕ → ℕ → ℕ → ℕ → Cases
post_cases ss a b c d =
    on_object semaphore_count a (semaphore ss a USED)
    (given 4 (unused 0 b c d)
    (given 7 (not (is_binary (semaphore ss a KIND)) && leb count_most (semaphore ss a COUNT)) never))

-- one up, and no more than the kind's most
unfoldable pub count_up : ℕ → ℕ → ℕ
count_up kind n = if (ltb n (most kind)) (n + 1) n

unfoldable pub post_effect : WaitTables → ℕ → Effect WaitTables
post_effect q a =
    if (anyone q.lines (semaphore_line a)) (wakes_first (semaphore_line a) 0 q)
    (accepted done 0
    (wait_tables q.tasks q.lines
    (with_semaphore q.objects a COUNT (count_up (semaphore q.objects a KIND) (semaphore q.objects a COUNT)))))

abbrev pub post_call : WaitTables → ℕ → ℕ → ℕ → ℕ → CallRule WaitTables
post_call q a b c d = called (post_cases q.objects a b c d) (post_effect q a)

-- ---- the calls by number
unfoldable pub semaphore_call : WaitTables → StateRow → ℕ → ℕ → ℕ → ℕ → ℕ → ℕ → CallRule WaitTables
semaphore_call q st x number a b c d =
    if (eqb number 0x20) (create_call q x a b c d)
    (if (eqb number 0x21) (delete_call q x a b c d)
    (if (eqb number 0x22) (pend_call q st x a b c d)
    (if (eqb number 0x23) (post_call q a b c d)
    (if (eqb number 0x24) (reset_call q x a b c d) (unknown q)))))
