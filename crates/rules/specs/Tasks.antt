-- 01, 'Tasks': calls 00 to 06.
use Rattle.std.specs.Prelude.{ℕ, Bool, not, ◌&&◌, ◌||◌, cond as if, eqb, ltb, leb}
use Rattle.rules.specs.Tables.{TaskTable, StateRow, task_count, levels, minus_one, forever, not_in_use, ready, sleeping, writing, terminated, inactive, task}
use Rattle.rules.specs.Tables.{with_task, no_task, current}
use Rattle.basics.specs.Find.{first_below}
use Rattle.rules.specs.Answer.{Cases, given, on_object, never, CallRule, called, Effect, accepted, unknown, done, now_waiting, not_t, not_ts, unused}
use Rattle.rules.specs.Lines.{TaskQueues, task_queues, moved, at_back}
use Rattle.rules.specs.Waits.{switch_off, idle, waiting}
use Rattle.rules.specs.declared.Task.{Task}

-- "Task priorities -1 and 1 to 15"; No. 14: "With 32, priorities run to 31": with n levels -1, and 1 to n - 1
unfoldable pub is_priority : ℕ → ℕ → Bool
is_priority n p = eqb p minus_one || (ltb 0 p && ltb p n)

-- "a new object takes the lowest free number"; 32 where none is free
unfoldable pub free_task : TaskTable → ℕ
free_task ts = first_below task_count (λ i. eqb (task ts i).mode not_in_use)

abbrev pub blocked : ℕ → Bool
blocked mode = leb sleeping mode && leb mode writing

-- a ready or inactive task at this priority: "inactive (exactly at -1)"
abbrev pub placed_at : Task → ℕ → Task
placed_at k p =
    record {
      mode = if (eqb p minus_one) inactive ready;
      priority = p;
      object = k.object;
      left = k.left;
      held = k.held;
      mask = k.mask;
      outcome = k.outcome;
      value = k.value;
    }

-- ---- "00 create (priority; T): value its number; ready at once unless -1."
unfoldable pub create_cases : TaskTable → StateRow → ℕ → ℕ → ℕ → ℕ → ℕ → Cases
create_cases ts st x priority b c d =
    given 2 (not_t x)
    (given 4 (not (is_priority (levels st) priority) || unused 0 b c d)
    (given 6 (eqb (free_task ts) task_count) never))

unfoldable pub create_effect : TaskQueues → ℕ → Effect TaskQueues
create_effect q priority = accepted done (free_task q.tasks) (moved at_back (free_task q.tasks) (placed_at no_task priority) q)

abbrev pub create_call : TaskQueues → StateRow → ℕ → ℕ → ℕ → ℕ → ℕ → CallRule TaskQueues
create_call q st x a b c d = called (create_cases q.tasks st x a b c d) (create_effect q a)

-- ---- "01 delete (T): terminated or inactive only, else 5."
unfoldable pub delete_cases : TaskTable → ℕ → ℕ → ℕ → ℕ → ℕ → Cases
delete_cases ts x a b c d =
    given 2 (not_t x)
    (on_object task_count a (task ts a).mode
    (given 4 (unused 0 b c d)
    (given 5 (not (eqb (task ts a).mode terminated || eqb (task ts a).mode inactive)) never)))

unfoldable pub delete_effect : TaskQueues → ℕ → Effect TaskQueues
delete_effect q a = accepted done 0 (task_queues (with_task q.tasks a no_task) q.lines)

abbrev pub delete_call : TaskQueues → ℕ → ℕ → ℕ → ℕ → ℕ → CallRule TaskQueues
delete_call q x a b c d = called (delete_cases q.tasks x a b c d) (delete_effect q a)

-- ---- "02 set priority (task, priority; T S): value the old one; 5 for task 0, a terminated task, or -1 for the current or a blocked task"
unfoldable pub set_priority_cases : TaskTable → StateRow → ℕ → ℕ → ℕ → ℕ → ℕ → Cases
set_priority_cases ts st x a priority c d =
    given 2 (not_ts x)
    (on_object task_count a (task ts a).mode
    (given 4 (not (is_priority (levels st) priority) || unused 0 0 c d)
    (given 5
    (eqb a 0 || eqb (task ts a).mode terminated || (eqb priority minus_one && (eqb a (current st) || blocked (task ts a).mode)))
    never)))

abbrev pub with_priority : Task → ℕ → Task
with_priority k p =
    record {
      mode = k.mode;
      priority = p;
      object = k.object;
      left = k.left;
      held = k.held;
      mask = k.mask;
      outcome = k.outcome;
      value = k.value;
    }

-- "the same priority changes nothing; a ready or inactive task joins the new queue at the back (-1: made inactive); a blocked task keeps its
-- place in line (house)"
unfoldable pub reprioritized : TaskQueues → ℕ → ℕ → TaskQueues
reprioritized q a p =
    if (eqb p (task q.tasks a).priority) q
    (if (blocked (task q.tasks a).mode) (task_queues (with_task q.tasks a (with_priority (task q.tasks a) p)) q.lines)
    (moved at_back a (placed_at (task q.tasks a) p) q))

unfoldable pub set_priority_effect : TaskQueues → ℕ → ℕ → Effect TaskQueues
set_priority_effect q a p = accepted done (task q.tasks a).priority (reprioritized q a p)

abbrev pub set_priority_call : TaskQueues → StateRow → ℕ → ℕ → ℕ → ℕ → ℕ → CallRule TaskQueues
set_priority_call q st x a b c d = called (set_priority_cases q.tasks st x a b c d) (set_priority_effect q a b)

-- ---- "03 yield (T): to the back of its queue."
unfoldable pub yield_cases : StateRow → ℕ → ℕ → ℕ → ℕ → ℕ → Cases
yield_cases st x a b c d = given 2 (not_t x) (given 4 (unused a b c d) (given 9 (switch_off st) never))

unfoldable pub yield_effect : TaskQueues → StateRow → Effect TaskQueues
yield_effect q st = accepted done 0 (moved at_back (current st) (task q.tasks (current st)) q)

abbrev pub yield_call : TaskQueues → StateRow → ℕ → ℕ → ℕ → ℕ → ℕ → CallRule TaskQueues
yield_call q st x a b c d = called (yield_cases st x a b c d) (yield_effect q st)

-- ---- "04 end (T): terminated, priority and last result kept."
unfoldable pub end_cases : StateRow → ℕ → ℕ → ℕ → ℕ → ℕ → Cases
end_cases st x a b c d = given 2 (not_t x) (given 4 (unused a b c d) (given 5 (idle st) (given 9 (switch_off st) never)))

abbrev pub ended : Task → Task
ended k =
    record { mode = terminated; priority = k.priority; object = 0; left = 0; held = 0; mask = 0; outcome = k.outcome; value = k.value }

unfoldable pub end_effect : TaskQueues → StateRow → Effect TaskQueues
end_effect q st = accepted done 0 (moved at_back (current st) (ended (task q.tasks (current st))) q)

abbrev pub end_call : TaskQueues → StateRow → ℕ → ℕ → ℕ → ℕ → ℕ → CallRule TaskQueues
end_call q st x a b c d = called (end_cases st x a b c d) (end_effect q st)

-- ---- "05 sleep (n; T): n = 0 does nothing, n = 4,294,967,295 is 4, else outcome 2."
unfoldable pub sleep_cases : StateRow → ℕ → ℕ → ℕ → ℕ → ℕ → Cases
sleep_cases st x n b c d =
    given 2 (not_t x)
    (given 4 (eqb n forever || unused 0 b c d)
    (given 5 (ltb 0 n && idle st)
    (given 9 (ltb 0 n && switch_off st) never)))

unfoldable pub sleep_effect : TaskQueues → StateRow → ℕ → Effect TaskQueues
sleep_effect q st n =
    if (eqb n 0) (accepted done 0 q)
    (accepted now_waiting 0 (moved at_back (current st) (waiting (task q.tasks (current st)) sleeping 0 n 0 0) q))

abbrev pub sleep_call : TaskQueues → StateRow → ℕ → ℕ → ℕ → ℕ → ℕ → CallRule TaskQueues
sleep_call q st x a b c d = called (sleep_cases st x a b c d) (sleep_effect q st a)

-- ---- "06 last result (task; T S I): outcome and value of its last ended wait or sleep (a call done at once is none)."
unfoldable pub last_result_cases : TaskTable → ℕ → ℕ → ℕ → ℕ → Cases
last_result_cases ts a b c d = on_object task_count a (task ts a).mode (given 4 (unused 0 b c d) never)

unfoldable pub last_result_effect : TaskQueues → ℕ → Effect TaskQueues
last_result_effect q a = accepted (task q.tasks a).outcome (task q.tasks a).value q

abbrev pub last_result_call : TaskQueues → ℕ → ℕ → ℕ → ℕ → CallRule TaskQueues
last_result_call q a b c d = called (last_result_cases q.tasks a b c d) (last_result_effect q a)

-- ---- the calls by number
unfoldable pub task_call : TaskQueues → StateRow → ℕ → ℕ → ℕ → ℕ → ℕ → ℕ → CallRule TaskQueues
task_call q st x number a b c d =
    if (eqb number 0x00) (create_call q st x a b c d)
    (if (eqb number 0x01) (delete_call q x a b c d)
    (if (eqb number 0x02) (set_priority_call q st x a b c d)
    (if (eqb number 0x03) (yield_call q st x a b c d)
    (if (eqb number 0x04) (end_call q st x a b c d)
    (if (eqb number 0x05) (sleep_call q st x a b c d)
    (if (eqb number 0x06) (last_result_call q a b c d) (unknown q)))))))
