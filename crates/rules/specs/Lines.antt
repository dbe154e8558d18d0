-- 01, 'The tables': the lines in which tasks and Swis stand, all in one table, and the line of each task and Swi.
use Rattle.std.specs.Prelude.{ℕ, ◌+◌, ◌*◌, Bool, cond as if, List, [], eqb, ltb, length, get_or}
use Rattle.rules.specs.Tables.{TaskTable, LineTable, SwiTable, task_count, semaphore_count, mailbox_count, event_count, swi_levels, task, with_task, swi}
use Rattle.rules.specs.Tables.{PRIORITY, POSTED, ready, at_semaphore, at_event, reading, writing}
pub use Rattle.rules.specs.Tables.{line_count, line_most, line_width}
use Rattle.basics.specs.Lists.{without, put_at, first_where}
use Rattle.rules.specs.Rows.{listed, with_listed}
use Rattle.rules.specs.declared.Task.{Task}

-- ---- which line is whose: "one queue for each priority", a line for each semaphore and mailbox, "the one waiter of an event"; one kind after the
-- other
abbrev pub semaphore_line : ℕ → ℕ
semaphore_line s = s

abbrev pub mailbox_line : ℕ → ℕ
mailbox_line m = semaphore_count + m

abbrev pub event_line : ℕ → ℕ
event_line e = semaphore_count + mailbox_count + e

-- posted Swis, by priority
abbrev pub posted_line : ℕ → ℕ
posted_line p = semaphore_count + mailbox_count + event_count + p

-- active Swis, the top one last
abbrev pub active_line : ℕ
active_line = posted_line swi_levels

-- the ready tasks, by priority
abbrev pub ready_line : ℕ → ℕ
ready_line p = active_line + 1 + p

-- a number that is no line's
abbrev pub nowhere : ℕ
nowhere = 255

-- ---- the lines themselves
-- those who stand in line j, the one at the front first; nobody where there is no such line
unfoldable pub line : LineTable → ℕ → List ℕ
line ls j = if (ltb j line_count) (listed line_most ls (j * line_width)) []

-- the lines, but that these stand in line j
unfoldable pub with_line : LineTable → ℕ → List ℕ → LineTable
with_line ls j xs = if (ltb j line_count) (with_listed line_most ls (j * line_width) xs) ls

-- Calls reach a line of tasks in these ways only: whether anyone stands there, the first, leaving, joining at the back, and joining at a place;
-- of the active Swis, besides, the last (`Swis.top`) and whether one is among them (`Swis.is_active`).
abbrev pub anyone : LineTable → ℕ → Bool
anyone ls j = ltb 0 (length (line ls j))

abbrev pub front_of : LineTable → ℕ → ℕ
front_of ls j = get_or (line ls j) 0 0

unfoldable pub out_of : ℕ → ℕ → LineTable → LineTable
out_of j x ls = with_line ls j (without x (line ls j))

-- x behind as many as `place` says of those who stand there; a full line stays as it is
unfoldable pub entered : (List ℕ → ℕ) → ℕ → ℕ → LineTable → LineTable
entered place j x ls = if (ltb (length (line ls j)) line_most) (with_line ls j (put_at (place (line ls j)) x (line ls j))) ls

-- "Tasks join queues at the back."
abbrev pub at_back : List ℕ → ℕ
at_back xs = length xs

abbrev pub joined : ℕ → ℕ → LineTable → LineTable
joined j x ls = entered at_back j x ls

-- "before the first waiter of lower priority"
abbrev pub is_lower : TaskTable → ℕ → ℕ → Bool
is_lower ts p y = ltb (task ts y).priority p

abbrev pub by_priority : TaskTable → ℕ → List ℕ → ℕ
by_priority ts p xs = first_where (is_lower ts p) xs

-- ---- where a task stands: "Each ready task stands once, in its priority's queue. Each blocked task sleeps or stands once in one semaphore's
-- or mailbox's line, or is the one waiter of an event. Nothing else stands in a queue or line"
unfoldable pub home_by : ℕ → ℕ → ℕ → ℕ
home_by mode priority object =
    if (eqb mode ready) (ready_line priority)
    (if (eqb mode at_semaphore) (semaphore_line object)
    (if (eqb mode at_event) (event_line object)
    (if (eqb mode reading) (mailbox_line object)
    (if (eqb mode writing) (mailbox_line object) nowhere))))

abbrev pub home_of : Task → ℕ
home_of k = home_by k.mode k.priority k.object

abbrev pub task_home : TaskTable → ℕ → ℕ
task_home ts i = home_of (task ts i)

-- "Posted Swis stand once in their priority's queue"
unfoldable pub swi_home : SwiTable → ℕ → ℕ
swi_home ws i = if (eqb (swi ws i POSTED) 1) (posted_line (swi ws i PRIORITY)) nowhere

-- ---- a task moves: out of its line if it has one, its row becomes k, and into the line that k has, if any; no task i, no change
pub record TaskQueues : Type 0 where
  pub tasks : TaskTable
  pub lines : LineTable

abbrev pub task_queues : TaskTable → LineTable → TaskQueues
task_queues ts ls = record { tasks = ts; lines = ls }

unfoldable pub moved : (List ℕ → ℕ) → ℕ → Task → TaskQueues → TaskQueues
moved place i k x =
    if (ltb i task_count)
    (task_queues (with_task x.tasks i k) (entered place (home_of k) i (out_of (task_home x.tasks i) i x.lines)))
    x
