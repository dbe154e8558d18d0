-- 01, 'The calls': how a wait begins, and how it ends. "A served wait leaves outcome 0 and its value; an expired one outcome 1, value 0."
use Rattle.std.specs.Prelude.{ℕ, Bool, not, ◌&&◌, ◌||◌, cond as if, List, eqb}
use Rattle.rules.specs.Tables.{TaskTable, LineTable, StateRow, task, state, current, forever, ready, SWIS, TASKS}
use Rattle.rules.specs.Answer.{T, Effect, accepted, done}
use Rattle.rules.specs.Lines.{TaskQueues, task_queues, front_of, moved, at_back}
use Rattle.rules.specs.declared.Task.{Task}

-- "a limit other than 0 outside a task"; "Pend and post with a limit may be called by S and I with limit 0."
unfoldable pub outside : ℕ → ℕ → Bool
outside x limit = not (eqb x T) && not (eqb limit 0)

-- "while either switch is off"; No. 10: "Code 9 and demand 3 read as before."
unfoldable pub switch_off : StateRow → Bool
switch_off st = eqb (state st SWIS) 0 || eqb (state st TASKS) 0

-- the current task is the idle task: "task 0 ending or beginning a sleep or wait gives 5"
unfoldable pub idle : StateRow → Bool
idle st = eqb (current st) 0

-- "Limit 4,294,967,295 is without end.": no ticks are kept for it
unfoldable pub ticks_for : ℕ → ℕ
ticks_for limit = if (eqb limit forever) 0 limit

-- a task's row once it waits: in this mode, at this object, with this limit and what it holds; its last result stays
abbrev pub waiting : Task → ℕ → ℕ → ℕ → ℕ → ℕ → Task
waiting k mode object limit held mask =
    record {
      mode = mode;
      priority = k.priority;
      object = object;
      left = ticks_for limit;
      held = held;
      mask = mask;
      outcome = k.outcome;
      value = k.value;
    }

-- a task's row once its wait has ended with this outcome and value: "an ended wait's data" is 0
abbrev pub readied : Task → ℕ → ℕ → Task
readied k o v = record { mode = ready; priority = k.priority; object = 0; left = 0; held = 0; mask = 0; outcome = o; value = v }

-- task i is ready, at the back of its priority's queue
abbrev pub woken : ℕ → ℕ → ℕ → TaskQueues → TaskQueues
woken i o v x = moved at_back i (readied (task x.tasks i) o v) x

-- ---- what the calls of semaphores, events and mailboxes may change: the tasks, the lines, and the table of their objects
pub record WaitTables : Type 0 where
  pub tasks : TaskTable
  pub lines : LineTable
  pub objects : List ℕ

abbrev pub wait_tables : TaskTable → LineTable → List ℕ → WaitTables
wait_tables ts ls os = record { tasks = ts; lines = ls; objects = os }

abbrev pub queues_of : WaitTables → TaskQueues
queues_of q = task_queues q.tasks q.lines

abbrev pub with_queues : WaitTables → TaskQueues → WaitTables
with_queues q x = wait_tables x.tasks x.lines q.objects

-- an accepted post serves the first in line j, where somebody stands: its wait leaves outcome 0 and value v, and it is ready. No. 8: "Let the value be the
-- woken task's number"
abbrev pub wakes_first : ℕ → ℕ → WaitTables → Effect WaitTables
wakes_first j v q = accepted done (front_of q.lines j) (with_queues q (woken (front_of q.lines j) done v (queues_of q)))
