-- 01, 'Tick': call 76, and the switches' calls by number.
use Rattle.std.specs.Prelude.{ℕ, ◌+◌, ◌-◌, ◌%◌, Bool, true, false, cond as if, eqb}
use Rattle.rules.specs.Tables.{TaskTable, LineTable, SwiTable, ClockTable, StateRow, task_count, clock_count, word_end, task, with_task, clock, with_clock}
use Rattle.rules.specs.Tables.{state, with_state, sleeping, TICK}
use Rattle.basics.specs.Find.{rising}
use Rattle.rules.specs.Answer.{CallRule, called, Effect, with_answer, accepted, unknown, done}
use Rattle.rules.specs.Lines.{TaskQueues, task_queues}
use Rattle.rules.specs.Waits.{woken}
use Rattle.rules.specs.Swis.{SwiQueues, swi_queues, posted}
use Rattle.rules.specs.Clocks.{with_left}
use Rattle.rules.specs.Switches.{off_call, restore_call, in_call, out_call, interrupt_cases}
use Rattle.rules.specs.declared.Task.{Task}
use Rattle.rules.specs.declared.Clock.{Clock}
use Rattle.rules.specs.declared.AgedClock.{AgedClock}

-- ---- "Then running clocks in rising number: one tick less; at 0 the Swi is posted, and the clock has its period again or stops if that is 0.
-- Each step ages one clock's own record in place."
unfoldable pub aged : Clock → AgedClock
aged k =
    if (eqb k.left 0) (record { clock = k; fired = false })
    (if (eqb k.left 1) (record { clock = with_left k k.period; fired = true })
    (record { clock = with_left k (k.left - 1); fired = false }))

-- the clocks, and the Swis that they post
pub record ClockTables : Type 0 where
  pub clocks : ClockTable
  pub swis : SwiTable
  pub lines : LineTable

abbrev pub clock_tables : ClockTable → SwiTable → LineTable → ClockTables
clock_tables cs ws ls = record { clocks = cs; swis = ws; lines = ls }

abbrev pub posted_if : Bool → ℕ → SwiQueues → SwiQueues
posted_if fired i p = if fired (posted i p) p

unfoldable pub clock_tick : ClockTables → ℕ → ClockTables
clock_tick x n =
    let k : AgedClock = aged (clock x.clocks n) in
    let p : SwiQueues = posted_if k.fired (clock x.clocks n).swi (swi_queues x.swis x.lines) in
    clock_tables (with_clock x.clocks n k.clock) p.swis p.lines

-- ---- "Then limited waits and sleeps in rising task number: one tick less; at 0 the task leaves its line and is ready. A sleep that ends has
-- outcome 0." An expired wait leaves "outcome 1, value 0".
abbrev pub one_less : Task → Task
one_less k =
    record {
      mode = k.mode;
      priority = k.priority;
      object = k.object;
      left = k.left - 1;
      held = k.held;
      mask = k.mask;
      outcome = k.outcome;
      value = k.value;
    }

abbrev pub ended_with : ℕ → ℕ
ended_with mode = if (eqb mode sleeping) 0 1

unfoldable pub task_tick : TaskQueues → ℕ → TaskQueues
task_tick q i =
    if (eqb (task q.tasks i).left 0) q
    (if (eqb (task q.tasks i).left 1) (woken i (ended_with (task q.tasks i).mode) 0 q)
    (task_queues (with_task q.tasks i (one_less (task q.tasks i))) q.lines))

-- ---- what a tick may change
pub record TickTables : Type 0 where
  pub tasks : TaskTable
  pub lines : LineTable
  pub swis : SwiTable
  pub clocks : ClockTable
  pub state : StateRow

abbrev pub tick_tables : TaskTable → LineTable → SwiTable → ClockTable → StateRow → TickTables
tick_tables ts ls ws cs st = record { tasks = ts; lines = ls; swis = ws; clocks = cs; state = st }

-- "The count goes up by one." "The tick count .. go round at 4,294,967,296."
abbrev pub counted_up : StateRow → StateRow
counted_up st = with_state st TICK ((state st TICK + 1) % word_end)

abbrev pub clocks_ticked : ClockTable → SwiTable → LineTable → ClockTables
clocks_ticked cs ws ls = rising clock_count clock_tick (clock_tables cs ws ls)

abbrev pub tasks_ticked : TaskTable → LineTable → TaskQueues
tasks_ticked ts ls = rising task_count task_tick (task_queues ts ls)

unfoldable pub ticked : TickTables → TickTables
ticked t =
    let x : ClockTables = clocks_ticked t.clocks t.swis t.lines in
    let q : TaskQueues = tasks_ticked t.tasks x.lines in
    tick_tables q.tasks q.lines x.swis x.clocks (counted_up t.state)

-- ---- the calls by number
-- the calls 74, 75, 77 and 78 change the state alone
abbrev pub on_state : TickTables → CallRule StateRow → CallRule TickTables
on_state t r =
    called r.cases (with_answer r.effect.answer (tick_tables t.tasks t.lines t.swis t.clocks r.effect.next))

-- "76 tick (I)"
abbrev pub tick_call : TickTables → ℕ → ℕ → ℕ → ℕ → ℕ → CallRule TickTables
tick_call t x a b c d = called (interrupt_cases x a b c d) (accepted done 0 (ticked t))

-- No. 10: "70 to 73 become unknown numbers."
unfoldable pub switch_call : TickTables → ℕ → ℕ → ℕ → ℕ → ℕ → ℕ → CallRule TickTables
switch_call t x number a b c d =
    if (eqb number 0x74) (on_state t (in_call t.state a b c d))
    (if (eqb number 0x75) (on_state t (out_call t.state x a b c d))
    (if (eqb number 0x76) (tick_call t x a b c d)
    (if (eqb number 0x77) (on_state t (off_call t.state x a b c d))
    (if (eqb number 0x78) (on_state t (restore_call t.state x a b c d)) (unknown t)))))
