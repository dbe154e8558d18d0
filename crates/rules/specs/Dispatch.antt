-- 01, 'Dispatch': who runs, and what is done after each accepted call.
use Rattle.std.specs.Prelude.{ℕ, suc, ◌-◌, Bool, not, ◌&&◌, cond as if, eqb, ltb}
use Rattle.rules.specs.Tables.{LineTable, SwiTable, StateRow, swi_levels, levels, swi, with_swi, state, with_state, current, PRIORITY, INITIAL, TRIGGER}
use Rattle.rules.specs.Tables.{POSTED, TAKEN, DEPTH, SWIS, TASKS, CURRENT}
use Rattle.basics.specs.Find.{highest_below}
use Rattle.rules.specs.Answer.{T, S, I}
use Rattle.rules.specs.Lines.{anyone, front_of, out_of, joined, posted_line, active_line, ready_line}
use Rattle.rules.specs.Swis.{SwiQueues, swi_queues, top}
use Rattle.rules.specs.declared.Thread.{Thread}
use Rattle.rules.specs.declared.Thread.TheVariants.{Task, Swi, Interrupt}

-- "Depth above 0: the interrupt runs. Otherwise the top active Swi, otherwise the current task."
unfoldable pub running : LineTable → StateRow → Thread
running ls st = if (ltb 0 (state st DEPTH)) Interrupt (if (anyone ls active_line) (Swi (top ls)) (Task (current st)))

-- the context of a call: T, S or I, by who runs
unfoldable pub context : LineTable → StateRow → ℕ
context ls st = if (ltb 0 (state st DEPTH)) I (if (anyone ls active_line) S T)

-- ---- Swis: "at depth 0 with Swis on: if the highest posted Swi is above the top active one, or none is active, the first at its priority starts"
-- one more than the highest priority at which a Swi is posted; 0 where none is
unfoldable pub highest_posted : LineTable → ℕ
highest_posted ls = highest_below swi_levels (λ p. anyone ls (posted_line p))

-- one more than the top active Swi's priority; 0 where none is active
unfoldable pub active_level : SwiTable → LineTable → ℕ
active_level ws ls = if (anyone ls active_line) (suc (swi ws (top ls) PRIORITY)) 0

unfoldable pub swi_due : SwiTable → LineTable → StateRow → Bool
swi_due ws ls st = eqb (state st DEPTH) 0 && not (eqb (state st SWIS) 0) && ltb (active_level ws ls) (highest_posted ls)

-- "its trigger is kept as taken and set back to its initial value"; it leaves the line j in which it is posted and is the top active one
unfoldable pub started : ℕ → ℕ → SwiQueues → SwiQueues
started i j x =
    swi_queues
    (with_swi (with_swi (with_swi x.swis i TAKEN (swi x.swis i TRIGGER)) i TRIGGER (swi x.swis i INITIAL)) i POSTED 0)
    (joined active_line i (out_of j i x.lines))

-- the line of the highest posted Swi
abbrev pub next_line : LineTable → ℕ
next_line ls = posted_line (highest_posted ls - 1)

unfoldable pub swi_dispatched : StateRow → SwiQueues → SwiQueues
swi_dispatched st x =
    if (swi_due x.swis x.lines st)
    (started (front_of x.lines (next_line x.lines)) (next_line x.lines) x)
    x

-- ---- tasks: "Then, at depth 0 with no Swi active and both switches on, the current task becomes the front of the highest non-empty ready queue."
-- one more than the highest of n priorities at which a task is ready; 0 where none is
unfoldable pub highest_ready : ℕ → LineTable → ℕ
highest_ready n ls = highest_below n (λ p. anyone ls (ready_line p))

unfoldable pub front : ℕ → LineTable → ℕ
front n ls = front_of ls (ready_line (highest_ready n ls - 1))

unfoldable pub task_due : LineTable → StateRow → Bool
task_due ls st = eqb (state st DEPTH) 0 && not (anyone ls active_line) && not (eqb (state st SWIS) 0) && not (eqb (state st TASKS) 0)

unfoldable pub task_dispatched : LineTable → StateRow → StateRow
task_dispatched ls st = if (task_due ls st) (with_state st CURRENT (front (levels st) ls)) st

-- ---- the whole rule
pub record DispatchTables : Type 0 where
  pub swis : SwiTable
  pub lines : LineTable
  pub state : StateRow

abbrev pub dispatch_tables : SwiTable → LineTable → StateRow → DispatchTables
dispatch_tables ws ls st = record { swis = ws; lines = ls; state = st }

unfoldable pub dispatched : SwiTable → LineTable → StateRow → DispatchTables
dispatched ws ls st =
    let x : SwiQueues = swi_dispatched st (swi_queues ws ls) in
    dispatch_tables x.swis x.lines (task_dispatched x.lines st)
