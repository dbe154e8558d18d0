-- One call: from tables and a call to the next tables, the answer and the running thread. `step` is a call on sound tables, `call` tests first.
use Rattle.std.specs.Prelude.{ℕ, ◌+◌, Bool, ◌&&◌, cond as if, eqb, ltb, leb}
use Rattle.rules.specs.Tables.{LineTable, SwiTable, ClockTable, HeapMap, StateRow, tables}
use Rattle.rules.specs.Answer.{CallRule, called, Effect, with_answer, answered, answer, range_size, named, unknown}
use Rattle.rules.specs.Lines.{TaskQueues, task_queues}
use Rattle.rules.specs.Waits.{WaitTables, wait_tables}
use Rattle.rules.specs.Swis.{SwiQueues, swi_queues, swi_call}
use Rattle.rules.specs.Tasks.{task_call}
use Rattle.rules.specs.Semaphores.{semaphore_call}
use Rattle.rules.specs.Events.{event_call}
use Rattle.rules.specs.Mailboxes.{mailbox_call}
use Rattle.rules.specs.Clocks.{clock_call}
use Rattle.rules.specs.Heap.{heap_call}
use Rattle.rules.specs.Tick.{TickTables, tick_tables, switch_call}
use Rattle.rules.specs.Dispatch.{running, context, DispatchTables, dispatch_tables, dispatched}
use Rattle.rules.specs.Sound.{sound}
use Rattle.rules.specs.declared.Tables.{Tables}
use Rattle.rules.specs.declared.Answer.{Answer}
use Rattle.rules.specs.declared.Step.{Step}
use Rattle.rules.specs.declared.Thread.{Thread}
use Rattle.rules.specs.declared.Thread.TheVariants.{Task}

-- ---- the tables, but those that a kind's calls may change
abbrev pub with_queued : Tables → TaskQueues → Tables
with_queued t q = tables q.tasks q.lines t.semaphores t.events t.mailboxes t.swis t.clocks t.heap t.state

abbrev pub with_posts : Tables → SwiQueues → Tables
with_posts t p = tables t.tasks p.lines t.semaphores t.events t.mailboxes p.swis t.clocks t.heap t.state

abbrev pub with_semaphores : Tables → WaitTables → Tables
with_semaphores t q = tables q.tasks q.lines q.objects t.events t.mailboxes t.swis t.clocks t.heap t.state

abbrev pub with_events : Tables → WaitTables → Tables
with_events t q = tables q.tasks q.lines t.semaphores q.objects t.mailboxes t.swis t.clocks t.heap t.state

abbrev pub with_mailboxes : Tables → WaitTables → Tables
with_mailboxes t q = tables q.tasks q.lines t.semaphores t.events q.objects t.swis t.clocks t.heap t.state

abbrev pub with_clocks : Tables → ClockTable → Tables
with_clocks t cs = tables t.tasks t.lines t.semaphores t.events t.mailboxes t.swis cs t.heap t.state

abbrev pub with_heap : Tables → HeapMap → Tables
with_heap t h = tables t.tasks t.lines t.semaphores t.events t.mailboxes t.swis t.clocks h t.state

abbrev pub with_ticked : Tables → TickTables → Tables
with_ticked t x = tables x.tasks x.lines t.semaphores t.events t.mailboxes x.swis x.clocks t.heap x.state

abbrev pub with_dispatched : Tables → DispatchTables → Tables
with_dispatched t x = tables t.tasks x.lines t.semaphores t.events t.mailboxes x.swis t.clocks t.heap x.state

-- a kind's call as a call on all tables
abbrev pub over : {A : Type 0} → (A → Tables) → CallRule A → CallRule Tables
over put c = called c.cases (with_answer c.effect.answer (put c.effect.next))

-- ---- "Call numbers fall into ranges of sixteen, one range for each kind (hexadecimal)."
abbrev pub in_range : ℕ → ℕ → Bool
in_range number from = leb from number && ltb number (from + range_size)

unfoldable pub call_of : Tables → ℕ → ℕ → ℕ → ℕ → ℕ → ℕ → CallRule Tables
call_of t x number a b c d =
    if (in_range number 0x00) (over (with_queued t) (task_call (task_queues t.tasks t.lines) t.state x number a b c d))
    (if (in_range number 0x10) (over (with_posts t) (swi_call (swi_queues t.swis t.lines) t.clocks t.state x number a b c d))
    (if (in_range number 0x20) (over (with_semaphores t) (semaphore_call (wait_tables t.tasks t.lines t.semaphores) t.state x number a b c d))
    (if (in_range number 0x30) (over (with_events t) (event_call (wait_tables t.tasks t.lines t.events) t.state x number a b c d))
    (if (in_range number 0x40) (over (with_mailboxes t) (mailbox_call (wait_tables t.tasks t.lines t.mailboxes) t.state x number a b c d))
    (if (in_range number 0x50) (over (with_clocks t) (clock_call t.clocks t.swis x number a b c d))
    (if (in_range number 0x60) (over (with_heap t) (heap_call t.heap x number a b c d))
    (if (in_range number 0x70)
    (over (with_ticked t) (switch_call (tick_tables t.tasks t.lines t.swis t.clocks t.state) x number a b c d))
    (unknown t))))))))

-- ---- dispatch follows each accepted call, and the running thread is given
abbrev pub settled : ℕ → SwiTable → LineTable → StateRow → DispatchTables
settled code ws ls st = if (eqb code 0) (dispatched ws ls st) (dispatch_tables ws ls st)

abbrev pub step_of : Tables → Answer → Thread → Step
step_of t r x = record { tables = t; answer = r; thread = x }

-- No. 2: the answer leaves the core with the table named
unfoldable pub finished : ℕ → Effect Tables → Step
finished number r =
    let x : DispatchTables = settled r.answer.code r.next.swis r.next.lines r.next.state in
    step_of (with_dispatched r.next x) (named number r.answer) (running x.lines x.state)

unfoldable pub step : Tables → ℕ → ℕ → ℕ → ℕ → ℕ → Step
step t number a b c d = finished number (answered t (call_of t (context t.lines t.state) number a b c d))

-- code 10, "the tables are not sound"; "with code 10 the thread given is T0"
unfoldable pub call : Tables → ℕ → ℕ → ℕ → ℕ → ℕ → Step
call t number a b c d = if (sound t) (step t number a b c d) (step_of t (answer 10 0 0) (Task 0))
