-- 01, 'The tables': the rows and words of each table, and what they are called. A number out of range reads as 0, 'not in use'.
use Rattle.std.specs.Prelude.{ℕ, ◌+◌, ◌-◌, ◌*◌, ◌^◌, ◌≡◌, ◌&&◌, cond as if, List, [], ◌∷◌, eqb, ltb, leb, length, get_or, set}
use Rattle.rules.specs.Rows.{field, with_field, with_row, listed, with_listed}
use Rattle.rules.specs.declared.Tables.{Tables}
use Rattle.rules.specs.declared.Task.{Task}
use Rattle.rules.specs.declared.Clock.{Clock}

-- ---- each table as the list of its words
abbrev pub TaskTable : Type 0
TaskTable = List ℕ

abbrev pub LineTable : Type 0
LineTable = List ℕ

abbrev pub SemaphoreTable : Type 0
SemaphoreTable = List ℕ

abbrev pub EventTable : Type 0
EventTable = List ℕ

abbrev pub MailboxTable : Type 0
MailboxTable = List ℕ

abbrev pub SwiTable : Type 0
SwiTable = List ℕ

abbrev pub ClockTable : Type 0
ClockTable = List ℕ

abbrev pub HeapMap : Type 0
HeapMap = List ℕ

abbrev pub StateRow : Type 0
StateRow = List ℕ

-- ---- "32 tasks (0 to 31), 16 Swis, 16 semaphores, 8 events, 8 mailboxes of 1 to 8 messages, 16 clocks", and each row's words
abbrev pub task_count : ℕ
task_count = 32

abbrev pub task_width : ℕ
task_width = 8

abbrev pub swi_count : ℕ
swi_count = 16

abbrev pub swi_width : ℕ
swi_width = 6

abbrev pub semaphore_count : ℕ
semaphore_count = 16

abbrev pub semaphore_width : ℕ
semaphore_width = 3

abbrev pub event_count : ℕ
event_count = 8

abbrev pub event_width : ℕ
event_width = 2

abbrev pub mailbox_count : ℕ
mailbox_count = 8

abbrev pub mailbox_most : ℕ
mailbox_most = 8

-- its capacity, the number of its messages, and room for them
abbrev pub mailbox_width : ℕ
mailbox_width = 2 + mailbox_most

abbrev pub clock_count : ℕ
clock_count = 16

abbrev pub clock_width : ℕ
clock_width = 5

-- "Task priorities -1 and 1 to 15. Task 0 is the idle task, priority 0": sixteen levels
abbrev pub few_levels : ℕ
few_levels = 16

-- No. 14: "With 32, priorities run to 31": thirty-two levels. The lines have a ready queue for each, in use or not.
abbrev pub most_levels : ℕ
most_levels = 32

-- "priority 0 to 15": Swis keep sixteen levels, for No. 14 speaks of "task priority levels"
abbrev pub swi_levels : ℕ
swi_levels = 16

-- a line for each semaphore, mailbox and event, for each priority of a Swi, for the active Swis, and for each priority of a task
abbrev pub line_count : ℕ
line_count = semaphore_count + mailbox_count + event_count + swi_levels + 1 + most_levels

-- a line has room for every task, behind the number of those who stand there
abbrev pub line_most : ℕ
line_most = task_count

abbrev pub line_width : ℕ
line_width = 1 + line_most

-- "One heap of 256 units of 8 bytes"
abbrev pub heap_units : ℕ
heap_units = 256

abbrev pub unit_bytes : ℕ
unit_bytes = 8

-- "Interrupt depth 0 to 8"
abbrev pub most_depth : ℕ
most_depth = 8

-- the words of the state's one row
abbrev pub state_width : ℕ
state_width = 6

-- "All arguments are unsigned 32-bit; priority -1 is written 4,294,967,295"
abbrev pub word_end : ℕ
word_end = 2 ^ 32

abbrev pub minus_one : ℕ
minus_one = word_end - 1

-- "Limit 4,294,967,295 is without end."
abbrev pub forever : ℕ
forever = word_end - 1

-- ---- the words of a row, by name
-- of a semaphore, an event, a Swi, a clock
abbrev pub USED : ℕ
USED = 0

-- of a task
abbrev pub MODE : ℕ
MODE = 0

abbrev pub TASK-PRIORITY : ℕ
TASK-PRIORITY = 1

abbrev pub OBJECT : ℕ
OBJECT = 2

abbrev pub TASK-LEFT : ℕ
TASK-LEFT = 3

abbrev pub HELD : ℕ
HELD = 4

abbrev pub MASK : ℕ
MASK = 5

abbrev pub OUTCOME : ℕ
OUTCOME = 6

abbrev pub VALUE : ℕ
VALUE = 7

-- of a semaphore
abbrev pub KIND : ℕ
KIND = 1

abbrev pub COUNT : ℕ
COUNT = 2

-- of an event
abbrev pub BITS : ℕ
BITS = 1

-- of a mailbox
abbrev pub CAPACITY : ℕ
CAPACITY = 0

abbrev pub MESSAGES : ℕ
MESSAGES = 1

-- of a Swi
abbrev pub PRIORITY : ℕ
PRIORITY = 1

abbrev pub INITIAL : ℕ
INITIAL = 2

abbrev pub TRIGGER : ℕ
TRIGGER = 3

abbrev pub POSTED : ℕ
POSTED = 4

abbrev pub TAKEN : ℕ
TAKEN = 5

-- of a clock
abbrev pub CLOCK-SWI : ℕ
CLOCK-SWI = 1

abbrev pub CLOCK-FIRST : ℕ
CLOCK-FIRST = 2

abbrev pub PERIOD : ℕ
PERIOD = 3

abbrev pub CLOCK-LEFT : ℕ
CLOCK-LEFT = 4

-- of the state
abbrev pub DEPTH : ℕ
DEPTH = 0

abbrev pub SWIS : ℕ
SWIS = 1

abbrev pub TASKS : ℕ
TASKS = 2

abbrev pub TICK : ℕ
TICK = 3

abbrev pub CURRENT : ℕ
CURRENT = 4

abbrev pub LEVELS : ℕ
LEVELS = 5

-- ---- tasks: "Modes: running or ready (..), blocked, terminated, inactive (..)"; blocked is one of five
abbrev pub not_in_use : ℕ
not_in_use = 0

abbrev pub ready : ℕ
ready = 1

abbrev pub sleeping : ℕ
sleeping = 2

abbrev pub at_semaphore : ℕ
at_semaphore = 3

abbrev pub at_event : ℕ
at_event = 4

abbrev pub reading : ℕ
reading = 5

abbrev pub writing : ℕ
writing = 6

abbrev pub terminated : ℕ
terminated = 7

abbrev pub inactive : ℕ
inactive = 8

-- task i's row; all 0 where there is none. `object` is the semaphore, event or mailbox at which it waits, by its mode; `left` the ticks left of a
-- limited wait or sleep, 0 without end; `held` is a writer's word or an event waiter's and-mask, `mask` its or-mask
unfoldable pub task : TaskTable → ℕ → Task
task ts i =
    record {
      mode = field task_width task_count ts i MODE;
      priority = field task_width task_count ts i TASK-PRIORITY;
      object = field task_width task_count ts i OBJECT;
      left = field task_width task_count ts i TASK-LEFT;
      held = field task_width task_count ts i HELD;
      mask = field task_width task_count ts i MASK;
      outcome = field task_width task_count ts i OUTCOME;
      value = field task_width task_count ts i VALUE;
    }

abbrev pub task_words : Task → List ℕ
task_words k = k.mode ∷ k.priority ∷ k.object ∷ k.left ∷ k.held ∷ k.mask ∷ k.outcome ∷ k.value ∷ []

unfoldable pub with_task : TaskTable → ℕ → Task → TaskTable
with_task ts i k = with_row task_width task_count ts i (task_words k)

abbrev pub no_task : Task
no_task = record { mode = not_in_use; priority = 0; object = 0; left = 0; held = 0; mask = 0; outcome = 0; value = 0 }

-- ---- semaphores
abbrev pub semaphore : SemaphoreTable → ℕ → ℕ → ℕ
semaphore ss i f = field semaphore_width semaphore_count ss i f

abbrev pub with_semaphore : SemaphoreTable → ℕ → ℕ → ℕ → SemaphoreTable
with_semaphore ss i f x = with_field semaphore_width semaphore_count ss i f x

abbrev pub semaphore_row : SemaphoreTable → ℕ → List ℕ → SemaphoreTable
semaphore_row ss i ws = with_row semaphore_width semaphore_count ss i ws

-- ---- events
abbrev pub event : EventTable → ℕ → ℕ → ℕ
event es i f = field event_width event_count es i f

abbrev pub with_event : EventTable → ℕ → ℕ → ℕ → EventTable
with_event es i f x = with_field event_width event_count es i f x

abbrev pub event_row : EventTable → ℕ → List ℕ → EventTable
event_row es i ws = with_row event_width event_count es i ws

-- ---- mailboxes: a capacity of 0 is 'not in use'
abbrev pub mailbox : MailboxTable → ℕ → ℕ → ℕ
mailbox ms i f = field mailbox_width mailbox_count ms i f

abbrev pub with_mailbox : MailboxTable → ℕ → ℕ → ℕ → MailboxTable
with_mailbox ms i f x = with_field mailbox_width mailbox_count ms i f x

abbrev pub mailbox_row : MailboxTable → ℕ → List ℕ → MailboxTable
mailbox_row ms i ws = with_row mailbox_width mailbox_count ms i ws

-- the messages of mailbox i, the oldest first
unfoldable pub messages : MailboxTable → ℕ → List ℕ
messages ms i = if (ltb i mailbox_count) (listed mailbox_most ms (i * mailbox_width + MESSAGES)) []

-- more than a row has room for changes nothing
unfoldable pub with_messages : MailboxTable → ℕ → List ℕ → MailboxTable
with_messages ms i xs = if (ltb i mailbox_count && leb (length xs) mailbox_most) (with_listed mailbox_most ms (i * mailbox_width + MESSAGES) xs) ms

-- ---- Swis
abbrev pub swi : SwiTable → ℕ → ℕ → ℕ
swi ws i f = field swi_width swi_count ws i f

abbrev pub with_swi : SwiTable → ℕ → ℕ → ℕ → SwiTable
with_swi ws i f x = with_field swi_width swi_count ws i f x

abbrev pub swi_row : SwiTable → ℕ → List ℕ → SwiTable
swi_row ws i r = with_row swi_width swi_count ws i r

-- ---- clocks: no ticks left is 'stopped'
unfoldable pub clock : ClockTable → ℕ → Clock
clock cs i =
    record {
      used = field clock_width clock_count cs i USED;
      swi = field clock_width clock_count cs i CLOCK-SWI;
      first = field clock_width clock_count cs i CLOCK-FIRST;
      period = field clock_width clock_count cs i PERIOD;
      left = field clock_width clock_count cs i CLOCK-LEFT;
    }

abbrev pub clock_words : Clock → List ℕ
clock_words c = c.used ∷ c.swi ∷ c.first ∷ c.period ∷ c.left ∷ []

unfoldable pub with_clock : ClockTable → ℕ → Clock → ClockTable
with_clock cs i c = with_row clock_width clock_count cs i (clock_words c)

abbrev pub no_clock : Clock
no_clock = record { used = 0; swi = 0; first = 0; period = 0; left = 0 }

-- ---- the state: "Interrupt depth 0 to 8; a switch for Swis and one for tasks; the tick count"; the current task; and the number of levels
abbrev pub state : StateRow → ℕ → ℕ
state st f = get_or st f 0

abbrev pub with_state : StateRow → ℕ → ℕ → StateRow
with_state st f x = set st f x

-- No. 14: "The number of levels, 16 or 32, becomes part of the tables"; another number counts as 16
unfoldable pub levels : StateRow → ℕ
levels st = if (eqb (state st LEVELS) most_levels) most_levels few_levels

-- the current task; a number that is no task's counts as 0
unfoldable pub current : StateRow → ℕ
current st = if (ltb (state st CURRENT) task_count) (state st CURRENT) 0

-- ---- all tables: tasks, lines, semaphores, events, mailboxes, Swis, clocks, heap, state
abbrev pub tables : TaskTable → LineTable → SemaphoreTable → EventTable → MailboxTable → SwiTable → ClockTable → HeapMap → StateRow → Tables
tables ts ls ss es ms ws cs h st =
    record { tasks = ts; lines = ls; semaphores = ss; events = es; mailboxes = ms; swis = ws; clocks = cs; heap = h; state = st }

-- the same tables with the most levels
abbrev pub raised_state : StateRow → StateRow
raised_state st = with_state st LEVELS most_levels

abbrev pub raised : Tables → Tables
raised t = tables t.tasks t.lines t.semaphores t.events t.mailboxes t.swis t.clocks t.heap (raised_state t.state)

-- what their types say of them: each array's length. That a word is below 4,294,967,296 and a byte below 256 is said by its type too, and
-- no rule repeats it.
pub record Typed (t : Tables) : Type 0 where
  pub tasks : length t.tasks ≡ task_count * task_width
  pub lines : length t.lines ≡ line_count * line_width
  pub semaphores : length t.semaphores ≡ semaphore_count * semaphore_width
  pub events : length t.events ≡ event_count * event_width
  pub mailboxes : length t.mailboxes ≡ mailbox_count * mailbox_width
  pub swis : length t.swis ≡ swi_count * swi_width
  pub clocks : length t.clocks ≡ clock_count * clock_width
  pub heap : length t.heap ≡ heap_units
  pub state : length t.state ≡ state_width
