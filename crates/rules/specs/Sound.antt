-- 01, 'Sound tables': each rule once, as a formula. `sound` computes them all; `Sound` is the record of what they mean.
use Rattle.std.specs.Prelude.{ℕ, suc, ◌+◌, ◌-◌, ◌*◌, Bool, not, ◌&&◌, cond as if, ltb, leb, length, get_or}
use Rattle.rules.specs.Tables.{TaskTable, LineTable, SemaphoreTable, EventTable, MailboxTable, SwiTable, ClockTable, HeapMap, StateRow, task_count}
use Rattle.rules.specs.Tables.{swi_count, semaphore_count, event_count, mailbox_count, mailbox_width, mailbox_most, clock_count, heap_units, most_depth, few_levels}
use Rattle.rules.specs.Tables.{most_levels, swi_levels, levels, minus_one, forever, not_in_use, ready, sleeping, at_semaphore, at_event, reading, writing}
use Rattle.rules.specs.Tables.{terminated, inactive, task, semaphore, event, mailbox, swi, clock, state, USED, KIND, COUNT, BITS, CAPACITY, MESSAGES}
use Rattle.rules.specs.Tables.{PRIORITY, INITIAL, TRIGGER, POSTED, TAKEN, DEPTH, SWIS, TASKS, CURRENT, LEVELS}
use Rattle.basics.specs.Lists.{count}
use Rattle.basics.specs.Rule.{Rule, ◌is◌, ◌isnt◌, ◌under◌, test, ◌and◌, ◌or◌, ◌gives◌, each, every, holds, Means}
use Rattle.rules.specs.Rows.{behind}
use Rattle.rules.specs.Lines.{line_count, line_most, line_width, semaphore_line, mailbox_line, event_line, posted_line, active_line, line, front_of, task_home}
use Rattle.rules.specs.Lines.{swi_home}
use Rattle.rules.specs.Semaphores.{kind_count, most}
use Rattle.rules.specs.Events.{matched}
use Rattle.rules.specs.Heap.{unit, free, later_in}
use Rattle.rules.specs.Dispatch.{swi_due, task_due, front}
use Rattle.rules.specs.declared.Tables.{Tables}
use Rattle.rules.specs.declared.Task.{Task}
use Rattle.rules.specs.declared.Clock.{Clock}

-- ---- tasks: "All numbers are in this page's ranges, and what a call stored .. is as that call allows; task 0 is as said."
-- "Records not in use are all 0, and so are fields without meaning at the time (.., an ended wait's data, ..)"
abbrev pub no_wait : Task → Rule
no_wait k = (k.object is 0) and (k.left is 0) and (k.held is 0) and (k.mask is 0)

-- "Task 0 is the idle task, priority 0, always ready."
abbrev pub idle_rule : Task → Rule
idle_rule k = (k.mode is ready) and (k.priority is 0) and no_wait k and (k.outcome is 0) and (k.value is 0)

-- "Running clocks, sleeps (always limited) and limited waits have 1 or more ticks left": a wait without end has 0 there
abbrev pub wait_rule : Task → ℕ → Rule
wait_rule k n = (k.object under n) and (k.left under forever)

-- No. 14: "sound tables and code 4's range read with it": n is the number of levels
unfoldable pub other_rule : ℕ → Task → Rule
other_rule n k =
    (k.mode under suc inactive)
    and (k.outcome under 2)
    and (k.outcome is 1 gives k.value is 0)
    and (k.mode is not_in_use gives (k.priority is 0) and no_wait k and (k.outcome is 0) and (k.value is 0))
    and (k.mode is ready gives no_wait k)
    and (k.mode is sleeping gives (k.object is 0) and (k.left isnt 0) and (k.left under forever) and (k.held is 0) and (k.mask is 0))
    and (k.mode is at_semaphore gives wait_rule k semaphore_count and (k.held is 0) and (k.mask is 0))
    and (k.mode is at_event gives wait_rule k event_count and (k.held isnt 0 or k.mask isnt 0))
    and (k.mode is reading gives wait_rule k mailbox_count and (k.held is 0) and (k.mask is 0))
    and (k.mode is writing gives wait_rule k mailbox_count and (k.mask is 0))
    and (k.mode is terminated gives no_wait k)
    and (k.mode is inactive gives (k.priority is minus_one) and no_wait k)
    and (k.mode isnt not_in_use and k.mode isnt inactive gives (0 under k.priority) and (k.priority under n))

abbrev pub task_rule : ℕ → ℕ → Task → Rule
task_rule n i k = (i is 0 gives idle_rule k) and (i isnt 0 gives other_rule n k)

abbrev pub tasks_rule : ℕ → TaskTable → Rule
tasks_rule n ts = each task_count (λ i. task_rule n i (task ts i))

-- ---- lines: no more than 32 in a line, and zeros behind them
abbrev pub lines_rule : LineTable → Rule
lines_rule ls =
    each line_count (λ j. (get_or ls (j * line_width) 0 under suc line_most) and every (behind line_most ls (j * line_width)) (λ x. x is 0))

-- "Each ready task stands once, in its priority's queue. Each blocked task sleeps or stands once in one semaphore's or mailbox's line, or is the
-- one waiter of an event." "Posted Swis stand once in their priority's queue"
abbrev pub once_rule : ℕ → (ℕ → ℕ) → LineTable → Rule
once_rule n home ls = each n (λ i. home i under line_count gives count i (line ls (home i)) is 1)

-- "Nothing else stands in a queue or line or is an event's waiter."
abbrev pub is_posted : ℕ → Bool
is_posted j = leb (posted_line 0) j && ltb j active_line

abbrev pub home_in : TaskTable → SwiTable → ℕ → ℕ → ℕ
home_in ts ws j x = if (is_posted j) (swi_home ws x) (task_home ts x)

abbrev pub members_rule : TaskTable → SwiTable → LineTable → Rule
members_rule ts ws ls = each line_count (λ j. j isnt active_line gives every (line ls j) (λ x. home_in ts ws j x is j))

-- ---- semaphores: "A semaphore with waiters has count 0, a binary one at most 1."
unfoldable pub semaphore_rule : SemaphoreTable → LineTable → ℕ → Rule
semaphore_rule ss ls s =
    (semaphore ss s USED under 2)
    and (semaphore ss s USED is 0 gives (semaphore ss s KIND is 0) and (semaphore ss s COUNT is 0) and (length (line ls (semaphore_line s)) is 0))
    and (semaphore ss s KIND under kind_count)
    and (semaphore ss s COUNT under suc (most (semaphore ss s KIND)))
    and (length (line ls (semaphore_line s)) isnt 0 gives semaphore ss s COUNT is 0)

abbrev pub semaphores_rule : SemaphoreTable → LineTable → Rule
semaphores_rule ss ls = each semaphore_count (semaphore_rule ss ls)

-- ---- events: "the one waiter of an event"; "An event's waiter is not satisfied by its posted bits."
unfoldable pub event_rule : TaskTable → EventTable → LineTable → ℕ → Rule
event_rule ts es ls e =
    (event es e USED under 2)
    and (event es e USED is 0 gives (event es e BITS is 0) and (length (line ls (event_line e)) is 0))
    and (length (line ls (event_line e)) under 2)
    and (length (line ls (event_line e)) isnt 0
    gives matched (event es e BITS) (task ts (front_of ls (event_line e))).held (task ts (front_of ls (event_line e))).mask is 0)

abbrev pub events_rule : TaskTable → EventTable → LineTable → Rule
events_rule ts es ls = each event_count (event_rule ts es ls)

-- ---- mailboxes: "Readers wait only at an empty mailbox, writers only at a full one."
unfoldable pub mailbox_rule : TaskTable → MailboxTable → LineTable → ℕ → Rule
mailbox_rule ts ms ls m =
    (mailbox ms m CAPACITY under suc mailbox_most)
    and (mailbox ms m MESSAGES under suc (mailbox ms m CAPACITY))
    and every (behind mailbox_most ms (m * mailbox_width + MESSAGES)) (λ x. x is 0)
    and (mailbox ms m CAPACITY is 0 gives length (line ls (mailbox_line m)) is 0)
    and every (line ls (mailbox_line m)) (λ x.
    ((task ts x).mode is reading gives mailbox ms m MESSAGES is 0)
    and ((task ts x).mode is writing gives mailbox ms m MESSAGES is mailbox ms m CAPACITY))

abbrev pub mailboxes_rule : TaskTable → MailboxTable → LineTable → Rule
mailboxes_rule ts ms ls = each mailbox_count (mailbox_rule ts ms ls)

-- ---- Swis: "the taken trigger of a Swi not active" is 0, and so that of one not in use, which is not active
unfoldable pub swi_rule : SwiTable → LineTable → ℕ → Rule
swi_rule ws ls i =
    (swi ws i USED under 2)
    and (swi ws i USED is 0
    gives (swi ws i PRIORITY is 0) and (swi ws i INITIAL is 0) and (swi ws i TRIGGER is 0) and (swi ws i POSTED is 0))
    and (swi ws i PRIORITY under swi_levels)
    and (swi ws i POSTED under 2)
    and (count i (line ls active_line) is 0 gives swi ws i TAKEN is 0)

abbrev pub swis_rule : SwiTable → LineTable → Rule
swis_rule ws ls = each swi_count (swi_rule ws ls)

-- "active Swis are in use and rise strictly in priority"
abbrev pub active_rule : SwiTable → LineTable → Rule
active_rule ws ls =
    every (line ls active_line) (λ x. swi ws x USED is 1)
    and each (length (line ls active_line) - 1) (λ k.
    swi ws (get_or (line ls active_line) k 0) PRIORITY under swi ws (get_or (line ls active_line) (suc k) 0) PRIORITY)

-- ---- clocks: "a clock names a Swi in use"; "first ticks from 1"
unfoldable pub clock_rule : SwiTable → Clock → Rule
clock_rule ws k =
    (k.used under 2)
    and (k.used is 0 gives (k.swi is 0) and (k.first is 0) and (k.period is 0) and (k.left is 0))
    and (k.used is 1 gives (swi ws k.swi USED is 1) and (k.first isnt 0))

abbrev pub clocks_rule : ClockTable → SwiTable → Rule
clocks_rule cs ws = each clock_count (λ n. clock_rule ws (clock cs n))

-- ---- the heap: "A heap entry is free, first of a block or later in one; a later one never stands first or after a free one."
abbrev pub heap_rule : HeapMap → Rule
heap_rule h = each heap_units (λ u. (unit h u under suc later_in) and (unit h u is later_in gives (u isnt 0) and (unit h (u - 1) isnt free)))

-- ---- the state: "Interrupt depth 0 to 8; a switch for Swis and one for tasks"; "The current task is ready"; No. 14: "The number of levels, 16 or
-- 32"
abbrev pub state_rule : TaskTable → StateRow → Rule
state_rule ts st =
    (state st DEPTH under suc most_depth)
    and (state st SWIS under 2)
    and (state st TASKS under 2)
    and (state st CURRENT under task_count)
    and ((task ts (state st CURRENT)).mode is ready)
    and (state st LEVELS is few_levels or state st LEVELS is most_levels)

-- "and the dispatch rule has nothing left to do"
abbrev pub dispatch_rule : SwiTable → LineTable → StateRow → Rule
dispatch_rule ws ls st = test (not (swi_due ws ls st)) and (test (task_due ls st) gives state st CURRENT is front (levels st) ls)

-- ---- all of them
unfoldable pub sound : Tables → Bool
sound t =
    holds (state_rule t.tasks t.state)
    && holds (heap_rule t.heap)
    && holds (clocks_rule t.clocks t.swis)
    && holds (tasks_rule (levels t.state) t.tasks)
    && holds (lines_rule t.lines)
    && holds (members_rule t.tasks t.swis t.lines)
    && holds (once_rule task_count (task_home t.tasks) t.lines)
    && holds (once_rule swi_count (swi_home t.swis) t.lines)
    && holds (semaphores_rule t.semaphores t.lines)
    && holds (events_rule t.tasks t.events t.lines)
    && holds (mailboxes_rule t.tasks t.mailboxes t.lines)
    && holds (swis_rule t.swis t.lines)
    && holds (active_rule t.swis t.lines)
    && holds (dispatch_rule t.swis t.lines t.state)

pub record Sound (t : Tables) : Type 0 where
  pub state : Means (state_rule t.tasks t.state)
  pub heap : Means (heap_rule t.heap)
  pub clocks : Means (clocks_rule t.clocks t.swis)
  pub tasks : Means (tasks_rule (levels t.state) t.tasks)
  pub lines : Means (lines_rule t.lines)
  pub members : Means (members_rule t.tasks t.swis t.lines)
  pub task_once : Means (once_rule task_count (task_home t.tasks) t.lines)
  pub swi_once : Means (once_rule swi_count (swi_home t.swis) t.lines)
  pub semaphores : Means (semaphores_rule t.semaphores t.lines)
  pub events : Means (events_rule t.tasks t.events t.lines)
  pub mailboxes : Means (mailboxes_rule t.tasks t.mailboxes t.lines)
  pub swis : Means (swis_rule t.swis t.lines)
  pub active : Means (active_rule t.swis t.lines)
  pub dispatch : Means (dispatch_rule t.swis t.lines t.state)
