-- Two sets of sound tables, and words of them to be changed.
use Prim.Native.Nat.{ℕ, ◌+◌, ◌-◌, ◌*◌}
use mathlib.Core.Path.{◌≡◌, refl}
use mathlib.Core.Bool.{true}
use mathlib.Core.List.{List, [], ◌∷◌, ◌++◌}
use lib.ListN.{length, set}
use Rattle.basics.specs.Lists.{zeros}
use Rattle.rules.specs.Fresh.{no_semaphores, no_events, no_mailboxes, no_swis, no_clocks, free_heap}
use Rattle.rules.specs.Rows.{with_field}
use Rattle.rules.specs.Tables.{swi_count, swi_width, semaphore_count, semaphore_width, event_count, event_width, heap_units, few_levels}
use Rattle.rules.specs.Tables.{task_count, task_width, mailbox_count, mailbox_width, clock_count, clock_width, minus_one, ready, sleeping, at_semaphore}
use Rattle.rules.specs.Tables.{at_event, reading, writing, terminated, inactive, with_semaphore, with_event, with_swi, with_state, tables}
use Rattle.rules.specs.Lines.{line_width, with_line, semaphore_line, mailbox_line, event_line, posted_line, active_line, ready_line}
use Rattle.rules.specs.Sound.{sound}
use Rattle.rules.specs.declared.Tables.{Tables}
use Rattle.rules.proofs.Computed.{computed}
use Rattle.rules.proofs.Standing.{lines_with, ◌has◌}

-- n rows of w words: these, each with zeros behind its words, and rows of zeros behind them
abbrev table_of : ℕ → ℕ → List (List ℕ) → List ℕ
table_of w n [] = zeros (n * w)
table_of w n (r ∷ rs) = r ++ (zeros (w - length r) ++ table_of w (n - 1) rs)

-- ---- tables in which something of each kind is going on; two Swis are active, task 1 is the current one
-- mode, priority, object, left, first, second, outcome, value
abbrev busy_tasks : List ℕ
busy_tasks =
    table_of task_width task_count
    ((ready ∷ [])
    ∷ (ready ∷ 5 ∷ [])
    ∷ (sleeping ∷ 4 ∷ 0 ∷ 3 ∷ [])
    ∷ (at_semaphore ∷ 4 ∷ [])
    ∷ (at_event ∷ 4 ∷ 0 ∷ 2 ∷ 3 ∷ [])
    ∷ (reading ∷ 4 ∷ [])
    ∷ (writing ∷ 4 ∷ 1 ∷ 0 ∷ 9 ∷ [])
    ∷ (terminated ∷ 4 ∷ 0 ∷ 0 ∷ 0 ∷ 0 ∷ 1 ∷ [])
    ∷ (inactive ∷ minus_one ∷ [])
    ∷ (ready ∷ 3 ∷ 0 ∷ 0 ∷ 0 ∷ 0 ∷ 0 ∷ 12 ∷ [])
    ∷ [])

abbrev busy_lines : List ℕ
unfolding lines_with
busy_lines =
    lines_with
    (ready_line 0 has (0 ∷ [])
    ∷ ready_line 5 has (1 ∷ [])
    ∷ ready_line 3 has (9 ∷ [])
    ∷ semaphore_line 0 has (3 ∷ [])
    ∷ event_line 0 has (4 ∷ [])
    ∷ mailbox_line 0 has (5 ∷ [])
    ∷ mailbox_line 1 has (6 ∷ [])
    ∷ active_line has (0 ∷ 1 ∷ [])
    ∷ posted_line 6 has (2 ∷ [])
    ∷ [])

unfoldable pub busy : Tables
unfolding lines_with
busy =
    tables busy_tasks busy_lines
    -- used, kind, count: task 3 waits at semaphore 0, semaphore 1 is binary, semaphore 2 is counting by priority
    (table_of semaphore_width semaphore_count ((1 ∷ 0 ∷ 0 ∷ []) ∷ (1 ∷ 1 ∷ 1 ∷ []) ∷ (1 ∷ 2 ∷ 3 ∷ []) ∷ []))
    -- used, bits: task 4 waits at event 0 for bits 3
    (table_of event_width event_count ((1 ∷ 1 ∷ []) ∷ (1 ∷ 5 ∷ []) ∷ []))
    -- capacity, messages there, the words: task 5 reads from mailbox 0, task 6 writes to mailbox 1
    (table_of mailbox_width mailbox_count ((2 ∷ []) ∷ (1 ∷ 1 ∷ 7 ∷ []) ∷ (3 ∷ 1 ∷ 4 ∷ []) ∷ []))
    -- used, priority, initial, trigger, posted, taken: 0 and 1 are active, 2 is posted
    (table_of swi_width swi_count ((1 ∷ 3 ∷ 5 ∷ 5 ∷ 0 ∷ 2 ∷ []) ∷ (1 ∷ 6 ∷ 0 ∷ 1 ∷ 0 ∷ 4 ∷ []) ∷ (1 ∷ 6 ∷ 0 ∷ 0 ∷ 1 ∷ []) ∷ (1 ∷ 2 ∷ []) ∷ []))
    -- used, swi, first, period, left: clock 0 runs, clock 1 is stopped
    (table_of clock_width clock_count ((1 ∷ 3 ∷ 2 ∷ 0 ∷ 1 ∷ []) ∷ (1 ∷ 3 ∷ 4 ∷ 1 ∷ []) ∷ []))
    -- a block of three units, a free one, a block of one
    (1 ∷ 2 ∷ 2 ∷ 0 ∷ 1 ∷ zeros (heap_units - 5))
    -- depth, Swis on, tasks on, tick, current, levels
    (0 ∷ 1 ∷ 1 ∷ 7 ∷ 1 ∷ few_levels ∷ [])

pub busy-sound : sound busy ≡ true
unfolding computed lines_with busy
busy-sound = refl

-- ---- tables in which tasks are off: task 0 goes on, although task 1 is ready at 5
unfoldable pub held : Tables
unfolding lines_with
held =
    tables (table_of task_width task_count ((ready ∷ []) ∷ (ready ∷ 5 ∷ []) ∷ []))
    (lines_with (ready_line 0 has (0 ∷ []) ∷ ready_line 5 has (1 ∷ []) ∷ []))
    no_semaphores no_events no_mailboxes no_swis no_clocks free_heap
    (0 ∷ 1 ∷ 0 ∷ 0 ∷ 0 ∷ few_levels ∷ [])

pub held-sound : sound held ≡ true
unfolding computed lines_with held
held-sound = refl

-- ---- one word changed: the row, the word, what it is now
abbrev pub task_is : ℕ → ℕ → ℕ → Tables → Tables
task_is i f x t =
    tables (with_field task_width task_count t.tasks i f x) t.lines t.semaphores t.events t.mailboxes t.swis t.clocks t.heap
    t.state

abbrev pub semaphore_is : ℕ → ℕ → ℕ → Tables → Tables
semaphore_is i f x t =
    tables t.tasks t.lines (with_semaphore t.semaphores i f x) t.events t.mailboxes t.swis t.clocks t.heap t.state

abbrev pub event_is : ℕ → ℕ → ℕ → Tables → Tables
event_is i f x t =
    tables t.tasks t.lines t.semaphores (with_event t.events i f x) t.mailboxes t.swis t.clocks t.heap t.state

abbrev pub mailbox_is : ℕ → ℕ → ℕ → Tables → Tables
mailbox_is i f x t =
    tables t.tasks t.lines t.semaphores t.events (with_field mailbox_width mailbox_count t.mailboxes i f x) t.swis t.clocks
    t.heap t.state

abbrev pub swi_is : ℕ → ℕ → ℕ → Tables → Tables
swi_is i f x t =
    tables t.tasks t.lines t.semaphores t.events t.mailboxes (with_swi t.swis i f x) t.clocks t.heap t.state

abbrev pub clock_is : ℕ → ℕ → ℕ → Tables → Tables
clock_is i f x t =
    tables t.tasks t.lines t.semaphores t.events t.mailboxes t.swis (with_field clock_width clock_count t.clocks i f x) t.heap
    t.state

abbrev pub unit_is : ℕ → ℕ → Tables → Tables
unit_is u x t =
    tables t.tasks t.lines t.semaphores t.events t.mailboxes t.swis t.clocks (set t.heap u x) t.state

abbrev pub state_is : ℕ → ℕ → Tables → Tables
state_is f x t =
    tables t.tasks t.lines t.semaphores t.events t.mailboxes t.swis t.clocks t.heap (with_state t.state f x)

-- a byte of line j: 0 is how many stand there
abbrev pub byte_is : ℕ → ℕ → ℕ → Tables → Tables
byte_is j k x t =
    tables t.tasks (set t.lines (j * line_width + k) x) t.semaphores t.events t.mailboxes t.swis t.clocks t.heap t.state

-- who stands in line j
abbrev pub line_is : ℕ → List ℕ → Tables → Tables
line_is j xs t =
    tables t.tasks (with_line t.lines j xs) t.semaphores t.events t.mailboxes t.swis t.clocks t.heap t.state
