-- 01, 'The tables': "The fresh state has task 0 only, both switches on, depth 0, tick 0, heap free." No. 14: with 16 or 32 levels.
use Rattle.std.specs.Prelude.{ℕ, ◌-◌, ◌*◌, Bool, ◌||◌, cond as if, [], ◌∷◌, ◌++◌, eqb}
use Rattle.rules.specs.Tables.{TaskTable, LineTable, SemaphoreTable, EventTable, MailboxTable, SwiTable, ClockTable, HeapMap, StateRow, task_count}
use Rattle.rules.specs.Tables.{task_width, swi_count, swi_width, semaphore_count, semaphore_width, event_count}
use Rattle.rules.specs.Tables.{event_width, mailbox_count, mailbox_width, clock_count, clock_width, heap_units, line_width, few_levels, most_levels, tables, ready}
use Rattle.rules.specs.Lines.{ready_line}
use Rattle.basics.specs.Lists.{zeros}
use Rattle.rules.specs.Answer.{answer}
use Rattle.rules.specs.Step.{step_of}
use Rattle.rules.specs.declared.Tables.{Tables}
use Rattle.rules.specs.declared.Step.{Step}
use Rattle.rules.specs.declared.Thread.TheVariants.{Task}

-- "Task 0 is the idle task, priority 0, always ready."; "A fresh task's last result is outcome 0, value 0."
abbrev pub fresh_tasks : TaskTable
fresh_tasks = ready ∷ zeros (task_count * task_width - 1)

-- task 0 alone stands in a queue, that of priority 0: the lines before it are empty, one stands there, and all behind it is 0
abbrev pub fresh_lines : LineTable
fresh_lines = zeros (ready_line 0 * line_width) ++ (1 ∷ zeros (most_levels * line_width - 1))

-- no row in use
abbrev pub no_semaphores : SemaphoreTable
no_semaphores = zeros (semaphore_count * semaphore_width)

abbrev pub no_events : EventTable
no_events = zeros (event_count * event_width)

abbrev pub no_mailboxes : MailboxTable
no_mailboxes = zeros (mailbox_count * mailbox_width)

abbrev pub no_swis : SwiTable
no_swis = zeros (swi_count * swi_width)

abbrev pub no_clocks : ClockTable
no_clocks = zeros (clock_count * clock_width)

abbrev pub free_heap : HeapMap
free_heap = zeros heap_units

-- depth 0, Swis on, tasks on, tick 0, current 0, and the number of levels
abbrev pub fresh_state : ℕ → StateRow
fresh_state n = 0 ∷ 1 ∷ 1 ∷ 0 ∷ 0 ∷ n ∷ []

-- of n levels
unfoldable pub fresh_with : ℕ → Tables
fresh_with n = tables fresh_tasks fresh_lines no_semaphores no_events no_mailboxes no_swis no_clocks free_heap (fresh_state n)

-- of 16, as 01 has them
abbrev pub fresh : Tables
fresh = fresh_with few_levels

-- No. 14: "The number of levels, 16 or 32"
abbrev pub is_levels : ℕ → Bool
is_levels n = eqb n few_levels || eqb n most_levels

-- No. 14: "fresh tables asked for with other levels are 4 and come with 16"; task 0 runs
unfoldable pub made_fresh : ℕ → Step
made_fresh n =
    if (is_levels n) (step_of (fresh_with n) (answer 0 0 0) (Task 0))
    (step_of fresh (answer 4 0 0) (Task 0))
