-- The run of demand 3's worked example, computed from the definitions. Tasks 1, 2 and 3, all of priority 5, wait at semaphore 0: task 1 with a
-- limit of two ticks, 2 and 3 without end. Task 3 is the one to look at: it begins to wait behind 1 and 2, and is readied behind 1 and 2.
use Prim.Native.Nat.{ℕ}
use mathlib.Core.Path.{refl}
use mathlib.Core.List.{List, [], ◌∷◌}
use native.Mathlib.Omega.{arith}
use Rattle.rules.specs.Tables.{forever, minus_one, ready, at_semaphore, terminated, tables}
use Rattle.rules.specs.Lines.{semaphore_line, ready_line}
use Rattle.rules.specs.Fresh.{fresh, no_events, no_mailboxes, no_swis, no_clocks, free_heap}
use Rattle.rules.specs.declared.Tables.{Tables}
use Rattle.rules_laws.proofs.Runs.{Line, ◌⇒◌, asked, said, T, I, create_task, set_priority, yield, end, last_result, create_semaphore, delete_semaphore, pend, post}
use Rattle.rules_laws.proofs.Runs.{tasks_off, restore_tasks, interrupt_in, interrupt_out, tick}
use Rattle.rules.proofs.Computed.{computed}
use Rattle.rules.proofs.Standing.{lines_with, ◌has◌}
use Rattle.rules_laws.proofs.Fresh.{fresh-typed, fresh-is-sound}
use Rattle.demands_examples.proofs.Rows.{tasks_of, semaphores_of, state_of}
use Rattle.demand_2_soundness.proofs.RunsBySteps.{in_words}
use Rattle.demands_examples.proofs.BySteps.{pass, Leads, leads, anything}
use Rattle.demands_examples.proofs.Told.{Story, tell, Shown, shows}

-- ---- the calls, and what each says: code, outcome, value, thread
abbrev pub setup : List Line
setup =
    create_semaphore 0 0 ⇒ said 0 0 0 (T 0)
    ∷ create_semaphore 0 65535 ⇒ said 0 0 1 (T 0)
    ∷ create_task 5 ⇒ said 0 0 1 (T 1)
    ∷ pend 0 2 ⇒ said 0 2 0 (T 0)
    ∷ create_task 5 ⇒ said 0 0 2 (T 2)
    ∷ pend 0 forever ⇒ said 0 2 0 (T 0)
    ∷ create_task 5 ⇒ said 0 0 3 (T 3)
    ∷ []

-- refused calls with seven codes; two ticks, with which task 1's limit runs out; and a post, which readies task 2
abbrev pub flood : List Line
flood =
    asked 0x79 0 0 0 0 ⇒ said 1 0 0 (T 0)
    ∷ tick ⇒ said 2 0 0 (T 0)
    ∷ post 7 ⇒ said 11 0 3 (T 0)
    ∷ asked 0x23 0 1 0 0 ⇒ said 4 0 0 (T 0)
    ∷ delete_semaphore 0 ⇒ said 5 0 0 (T 0)
    ∷ set_priority 3 minus_one ⇒ said 5 0 0 (T 0)
    ∷ post 1 ⇒ said 7 0 0 (T 0)
    ∷ tasks_off ⇒ said 0 0 2 (T 0)
    ∷ yield ⇒ said 9 0 0 (T 0)
    ∷ restore_tasks 2 ⇒ said 0 0 0 (T 0)
    ∷ interrupt_in ⇒ said 0 0 0 I
    ∷ tick ⇒ said 0 0 0 I
    ∷ tick ⇒ said 0 0 0 I
    ∷ last_result 1 ⇒ said 0 1 0 I
    ∷ interrupt_out ⇒ said 0 0 0 (T 1)
    ∷ post 0 ⇒ said 0 0 2 (T 1)
    ∷ []

-- task 1 yields, a task joins behind, a tick and the third post, which counts, and task 2 ends
abbrev pub queueing : List Line
queueing =
    yield ⇒ said 0 0 0 (T 2)
    ∷ create_task 5 ⇒ said 0 0 4 (T 2)
    ∷ interrupt_in ⇒ said 0 0 0 I
    ∷ tick ⇒ said 0 0 0 I
    ∷ post 0 ⇒ said 0 0 0 I
    ∷ interrupt_out ⇒ said 0 0 0 (T 2)
    ∷ end ⇒ said 0 0 0 (T 3)
    ∷ []

-- ---- the tables on the way: rows of tasks 1 to 4, waiters at semaphore 0, ready tasks of priority 5, the count, the ticks, the current task
unfoldable pub tables_of : List (List ℕ) → List ℕ → List ℕ → ℕ → ℕ → ℕ → Tables
tables_of rows waiters queue count ticks current =
    tables (tasks_of rows)
    (lines_with (semaphore_line 0 has waiters ∷ ready_line 0 has (0 ∷ []) ∷ ready_line 5 has queue ∷ []))
    (semaphores_of ((1 ∷ 0 ∷ count ∷ []) ∷ (1 ∷ 0 ∷ 65535 ∷ []) ∷ [])) no_events no_mailboxes no_swis no_clocks free_heap (state_of ticks current)

-- a row: mode, priority, object, left, first, second, outcome, value
abbrev pub row : ℕ → ℕ → ℕ → List ℕ
row mode left outcome = mode ∷ 5 ∷ 0 ∷ left ∷ 0 ∷ 0 ∷ outcome ∷ 0 ∷ []

unfoldable pub start : Tables
start = tables_of (row at_semaphore 2 0 ∷ row at_semaphore 0 0 ∷ row ready 0 0 ∷ []) (1 ∷ 2 ∷ []) (3 ∷ []) 0 0 3

unfoldable pub begun : Tables
begun = tables_of (row at_semaphore 2 0 ∷ row at_semaphore 0 0 ∷ row at_semaphore 0 0 ∷ []) (1 ∷ 2 ∷ 3 ∷ []) [] 0 0 0

unfoldable pub flooded : Tables
flooded = tables_of (row ready 0 1 ∷ row ready 0 0 ∷ row at_semaphore 0 0 ∷ []) (3 ∷ []) (1 ∷ 2 ∷ []) 0 2 1

unfoldable pub moment : Tables
moment = tables_of (row ready 0 1 ∷ row ready 0 0 ∷ row ready 0 0 ∷ []) [] (1 ∷ 2 ∷ 3 ∷ []) 0 2 1

unfoldable pub ending : Tables
ending = tables_of (row ready 0 1 ∷ row terminated 0 0 ∷ row ready 0 0 ∷ row ready 0 0 ∷ []) [] (3 ∷ 1 ∷ 4 ∷ []) 1 3 3

pub to_start : Leads anything 0 fresh setup 0 start
unfolding computed lines_with tables_of pass in_words start
to_start = leads anything 0 fresh fresh-typed fresh-is-sound setup 0 start refl refl

-- ---- the story: one accepted post in the flood, and one once task 3 is ready
abbrev pub story : Story
story = tell 3 5 (1 ∷ 2 ∷ []) flood 1 queueing 1 start begun flooded moment ending

pub shown : Shown story
unfolding computed lines_with tables_of pass in_words start begun flooded moment ending
shown =
    shows story setup fresh to_start ((refl, refl), (refl, refl), (refl, refl), (refl, refl))
    ((refl, refl, refl), (refl, refl), ((refl, refl), refl, refl), (refl, refl), (refl, refl), (refl, refl, refl)) (omega arith, omega arith)
