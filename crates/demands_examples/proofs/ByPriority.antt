-- Why demand 3 speaks of arrival order alone: at a semaphore of kind 2 it does not hold. Task 1 of priority 5 begins to wait there without end, with
-- nobody before it, so that k is 0. Task 2 of priority 6 comes later, stands before it, and the one post readies task 2.
use Prim.Native.Nat.{ℕ}
use mathlib.Core.Path.{◌≡◌, refl}
use mathlib.Core.List.{List, [], ◌∷◌}
use native.Mathlib.Omega.{arith}
use Rattle.rules.specs.Answer.{now_waiting}
use Rattle.rules.specs.Tables.{forever, ready, at_semaphore, tables, current, semaphore, KIND}
use Rattle.rules.specs.Lines.{line, semaphore_line, ready_line}
use Rattle.rules.specs.Fresh.{fresh, no_events, no_mailboxes, no_swis, no_clocks, free_heap}
use Rattle.rules.specs.declared.Tables.{Tables}
use Rattle.rules_laws.proofs.Runs.{Line, ◌⇒◌, said, says, calls, T, create_task, create_semaphore, post}
use Rattle.rules_laws.proofs.Runs as Runs
use Rattle.rules.proofs.Computed.{computed}
use Rattle.rules.proofs.Standing.{lines_with, ◌has◌}
use Rattle.runs.specs.Run.{made, after}
use Rattle.runs.specs.Turn.{BlockedOn}
use Rattle.rules_laws.proofs.Fresh.{fresh-typed, fresh-is-sound}
use Rattle.demands.specs.Three.{pend, Waits, Turn}
use Rattle.demands_examples.proofs.Rows.{tasks_of, semaphores_of, state_of}
use Rattle.demand_2_soundness.proofs.RunsBySteps.{asks, in_words}
use Rattle.demands_examples.proofs.BySteps.{pass, Leads, leads, anything, blocked, stays-blocked, not-served}
use Rattle.demands_examples.proofs.Told.{beginning}
use Rattle.demands_examples.proofs.Stated.{Begun, Begins, begun-there}

abbrev pub setup : List Line
setup = create_semaphore 2 0 ⇒ said 0 0 0 (T 0) ∷ create_task 5 ⇒ said 0 0 1 (T 1) ∷ []

abbrev pub overtaking : List Line
overtaking = create_task 6 ⇒ said 0 0 2 (T 2) ∷ Runs.pend 0 forever ⇒ said 0 2 0 (T 0) ∷ post 0 ⇒ said 0 0 2 (T 2) ∷ []

-- the mode of task 1, the mode and priority of task 2, who waits at the semaphore, who is ready at 5 and at 6, the current task
unfoldable pub tables_of : ℕ → ℕ → ℕ → List ℕ → List ℕ → List ℕ → ℕ → Tables
tables_of one two priority waiters at5 at6 current =
    tables (tasks_of ((one ∷ 5 ∷ []) ∷ (two ∷ priority ∷ []) ∷ []))
    (lines_with (semaphore_line 0 has waiters ∷ ready_line 0 has (0 ∷ []) ∷ ready_line 5 has at5 ∷ ready_line 6 has at6 ∷ []))
    (semaphores_of ((1 ∷ 2 ∷ []) ∷ [])) no_events no_mailboxes no_swis no_clocks free_heap (state_of 0 current)

unfoldable pub start : Tables
start = tables_of ready 0 0 [] (1 ∷ []) [] 1

unfoldable pub begun : Tables
begun = tables_of at_semaphore 0 0 (1 ∷ []) [] [] 0

unfoldable pub overtaken : Tables
overtaken = tables_of at_semaphore ready 6 (1 ∷ []) [] (2 ∷ []) 2

pub to_start : Leads anything 0 fresh setup 0 start
unfolding computed lines_with tables_of pass in_words start
to_start = leads anything 0 fresh fresh-typed fresh-is-sound setup 0 start refl refl

pub to-begun : Leads anything 0 start beginning 0 begun
unfolding computed lines_with tables_of pass in_words start begun
to-begun = leads anything 0 start to_start.typed to_start.sound beginning 0 begun refl refl

-- one accepted post, and task 1 is blocked all along
pub to-overtaken : Leads (blocked 0 1) 0 begun overtaking 1 overtaken
unfolding computed lines_with tables_of pass in_words begun overtaken
to-overtaken = leads (blocked 0 1) 0 begun to-begun.typed to-begun.sound overtaking 1 overtaken refl refl

pub in_start : (semaphore start.semaphores 0 KIND ≡ 2) × (current start.state ≡ 1) × (line start.lines (semaphore_line 0) ≡ [])
unfolding computed lines_with tables_of start
in_start = (refl, refl, refl)

pub waits : (made start (pend 0)).answer.outcome ≡ now_waiting
unfolding says
waits = let e = to-begun.answers.so in cc

-- and after the post too
pub in-overtaken : BlockedOn 0 1 overtaken
unfolding computed tables_of overtaken
in-overtaken = (refl, refl)

-- ---- so no call of these served it
begins : Begins 3 start 1 [] begun
unfolding after
begins =
    let (kind, task, behind) = in_start in
    record { typed = to_start.typed; sound = to_start.sound; kind = omega arith; waits = waits; task = task; behind = behind; now = to-begun.now }

pub not-in-turn : Waits 0 1 0 begun → ⊥
not-in-turn w =
    not-served 0 1 0 begun (asks (calls overtaking))
    (stays-blocked 0 1 begun (asks (calls overtaking)) to-overtaken.all (rw to-overtaken.now in-overtaken))
    (w.in_time (asks (calls overtaking)) to-overtaken.words (omega (arith, to-overtaken.posts)))

-- demand 3 with kind 2 among the kinds is not true
pub not-with-kind-2 : Begun 3 Turn → ⊥
not-with-kind-2 every = not-in-turn (begun-there 3 Turn start 1 [] begun begins every).waits
