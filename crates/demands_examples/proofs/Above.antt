-- Demand 3's worked example at a priority above 15, with 32 levels: tasks 1 and 2 of priority 20 wait without end at semaphore 0. Task 2 is the one to
-- look at: k is 1, one accepted post comes before the one that readies it, and in its queue it stands behind task 1, which ends.
use Prim.Native.Nat.{ℕ, ◌<◌}
use mathlib.Core.Path.{◌≡◌, refl, sym}
use mathlib.Core.Logic.{◌≢◌, ⊎_elim}
use mathlib.Core.List.{List, [], ◌∷◌}
use native.Mathlib.Omega.{arith}
use borrow.Author.Tests.{ne_eqb}
use Rattle.basics.specs.Lists.{count, ahead}
use Rattle.basics.proofs.Laws.{same?}
use Rattle.rules.specs.Tables.{most_levels, forever, ready, at_semaphore, terminated, tables}
use Rattle.rules.specs.Lines.{semaphore_line, ready_line}
use Rattle.rules.specs.Dispatch.{running}
use Rattle.rules.specs.Fresh.{fresh_with, made_fresh, no_events, no_mailboxes, no_swis, no_clocks, free_heap}
use Rattle.rules.specs.declared.Tables.{Tables}
use Rattle.rules.specs.declared.Thread.TheVariants.{Task}
use Rattle.rules_laws.proofs.Runs.{Line, ◌⇒◌, said, T, create_task, end, create_semaphore, pend, post}
use Rattle.rules.proofs.Computed.{computed}
use Rattle.rules.proofs.Standing.{lines_with, ◌has◌}
use Rattle.runs.specs.Turn.{ServedIn, queue_at, AtFront, Gone}
use Rattle.demands.specs.Three.{Turn}
use Rattle.demands.proofs.Two.{made-fresh-safe}
use Rattle.demands_examples.proofs.Rows.{tasks_of, semaphores_of}
use Rattle.demand_2_soundness.proofs.RunsBySteps.{in_words}
use Rattle.demands_examples.proofs.BySteps.{pass, Leads, leads, anything, gone-at-last}
use Rattle.demands_examples.proofs.Told.{Story, tell, Shown, shows, later}
use Rattle.demands_examples.proofs.Told as Told

-- ---- the calls, and what each says: code, outcome, value, thread
abbrev pub setup : List Line
setup =
    create_semaphore 0 0 ⇒ said 0 0 0 (T 0)
    ∷ create_task 20 ⇒ said 0 0 1 (T 1)
    ∷ pend 0 forever ⇒ said 0 2 0 (T 0)
    ∷ create_task 20 ⇒ said 0 0 2 (T 2)
    ∷ []

-- a task of priority 15 runs, until a post readies task 1
abbrev pub flood : List Line
flood = create_task 15 ⇒ said 0 0 3 (T 3) ∷ post 0 ⇒ said 0 0 1 (T 1) ∷ []

abbrev pub queueing : List Line
queueing = end ⇒ said 0 0 0 (T 2) ∷ []

-- ---- the tables on the way: rows of tasks 1 to 3, waiters at semaphore 0, ready tasks of priority 15 and of 20, the current task
unfoldable pub tables_of : List (List ℕ) → List ℕ → List ℕ → List ℕ → ℕ → Tables
tables_of rows waiters at15 at20 current =
    tables (tasks_of rows)
    (lines_with (semaphore_line 0 has waiters ∷ ready_line 0 has (0 ∷ []) ∷ ready_line 15 has at15 ∷ ready_line 20 has at20 ∷ []))
    (semaphores_of ((1 ∷ []) ∷ [])) no_events no_mailboxes no_swis no_clocks free_heap
    (0 ∷ 1 ∷ 1 ∷ 0 ∷ current ∷ most_levels ∷ [])

abbrev row : ℕ → ℕ → List ℕ
row mode priority = mode ∷ priority ∷ []

unfoldable pub start : Tables
start = tables_of (row at_semaphore 20 ∷ row ready 20 ∷ []) (1 ∷ []) [] (2 ∷ []) 2

unfoldable pub begun : Tables
begun = tables_of (row at_semaphore 20 ∷ row at_semaphore 20 ∷ []) (1 ∷ 2 ∷ []) [] [] 0

unfoldable pub flooded : Tables
flooded = tables_of (row ready 20 ∷ row at_semaphore 20 ∷ row ready 15 ∷ []) (2 ∷ []) (3 ∷ []) (1 ∷ []) 1

unfoldable pub moment : Tables
moment = tables_of (row ready 20 ∷ row ready 20 ∷ row ready 15 ∷ []) [] (3 ∷ []) (1 ∷ 2 ∷ []) 1

unfoldable pub ending : Tables
ending = tables_of (row terminated 20 ∷ row ready 20 ∷ row ready 15 ∷ []) [] (3 ∷ []) (2 ∷ []) 2

pub to_start : Leads anything 0 (fresh_with most_levels) setup 0 start
unfolding computed made_fresh lines_with tables_of pass in_words start
to_start = let (typed, sound) = made-fresh-safe most_levels in leads anything 0 (fresh_with most_levels) typed sound setup 0 start refl refl

-- ---- the story: one accepted post in the flood, and none once task 2 is ready
abbrev pub story : Story
story = tell 2 20 (1 ∷ []) flood 1 queueing 0 start begun flooded moment ending

shown : Shown story
unfolding computed lines_with tables_of pass in_words start begun flooded moment ending
shown =
    shows story setup (fresh_with most_levels) to_start ((refl, refl), (refl, refl), (refl, refl), (refl, refl))
    ((refl, refl, refl), (refl, refl), ((refl, refl), refl, refl), (refl, refl), (refl, refl), (refl, refl, refl)) (omega arith, omega arith)

pub turn : Turn 0 2 (1 ∷ []) begun
turn = Told.turn story shown

-- ---- by the theorem one of these posts readies it, since there are two; it is the second
pub in-time : ServedIn 0 2 1 begun (Told.run story)
in-time = Told.in-time story shown

-- ---- its turn in the queue of priority 20: task 1 ends
in-moment : ahead 2 (queue_at 20 moment) ≡ 1 ∷ []
unfolding computed ahead lines_with tables_of moment
in-moment = refl

in-ending : queue_at 20 ending ≡ 2 ∷ []
unfolding computed lines_with tables_of ending
in-ending = refl

one-gone : Gone 20 1 moment (later story)
unfolding count
one-gone = gone-at-last 20 1 moment (later story) (rw ((Told.to-ending story shown).now, in-ending))

all-gone : (x : ℕ) → 0 < count x (ahead 2 (queue_at 20 moment)) → Gone 20 x moment (later story)
unfolding count
all-gone x h =
    ⊎_elim
    (λ (e : 1 ≡ x). rw (sym e) one-gone)
    (λ (n : 1 ≢ x). absurd (omega (arith, rw (in-moment, ne_eqb 1 x n) at h)))
    (same? 1 x)

-- ---- from the theorem: it is at the front, and it runs
pub front : AtFront 20 2 ending
front = Told.front story shown all-gone

pub at_last : running ending.lines ending.state ≡ Task 2
at_last = Told.at_last story shown all-gone
