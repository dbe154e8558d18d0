-- 01, 'Semaphores', 'Tasks' and 'Tick': two tasks wait without end at one semaphore. The change of a blocked task's priority and a tick ready
-- nobody, a post readies one, and that is the first who came.
use mathlib.Core.Path.{refl}
use mathlib.Core.List.{List, [], ◌∷◌}
use Rattle.rules.specs.Tables.{forever}
use Rattle.rules.specs.Fresh.{fresh}
use Rattle.rules_laws.proofs.Runs.{Line, ◌runs◌, ◌⇒◌, said, saw, T, I, create_task, set_priority, create_semaphore, pend, post, waiters_at, interrupt_in}
use Rattle.rules_laws.proofs.Runs.{interrupt_out, tick}
use Rattle.rules_laws.proofs.Fresh.{fresh-sound, fresh-typed}
use Rattle.demand_2_soundness.proofs.RunsBySteps.{runs-by-steps, steps}

abbrev pub two-waiters : List Line
two-waiters =
    create_semaphore 0 0 ⇒ said 0 0 0 (T 0)
    ∷ create_task 5 ⇒ said 0 0 1 (T 1)
    ∷ pend 0 forever ⇒ said 0 2 0 (T 0)
    ∷ create_task 5 ⇒ said 0 0 2 (T 2)
    ∷ pend 0 forever ⇒ said 0 2 0 (T 0)
    ∷ set_priority 2 6 ⇒ said 0 0 5 (T 0)
    ∷ interrupt_in ⇒ said 0 0 0 I
    ∷ tick ⇒ said 0 0 0 I
    ∷ interrupt_out ⇒ said 0 0 0 (T 0)
    ∷ post 0 ⇒ said 0 0 1 (T 1)
    ∷ waiters_at 0 ⇒ saw 1
    ∷ post 0 ⇒ said 0 0 2 (T 2)
    ∷ []

pub waiters : fresh runs two-waiters
unfolding steps
waiters = (runs-by-steps fresh (two-waiters ∷ []) fresh-typed fresh-sound refl refl).0
