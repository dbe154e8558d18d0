-- A task that a call does not move, and the lines in which it keeps its place.
use Prim.Native.Nat.{ℕ, ◌<◌}
use mathlib.Core.Path.{◌≡◌}
use mathlib.Core.Logic.{◌≢◌, ◌⊎◌}
use mathlib.Core.Bool.{true, ◌||◌, cond as if}
use lib.Dec.{eqb}
use Rattle.rules.specs.Tables.{semaphore_count, not_in_use, terminated, task, semaphore, KIND}
use Rattle.rules.specs.Lines.{anyone, front_of, semaphore_line, event_line, mailbox_line, nowhere}
use Rattle.rules.specs.Tasks.{blocked}
use Rattle.rules.specs.Dispatch.{running}
use Rattle.rules.specs.declared.Tables.{Tables}
use Rattle.rules.specs.declared.Thread.TheVariants.{Task}
use Rattle.demand_2_soundness.proofs.Groups.{OfTasks}
use Rattle.rules.specs.declared.Call.{Call}

-- the line whose first waiter a call may serve
unfoldable pub served_line : Call → ℕ
served_line q =
    if (eqb q.number 0x23) (semaphore_line q.a)
    (if (eqb q.number 0x33) (event_line q.a)
    (if (eqb q.number 0x42 || eqb q.number 0x43) (mailbox_line q.a) nowhere))

-- why a call does not move task i: it is in use, does not run, is not deleted, is not given another priority while ready or inactive, is not
-- the first where the call may serve, and has not its last tick
pub record Unmoved (t : Tables) (q : Call) (i : ℕ) : Type 0 where
  pub used : (task t.tasks i).mode ≢ not_in_use
  pub rests : running t.lines t.state ≢ Task i
  pub stays : q.number ≡ 0x01 → q.a ≡ i → (task t.tasks i).mode < terminated
  pub kept : q.number ≡ 0x02 → q.a ≡ i → (q.b ≡ (task t.tasks i).priority) ⊎ (blocked (task t.tasks i).mode ≡ true)
  pub behind : anyone t.lines (served_line q) ≡ true → front_of t.lines (served_line q) ≢ i
  pub lasts : (task t.tasks i).left ≢ 1

-- line j is served in arrival order: a ready queue, a mailbox's, an event's, or a semaphore's of kind 0 or 1
pub record Arrival (t : Tables) (j : ℕ) : Type 0 where
  pub tasks : OfTasks j
  pub kind : j < semaphore_count → semaphore t.semaphores j KIND < 2
