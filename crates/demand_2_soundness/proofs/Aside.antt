-- Tasks move aside of the lines of Swis: from a line and into one that are none of theirs. Each move of the calls of tasks, semaphores, events and
-- mailboxes is one of these.
use Prim.Native.Nat.{ℕ, ◌<◌, ◌≤◌}
use mathlib.Core.Path.{◌≡◌, refl, sym, ◌∙◌}
use mathlib.Core.Logic.{◌≢◌, ⊎_elim}
use mathlib.Core.List.{List}
use native.Mathlib.Omega.{arith}
use lib.Dec.{eqb, ltb}
use Rattle.basics.specs.Rule.{Means}
use Rattle.rules.specs.Tables.{task_count, minus_one, ready, inactive, task, levels}
use Rattle.rules.specs.Lines.{posted_line, active_line, line, home_by, home_of, task_home, TaskQueues, moved, at_back}
use Rattle.rules.specs.Waits.{readied, woken}
use Rattle.rules.specs.Tasks.{blocked, placed_at, reprioritized}
use Rattle.rules.specs.Sound.{tasks_rule}
use Rattle.rules.specs.declared.Task.{Task}
use Rattle.rules_laws.proofs.Lines.{left_other, entered-other}
use Rattle.rules_laws.proofs.Calls.{chosen}
use Rattle.demand_2_soundness.proofs.Groups.{OfTasks, SwisStay}
use Rattle.demand_2_soundness.proofs.TaskRows.{Stands, task-stands, stands-in}

-- no line of tasks is one of Swis
pub not-of-swis : (j k : ℕ) → OfTasks j → posted_line 0 ≤ k → k ≤ active_line → j ≢ k
not-of-swis j k o low high e = ⊎_elim (λ h. omega arith) (λ h. omega arith) o

-- the number is that of no line of Swis
abbrev pub Aside : ℕ → Type 0
Aside h = (j : ℕ) → posted_line 0 ≤ j → j ≤ active_line → j ≢ h

-- so is that of the line where a task's row stands
pub stands-aside : (k : Task) → Stands k → Aside (home_of k)
stands-aside k s j low high e = ⊎_elim (λ o. not-of-swis (home_of k) j o low high (sym e)) (λ n. omega arith) (stands-in k s)

module _ (q : TaskQueues) (sx : List ℕ) (rows : Means (tasks_rule (levels sx) q.tasks)) where
  pub home-aside : (i : ℕ) → Aside (task_home q.tasks i)
  home-aside i = stands-aside (task q.tasks i) (task-stands _ q.tasks rows i)

  pub moved-aside : (place : List ℕ → ℕ) (i : ℕ) (k : Task) → Aside (home_of k) → SwisStay q.lines (moved place i k q).lines
  unfolding moved
  moved-aside place i k to j low high =
      chosen (λ (x : TaskQueues). line x.lines j ≡ line q.lines j) (ltb i task_count) _ _
      (λ _.
      entered-other _ (home_of k) i place j (to j low high)
      ∙ left_other q.lines (task_home q.tasks i) i j (home-aside i j low high))
      (λ _. refl)

  -- into an object's line
  pub waits-aside : (place : List ℕ → ℕ) (i : ℕ) (k : Task) → home_of k < posted_line 0 → SwisStay q.lines (moved place i k q).lines
  waits-aside place i k h = moved-aside place i k (λ j low high e. omega arith)

  -- into a ready queue
  pub woken-aside : (i o v : ℕ) → SwisStay q.lines (woken i o v q).lines
  unfolding home_by
  woken-aside i o v = moved-aside at_back i (readied (task q.tasks i) o v) (λ j low high e. omega arith)

  -- into a ready queue, or nowhere
  pub placed-aside : (i : ℕ) (k : Task) (p : ℕ) → SwisStay q.lines (moved at_back i (placed_at k p) q).lines
  unfolding home_by
  placed-aside i k p =
      moved-aside at_back i (placed_at k p)
      (λ j low high.
      chosen (λ (m : ℕ). j ≢ home_by m p k.object) (eqb p minus_one) inactive ready (λ _ e. omega arith) (λ _ e. omega arith))

  pub priority-aside : (a p : ℕ) → SwisStay q.lines (reprioritized q a p).lines
  unfolding reprioritized
  priority-aside a p j low high =
      chosen (λ (x : TaskQueues). line x.lines j ≡ line q.lines j) (eqb p (task q.tasks a).priority) _ _ (λ _. refl)
      (λ _.
      chosen (λ (x : TaskQueues). line x.lines j ≡ line q.lines j) (blocked (task q.tasks a).mode) _ _ (λ _. refl)
      (λ _. placed-aside a (task q.tasks a) p j low high))
