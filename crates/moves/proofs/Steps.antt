-- A task that moves with a row worked out from its old one; and its priority against another.
use Prim.Native.Nat.{ℕ, ◌≤◌, ◌<◌}
use mathlib.Core.Path.{◌≡◌, ap, ◌∙◌}
use mathlib.Core.List.{List}
use borrow.Author.Tests.{lt-ltb, le-ltb}
use mathlib.Core.Bool.{true, false}
use Rattle.rules.specs.Rows.{field}
use Rattle.rules.specs.Tables.{task_count, task_width, task}
use Rattle.rules.specs.Lines.{is_lower, TaskQueues, task_queues, moved}
use Rattle.rules.specs.declared.Task.{Task}

-- the row that a task gets is worked out from its old one
pub moved-from : (place : List ℕ → ℕ) (i : ℕ) (f : Task → Task) (ts ls : List ℕ) {old new : Task} {q : TaskQueues} → old ≡ task ts i → new ≡ f old
    → q ≡ moved place i new (task_queues ts ls) → q ≡ moved place i (f (task ts i)) (task_queues ts ls)
moved-from place i f ts ls a b c = c ∙ ap (λ (k : Task). moved place i k (task_queues ts ls)) (b ∙ ap f a)

-- ---- the priority of one in a line, against p
module _ (ts : List ℕ) (p : ℕ) {m y v : ℕ} (is : m ≡ y) (e : v ≡ field task_width task_count ts m 1) where
  priority-is : v ≡ (task ts y).priority
  unfolding task
  priority-is = e ∙ ap (λ (i : ℕ). field task_width task_count ts i 1) is

  pub lower : v < p → is_lower ts p y ≡ true
  lower h = rw (← priority-is) (lt-ltb v p h)

  pub not_lower : p ≤ v → is_lower ts p y ≡ false
  not_lower h = rw (← priority-is) (le-ltb v p h)
