-- A task's row: what is read after it is stored, and in which line its rule lets it stand.
use Prim.Native.Nat.{ℕ, ◌≤◌, ◌<◌, ◌*◌}
use mathlib.Core.Path.{◌≡◌, ap}
use mathlib.Core.Logic.{◌≢◌, ◌⊎◌, inl, inr, ⊎_elim}
use mathlib.Core.List.{List}
use native.Mathlib.Omega.{arith}
use lib.ListN.{length}
use borrow.Author.Tests.{ne_eqb}
use Rattle.basics.specs.Rule.{Means}
use Rattle.basics.proofs.Laws.{same?}
use Rattle.rules.specs.Tables.{task_count, task_width, most_levels, levels, ready, at_semaphore, at_event, reading, writing, inactive, not_in_use, task}
use Rattle.rules.specs.Tables.{task_words, with_task, no_task, semaphore_count, event_count, mailbox_count, MODE, TASK-PRIORITY, OBJECT, TASK-LEFT, HELD, MASK}
use Rattle.rules.specs.Tables.{OUTCOME, VALUE}
use Rattle.rules.specs.Lines.{nowhere, semaphore_line, mailbox_line, event_line, ready_line, home_by, home_of, task_home}
use Rattle.rules.specs.Sound.{other_rule, task_rule, tasks_rule}
use Rattle.rules.specs.declared.Task.{Task}
use Rattle.rules_laws.proofs.Levels.{levels-under}
use Rattle.rules_laws.proofs.Rows.{by-range, field_out, row_same, row_other, length-with_row}
use Rattle.demand_2_soundness.proofs.Groups.{OfTasks}
use Rattle.demand_2_soundness.proofs.OneRow.{each-but}

-- ---- read after write
module _ (ts : List ℕ) (i : ℕ) where
  pub length-with_task : (k : Task) → length (with_task ts i k) ≡ length ts
  unfolding with_task
  length-with_task k = length-with_row task_width task_count ts i (task_words k)

  pub task-same : (k : Task) → length ts ≡ task_count * task_width → i < task_count → task (with_task ts i k) i ≡ k
  unfolding task with_task
  task-same k all lt =
      let f : (f : ℕ) → f < length (task_words k) → _ = row_same task_width task_count ts i (task_words k) (omega arith) (omega arith) lt in
      rw (
        f MODE (omega arith),
        f TASK-PRIORITY (omega arith),
        f OBJECT (omega arith),
        f TASK-LEFT (omega arith),
        f HELD (omega arith),
        f MASK (omega arith),
        f OUTCOME (omega arith),
        f VALUE (omega arith),
      )

  pub task-other : (k : Task) (x : ℕ) → x ≢ i → task (with_task ts i k) x ≡ task ts x
  unfolding task with_task
  task-other k x n =
      let f : (g : ℕ) → _ = λ g. row_other task_width task_count ts i (task_words k) (omega arith) x g n in
      rw (f MODE, f TASK-PRIORITY, f OBJECT, f TASK-LEFT, f HELD, f MASK, f OUTCOME, f VALUE)

  -- no such task
  pub task-out : task_count ≤ i → task ts i ≡ no_task
  unfolding task
  task-out h =
      let f : (g : ℕ) → _ = λ g. field_out task_width task_count ts i g h in
      rw (f MODE, f TASK-PRIORITY, f OBJECT, f TASK-LEFT, f HELD, f MASK, f OUTCOME, f VALUE)

  -- a row with anything in it is one of the 32
  pub task-in : task ts i ≢ no_task → i < task_count
  task-in n = by-range i task_count (λ h. h) (λ h. absurd (n (task-out h)))

  pub in_use : (task ts i).mode ≢ not_in_use → i < task_count
  in_use n = task-in (λ e. n (ap (λ (k : Task). k.mode) e))

-- a row that its rule allows
pub tasks-with_task : (st : List ℕ) (ts : List ℕ) (i : ℕ) (k : Task) → length ts ≡ task_count * task_width → i < task_count
    → Means (tasks_rule (levels st) ts) → Means (task_rule (levels st) i k)
    → Means (tasks_rule (levels st) (with_task ts i k))
tasks-with_task st ts i k all lt rule row =
    each-but task_count i (λ x. task_rule (levels st) x (task ts x)) (λ x. task_rule (levels st) x (task (with_task ts i k) x))
    (λ x h n m. rw (task-other ts i k x n) m) (λ _. rw (task-same ts i k all lt) row) rule

-- ---- the line of a row
pub home-none : (k : Task) → k.mode ≢ ready → k.mode ≢ at_semaphore → k.mode ≢ at_event → k.mode ≢ reading → k.mode ≢ writing
    → home_of k ≡ nowhere
unfolding home_by
home-none k a b c d e =
    rw
    (ne_eqb k.mode ready a, ne_eqb k.mode at_semaphore b, ne_eqb k.mode at_event c, ne_eqb k.mode reading d, ne_eqb k.mode writing e)

pub home_out : (ts : List ℕ) (x : ℕ) → task_count ≤ x → task_home ts x ≡ nowhere
unfolding home_by
home_out ts x h = ap home_of (task-out ts x h)

-- a row's line, with the mode that it has there and the range of what names it
pub data Stands (k : Task) : Type 0 where
  is_ready : k.mode ≡ ready → k.priority < most_levels → home_of k ≡ ready_line k.priority → Stands k
  is_at_semaphore : k.mode ≡ at_semaphore → k.object < semaphore_count → home_of k ≡ semaphore_line k.object → Stands k
  is_at_event : k.mode ≡ at_event → k.object < event_count → home_of k ≡ event_line k.object → Stands k
  is_at_mailbox : (k.mode ≡ reading) ⊎ (k.mode ≡ writing) → k.object < mailbox_count → home_of k ≡ mailbox_line k.object → Stands k
  is_nowhere : home_of k ≡ nowhere → Stands k

other-stands : (st : List ℕ) (k : Task) → Means (other_rule (levels st) k) → Stands k
unfolding other_rule home_by
other-stands st k (_, (_, (_, (_, (_, (_, (at_s, (at_e, (reads, (writes, (_, (_, range)))))))))))) =
    ⊎_elim
    (λ (e : k.mode ≡ ready).
    let level = range (λ (z : k.mode ≡ not_in_use). omega arith, λ (z : k.mode ≡ inactive). omega arith) in
    is_ready e (omega (arith, level.1, levels-under st)) (rw e))
    (λ (a : k.mode ≢ ready).
    ⊎_elim
    (λ (e : k.mode ≡ at_semaphore). is_at_semaphore e (at_s e).0.0 (rw e))
    (λ (b : k.mode ≢ at_semaphore).
    ⊎_elim
    (λ (e : k.mode ≡ at_event). is_at_event e (at_e e).0.0 (rw e))
    (λ (c : k.mode ≢ at_event).
    ⊎_elim
    (λ (e : k.mode ≡ reading). is_at_mailbox (inl e) (reads e).0.0 (rw e))
    (λ (d : k.mode ≢ reading).
    ⊎_elim
    (λ (e : k.mode ≡ writing). is_at_mailbox (inr e) (writes e).0.0 (rw e))
    (λ (e : k.mode ≢ writing). is_nowhere (home-none k a b c d e))
    (same? k.mode writing))
    (same? k.mode reading))
    (same? k.mode at_event))
    (same? k.mode at_semaphore))
    (same? k.mode ready)

-- every row that its rule allows stands somewhere or nowhere; one that is not there stands nowhere
pub row-stands : (st : List ℕ) (i : ℕ) (k : Task) → Means (task_rule (levels st) i k) → Stands k
unfolding home_by
row-stands st i k (idle, other) =
    ⊎_elim
    (λ (e : i ≡ 0). let (m, (p, _)) = idle e in is_ready m (omega arith) (rw m))
    (λ (n : i ≢ 0). other-stands _ k (other n))
    (same? i 0)

pub task-stands : (st : List ℕ) (ts : List ℕ) → Means (tasks_rule (levels st) ts) → (x : ℕ) → Stands (task ts x)
task-stands st ts m x = by-range x task_count (λ h. row-stands _ x (task ts x) (m x h)) (λ h. is_nowhere (home_out ts x h))

-- ---- what the line says of the row
pub stands-in : (k : Task) → Stands k → OfTasks (home_of k) ⊎ (home_of k ≡ nowhere)
stands-in k (is_ready m l e) = inl (inr (omega arith, omega arith))
stands-in k (is_at_semaphore m l e) = inl (inl (omega arith))
stands-in k (is_at_event m l e) = inl (inl (omega arith))
stands-in k (is_at_mailbox m l e) = inl (inl (omega arith))
stands-in k (is_nowhere e) = inr e

pub ready-row : (k : Task) → Stands k → (p : ℕ) → p < most_levels → home_of k ≡ ready_line p → (k.mode ≡ ready) × (k.priority ≡ p)
ready-row k (is_ready m l e) p h q = (m, omega arith)
ready-row k (is_at_semaphore m l e) p h q = absurd (omega arith)
ready-row k (is_at_event m l e) p h q = absurd (omega arith)
ready-row k (is_at_mailbox m l e) p h q = absurd (omega arith)
ready-row k (is_nowhere e) p h q = absurd (omega arith)

pub semaphore-row : (k : Task) → Stands k → (s : ℕ) → s < semaphore_count → home_of k ≡ semaphore_line s → (k.mode ≡ at_semaphore) × (k.object ≡ s)
semaphore-row k (is_ready m l e) s h q = absurd (omega arith)
semaphore-row k (is_at_semaphore m l e) s h q = (m, omega arith)
semaphore-row k (is_at_event m l e) s h q = absurd (omega arith)
semaphore-row k (is_at_mailbox m l e) s h q = absurd (omega arith)
semaphore-row k (is_nowhere e) s h q = absurd (omega arith)

pub event-row : (k : Task) → Stands k → (n : ℕ) → n < event_count → home_of k ≡ event_line n → (k.mode ≡ at_event) × (k.object ≡ n)
event-row k (is_ready m l e) n h q = absurd (omega arith)
event-row k (is_at_semaphore m l e) n h q = absurd (omega arith)
event-row k (is_at_event m l e) n h q = (m, omega arith)
event-row k (is_at_mailbox m l e) n h q = absurd (omega arith)
event-row k (is_nowhere e) n h q = absurd (omega arith)

pub mailbox-row : (k : Task) → Stands k → (n : ℕ) → n < mailbox_count → home_of k ≡ mailbox_line n → ((k.mode ≡ reading) ⊎ (k.mode ≡ writing)) × (k.object ≡ n)
mailbox-row k (is_ready m l e) n h q = absurd (omega arith)
mailbox-row k (is_at_semaphore m l e) n h q = absurd (omega arith)
mailbox-row k (is_at_event m l e) n h q = absurd (omega arith)
mailbox-row k (is_at_mailbox m l e) n h q = (m, omega arith)
mailbox-row k (is_nowhere e) n h q = absurd (omega arith)
