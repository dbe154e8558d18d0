-- Steps of a tick, one after the other, and one that changes nothing.
use Rattle.std.proofs.Common.{◌≡◌, ℕ, ◌+◌, List, sym, ap, ◌∙◌, eq-eqb}
use Rattle.basics.proofs.Finds.{rising-more}
use Rattle.basics.specs.Find.{rising}
use Rattle.rules.specs.Rows.{field}
use Rattle.rules.specs.Tables.{task_count, task_width, task}
use Rattle.rules.specs.Lines.{task_queues}
use Rattle.rules.specs.Tick.{task_tick}

-- ---- a task with nothing to count
pub task-still : (ts ls : List ℕ) (i : ℕ) {left : ℕ} → left ≡ field task_width task_count ts i 3 → left ≡ 0 → task_queues ts ls ≡ task_tick (task_queues ts ls) i
unfolding task_tick task
task-still ts ls i e z = rw (eq-eqb (field task_width task_count ts i 3) 0 (sym e ∙ z))

-- ---- one step more, in rising number
pub one_more : {A : Type 0} (f : A → ℕ → A) (x : A) (n : ℕ) {y z : A} → y ≡ rising n f x → z ≡ f y n → z ≡ rising (n + 1) f x
one_more f x n e g = g ∙ ap (λ y. f y n) e ∙ sym (rising-more f x n)
