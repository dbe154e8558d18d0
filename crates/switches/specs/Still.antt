-- Clocks and tasks with no ticks left, which a tick leaves as they are.
use Rattle.std.specs.Prelude.{ℕ, ◌+◌, ◌*◌, Bool, nat_eq}
use Rattle.basics.specs.Find.{all_below, rising}
use Rattle.rules.specs.Tables.{TaskTable, ClockTable, clock_count, clock, task}
use Rattle.rules.specs.Lines.{TaskQueues}
use Rattle.rules.specs.Tick.{task_tick}

-- none of the numbers below n has ticks left
unfoldable pub still : ℕ → (ℕ → ℕ) → Bool
still n left = all_below n (λ k. nat_eq (left k) 0)

abbrev pub clocks_still : ClockTable → Bool
clocks_still cs = still clock_count (λ n. (clock cs n).left)

-- ---- the tasks by eights: eight g has the tasks from 8 g on
abbrev pub eight_still : TaskTable → ℕ → Bool
eight_still ts g = still 8 (λ k. (task ts (g * 8 + k)).left)

abbrev pub eight_tick : TaskQueues → ℕ → TaskQueues
eight_tick q g = rising 8 (λ p k. task_tick p (g * 8 + k)) q
