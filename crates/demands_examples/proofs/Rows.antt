-- The tables of worked examples by their rows, whatever the widths: a row has zeros behind its words, and a table rows of zeros behind its rows.
use Prim.Native.Nat.{ℕ, ◌-◌, ◌*◌}
use mathlib.Core.List.{List, [], ◌∷◌, ◌++◌}
use lib.ListN.{length}
use Rattle.basics.specs.Lists.{zeros}
use Rattle.rules.specs.Tables.{task_count, task_width, semaphore_count, semaphore_width, event_count, event_width, mailbox_count, mailbox_width, ready, few_levels}

-- n rows of w words
abbrev table_of : ℕ → ℕ → List (List ℕ) → List ℕ
table_of w n [] = zeros (n * w)
table_of w n (r ∷ rs) = r ++ (zeros (w - length r) ++ table_of w (n - 1) rs)

-- task 0, and the tasks after it
abbrev pub tasks_of : List (List ℕ) → List ℕ
tasks_of rs = table_of task_width task_count ((ready ∷ []) ∷ rs)

abbrev pub semaphores_of : List (List ℕ) → List ℕ
semaphores_of = table_of semaphore_width semaphore_count

abbrev pub events_of : List (List ℕ) → List ℕ
events_of = table_of event_width event_count

abbrev pub mailboxes_of : List (List ℕ) → List ℕ
mailboxes_of = table_of mailbox_width mailbox_count

-- depth 0, both switches on, so many ticks, this current task, and 16 levels
abbrev pub state_of : ℕ → ℕ → List ℕ
state_of ticks current = 0 ∷ 1 ∷ 1 ∷ ticks ∷ current ∷ few_levels ∷ []
