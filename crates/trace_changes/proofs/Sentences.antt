-- Sentences of docs/TRACE.md, each shown by a small case of its definition, so that a definition that says otherwise is refused at once.
use Prim.Native.Nat.{ℕ}
use mathlib.Core.Path.{◌≡◌, refl}
use mathlib.Core.List.{List, [], ◌∷◌, ◌++◌}
use Rattle.basics.specs.Lists.{zeros}
use Rattle.rules.specs.Answer.{answer, asked}
use Rattle.rules.specs.Tables.{forever}
use Rattle.rules.specs.Lines.{mailbox_line, posted_line, active_line}
use Rattle.rules.specs.Fresh.{fresh}
use Rattle.rules.specs.Step.{step}
use Rattle.rules.specs.declared.Tables.{Tables}
use Rattle.rules.specs.declared.Thread.TheVariants.{Task}
use Rattle.rules.proofs.Computed.{computed}
use Rattle.rules.proofs.Standing.{lines_with, ◌has◌}
use Rattle.trace_changes.specs.Numbers.{columns, each_below, count_below, same_list}
use Rattle.trace_changes.specs.Changes.{state_now, same_task, task_numbers, changed_tasks, call_posts, call_post, posted_below, clock_post, clock_posts, posts_made, is_started, started_swi, posted_swis}
use Rattle.trace_changes.specs.Changes.{row, same_row, waiting, changed_rows, changed_lined, changed_semaphores, same_mailbox, mailbox_numbers, changed_mailboxes, ran_out, changed_clocks, same_heap, units_with, changed_heap}
use Rattle.trace_changes.specs.Line.{barred, parts}
use Rattle.trace_changes.specs.declared.Made.{Made}

-- task 1's row
abbrev pub task1 : List ℕ → List ℕ
task1 k = zeros 8 ++ k

-- clocks 0 and 1 of Swi 0 and clock 2 of Swi 1 run out at a tick, clock 3 of Swi 1 does not
abbrev pub four : List ℕ
four = (1 ∷ 0 ∷ 1 ∷ 4 ∷ 1 ∷ []) ++ ((1 ∷ 0 ∷ 1 ∷ 0 ∷ 1 ∷ []) ++ ((1 ∷ 1 ∷ 1 ∷ 0 ∷ 1 ∷ []) ++ (1 ∷ 1 ∷ 2 ∷ 0 ∷ 2 ∷ [])))

-- Swi 0 is not posted, Swi 1 is
abbrev pub two : List ℕ
two = (1 ∷ zeros 5) ++ (1 ∷ 0 ∷ 0 ∷ 0 ∷ 1 ∷ 0 ∷ [])

-- a Swi with this trigger, posted or not
abbrev pub swi_at : ℕ → ℕ → List ℕ
swi_at trigger posted = 1 ∷ 0 ∷ 0 ∷ trigger ∷ posted ∷ 0 ∷ []

-- an accepted call, and a refused one
abbrev pub made : ℕ → ℕ → Made
made number code = record { n = 1; asked = asked number 0 0 0 0; answer = answer code 0 0; thread = Task 0 }

-- Swi 3 is active
abbrev pub active3 : List ℕ
unfolding lines_with
active3 = lines_with (active_line has (3 ∷ []) ∷ [])

-- these wait at semaphore 0, at mailbox 0
abbrev pub wait_at : ℕ → List ℕ → List ℕ
unfolding lines_with
wait_at j xs = lines_with (j has xs ∷ [])

-- the sample of document 01: a task at 5, a semaphore, and its pend without end
abbrev pub sample : Tables
sample = (step (step fresh 0x00 5 0 0 0).tables 0x20 0 0 0 0).tables

abbrev pub pended : Made
pended = record { n = 3; asked = asked 0x22 0 forever 0 0; answer = answer 0 2 0; thread = Task 0 }

pub record Sentences : Type 0 where
  -- "Each number .. is followed by a space, and each part but the last by `; `."
  pub spaces : columns (10 ∷ 7 ∷ []) ≡ 49 ∷ 48 ∷ 32 ∷ 55 ∷ 32 ∷ []
  pub bars : barred ([] ∷ (5 ∷ []) ∷ []) ≡ 59 ∷ 32 ∷ 59 ∷ 32 ∷ 53 ∷ 32 ∷ []
  -- "the state after it: depth, Swis on, tasks on, tick, current task, levels"
  pub state : state_now (2 ∷ 0 ∷ 1 ∷ 7 ∷ 3 ∷ 32 ∷ []) ≡ 2 ∷ 0 ∷ 1 ∷ 7 ∷ 3 ∷ 32 ∷ []
  -- "Ticks left .. get fewer at a tick is no change."
  pub fewer : changed_tasks (task1 (2 ∷ 5 ∷ 0 ∷ 3 ∷ zeros 4)) (task1 (2 ∷ 5 ∷ 0 ∷ 2 ∷ zeros 4)) ≡ []
  -- "A task whose mode was 2 to 6 and is now 1 was readied: with outcome 1 its limit ran out."
  pub expired : changed_tasks (task1 (3 ∷ 5 ∷ 0 ∷ 1 ∷ zeros 4)) (task1 (1 ∷ 5 ∷ 0 ∷ 0 ∷ 0 ∷ 0 ∷ 1 ∷ 0 ∷ [])) ≡ 1 ∷ 1 ∷ 5 ∷ 0 ∷ 0 ∷ 1 ∷ 0 ∷ []
  -- "of a tick one for each clock that runs out, in rising number"; "'Posted already' is 1 where the Swi stood in its queue then"
  pub ticks : posts_made (made 0x76 0) four two ≡ 0 ∷ 0 ∷ 0 ∷ 1 ∷ 0 ∷ 1 ∷ 2 ∷ 1 ∷ 1 ∷ []
  -- "of an accepted call 12, 13 or 15 one; of 14 and 16 one if the trigger is now 0"
  pub posts : posts_made (made 0x12 0) [] (swi_at 5 0) ≡ 16 ∷ 0 ∷ 0 ∷ []
  pub again : posts_made (made 0x13 0) [] (swi_at 5 1) ≡ 16 ∷ 0 ∷ 1 ∷ []
  pub taken : posts_made (made 0x14 0) [] (swi_at 1 1) ≡ 16 ∷ 0 ∷ 1 ∷ []
  pub not_yet : posts_made (made 0x14 0) [] (swi_at 2 0) ≡ []
  pub cleared : posts_made (made 0x16 0) [] (swi_at 0 0) ≡ 16 ∷ 0 ∷ 0 ∷ []
  pub refused : posts_made (made 0x12 3) [] (swi_at 5 0) ≡ []
  -- "a Swi that was active and ended may be started anew by the same call"
  pub anew : started_swi (made 0x17 0) active3 active3 ≡ 3 ∷ []
  pub ended : started_swi (made 0x17 0) active3 [] ≡ []
  pub starts : started_swi (made 0x12 0) [] active3 ≡ 3 ∷ []
  pub goes_on : started_swi (made 0x12 0) active3 active3 ≡ []
  -- "the highest priority first, each queue from its front"
  pub highest : posted_swis (lines_with (posted_line 6 has (1 ∷ []) ∷ posted_line 2 has (0 ∷ 4 ∷ []) ∷ [])) ≡ 1 ∷ 0 ∷ 4 ∷ []
  -- "An object changed if its row or its line did."
  pub line : changed_semaphores (1 ∷ 2 ∷ 0 ∷ []) (wait_at 0 (1 ∷ [])) (1 ∷ 2 ∷ 0 ∷ []) (wait_at 0 (2 ∷ [])) ≡ 0 ∷ 1 ∷ 2 ∷ 0 ∷ 1 ∷ 2 ∷ []
  pub row-alone : changed_semaphores (1 ∷ 0 ∷ 0 ∷ []) [] (1 ∷ 0 ∷ 1 ∷ []) [] ≡ 0 ∷ 1 ∷ 0 ∷ 1 ∷ 0 ∷ []
  pub neither : changed_semaphores (1 ∷ 2 ∷ 0 ∷ []) (wait_at 0 (1 ∷ [])) (1 ∷ 2 ∷ 0 ∷ []) (wait_at 0 (1 ∷ [])) ≡ []
  -- "capacity .., messages there, the messages, the oldest first, how many wait, who"
  pub mailbox : changed_mailboxes (2 ∷ 0 ∷ []) [] (2 ∷ 2 ∷ 9 ∷ 8 ∷ []) (wait_at (mailbox_line 0) (5 ∷ [])) ≡ 0 ∷ 2 ∷ 2 ∷ 9 ∷ 8 ∷ 1 ∷ 5 ∷ []
  -- "On a tick a clock changed if it ran out; on every other call, if its row did."
  pub clock_ran_out : changed_clocks (made 0x76 0) (1 ∷ 0 ∷ 4 ∷ 4 ∷ 1 ∷ []) (1 ∷ 0 ∷ 4 ∷ 4 ∷ 4 ∷ []) ≡ 0 ∷ 1 ∷ 0 ∷ 4 ∷ 4 ∷ 4 ∷ []
  pub runs_on : changed_clocks (made 0x76 0) (1 ∷ 0 ∷ 4 ∷ 4 ∷ 3 ∷ []) (1 ∷ 0 ∷ 4 ∷ 4 ∷ 2 ∷ []) ≡ []
  pub started : changed_clocks (made 0x52 0) (1 ∷ 0 ∷ 4 ∷ 4 ∷ 3 ∷ []) (1 ∷ 0 ∷ 4 ∷ 4 ∷ 4 ∷ []) ≡ 0 ∷ 1 ∷ 0 ∷ 4 ∷ 4 ∷ 4 ∷ []
  -- "the heap, if it changed: blocks, units taken"
  pub heap : changed_heap [] (1 ∷ 2 ∷ 0 ∷ 1 ∷ []) ≡ 2 ∷ 3 ∷ []
  -- record 3 of the sample, its parts 2 to 13
  pub third : parts pended sample (step sample 0x22 0 forever 0 0).tables
      ≡ (0 ∷ 1 ∷ 1 ∷ 0 ∷ 0 ∷ 16 ∷ [])
      ∷ (1 ∷ 3 ∷ 5 ∷ 0 ∷ 0 ∷ 0 ∷ 0 ∷ [])
      ∷ []
      ∷ []
      ∷ []
      ∷ []
      ∷ (0 ∷ 1 ∷ 0 ∷ 0 ∷ 1 ∷ 1 ∷ [])
      ∷ []
      ∷ []
      ∷ []
      ∷ []
      ∷ []
      ∷ []

pub sentences : Sentences
unfolding computed lines_with columns each_below count_below same_list state_now same_task task_numbers changed_tasks call_posts call_post posted_below clock_post clock_posts posts_made is_started started_swi posted_swis row same_row waiting changed_rows changed_lined same_mailbox mailbox_numbers changed_mailboxes ran_out changed_clocks same_heap units_with changed_heap barred parts
sentences =
    record {
      spaces = refl;
      bars = refl;
      state = refl;
      fewer = refl;
      expired = refl;
      ticks = refl;
      posts = refl;
      again = refl;
      taken = refl;
      not_yet = refl;
      cleared = refl;
      refused = refl;
      anew = refl;
      ended = refl;
      starts = refl;
      goes_on = refl;
      highest = refl;
      line = refl;
      row-alone = refl;
      neither = refl;
      mailbox = refl;
      clock_ran_out = refl;
      runs_on = refl;
      started = refl;
      heap = refl;
      third = refl;
    }
