-- What a movement of another task leaves task i: its row, its place in each line that is served in arrival order, and those before it.
use Prim.Native.Nat.{ℕ, ◌<◌, ◌*◌}
use mathlib.Core.Path.{◌≡◌, refl, sym, ◌∙◌}
use mathlib.Core.Logic.{◌≢◌, ⊎_elim}
use mathlib.Core.Bool.{false}
use mathlib.Core.List.Sublistᴰ
use mathlib.Core.List.{List, Sublistᴰ}
use native.Mathlib.Omega.{arith}
use lib.ListN.{length}
use borrow.Author.Tests.{lt-ltb, le-ltb}
use Rattle.basics.specs.Lists.{count, ahead, without, put_at}
use Rattle.basics.proofs.Laws.{same?, count-snoc, count-without-other, put_at-back, ahead-snoc, ahead-without, without_sub}
use Rattle.rules.specs.Tables.{task_count, task, with_task}
use Rattle.rules.specs.Lines.{line_count, line_most, line, out_of, entered, home_of, task_home, TaskQueues, task_queues, moved, line_width}
use Rattle.rules.specs.Tasks.{blocked}
use Rattle.rules.specs.declared.Task.{Task}
use Rattle.rules_laws.proofs.Rows.{by-range}
use Rattle.rules_laws.proofs.Lines.{left-same, left_other, left_out, length-left, entered-same, entered-other, entered-full, entered-out, length-entered}
use Rattle.demand_2_soundness.proofs.TaskRows.{length-with_task, task-other}

-- ---- a row that is the same but for the ticks of a limited wait and the priority of a blocked task
pub record SameRow (k l : Task) : Type 0 where
  pub mode : l.mode ≡ k.mode
  pub object : l.object ≡ k.object
  pub priority : blocked k.mode ≡ false → l.priority ≡ k.priority
  pub endless : k.left ≡ 0 → l.left ≡ 0
  pub result : (l.outcome ≡ k.outcome) × (l.value ≡ k.value)

pub row-refl : (k : Task) → SameRow k k
row-refl k = record { mode = refl; object = refl; priority = λ _. refl; endless = λ e. e; result = (refl, refl) }

pub row-trans : (k l m : Task) → SameRow k l → SameRow l m → SameRow k m
row-trans k l m a b =
    record {
      mode = b.mode ∙ a.mode;
      object = b.object ∙ a.object;
      priority = λ e. b.priority (rw a.mode e) ∙ a.priority e;
      endless = λ e. b.endless (a.endless e);
      result = (b.result.0 ∙ a.result.0, b.result.1 ∙ a.result.1);
    }

-- ---- a line in which i, if it stood there, stands behind some of those who were before it, in their order
abbrev pub SamePlace : ℕ → List ℕ → List ℕ → Type 0
SamePlace i xs ys = 0 < count i xs → (0 < count i ys) × Sublistᴰ (ahead i ys) (ahead i xs)

module _ (i : ℕ) where
  pub place_same : (xs ys : List ℕ) → ys ≡ xs → SamePlace i xs ys
  place_same xs ys e h = rw e (h, Sublistᴰ.refl (ahead i xs))

  pub place-trans : (xs ys zs : List ℕ) → SamePlace i xs ys → SamePlace i ys zs → SamePlace i xs zs
  place-trans xs ys zs f g h = let a = f h in let b = g a.0 in (b.0, Sublistᴰ.trans b.1 a.1)

  -- another one leaves
  pub place-without : (x : ℕ) → x ≢ i → (xs : List ℕ) → SamePlace i xs (without x xs)
  place-without x n xs h =
      let d : i ≢ x = λ e. n (sym e) in (
        rw (count-without-other i x xs d) h,
        rw (ahead-without i x xs d) (without_sub x (ahead i xs)),
      )

  -- another one joins at the back
  pub place-back : (x : ℕ) (xs : List ℕ) → SamePlace i xs (put_at (length xs) x xs)
  place-back x xs h =
      rw (put_at-back x xs) (omega (arith, count-snoc i x xs), rw (ahead-snoc i x xs h) (Sublistᴰ.refl (ahead i xs)))

-- ---- the tasks and lines y beside x, for task i and the lines that have A
pub record SameIn (i : ℕ) (A : ℕ → Type 0) (x y : TaskQueues) : Type 0 where
  pub task_length : length y.tasks ≡ length x.tasks
  pub line_length : length y.lines ≡ length x.lines
  pub row : SameRow (task x.tasks i) (task y.tasks i)
  pub place : (j : ℕ) → A j → SamePlace i (line x.lines j) (line y.lines j)

module _ (i : ℕ) (A : ℕ → Type 0) where
  pub in-refl : (x : TaskQueues) → SameIn i A x x
  in-refl x =
      record { task_length = refl; line_length = refl; row = row-refl (task x.tasks i); place = λ j a. place_same i _ _ refl }

  pub in-trans : (x y z : TaskQueues) → SameIn i A x y → SameIn i A y z → SameIn i A x z
  in-trans x y z a b =
      record {
        task_length = b.task_length ∙ a.task_length;
        line_length = b.line_length ∙ a.line_length;
        row = row-trans _ _ _ a.row b.row;
        place = λ j h. place-trans i _ _ _ (a.place j h) (b.place j h);
      }

  -- a row changes, and no line
  pub in_row : (x : TaskQueues) (w : ℕ) (k : Task) → (w ≡ i → SameRow (task x.tasks i) (task (with_task x.tasks w k) i))
      → SameIn i A x (task_queues (with_task x.tasks w k) x.lines)
  in_row x w k own =
      record {
        task_length = length-with_task x.tasks w k;
        line_length = refl;
        row =
            ⊎_elim own
            (λ (n : w ≢ i). rw (task-other x.tasks w k i (λ e. n (sym e))) (row-refl (task x.tasks i)))
            (same? w i);
        place = λ j a. place_same i _ _ refl;
      }

  -- the lines of A are as they were
  pub in_lines : (ts ls ms : List ℕ) → length ms ≡ length ls → ((j : ℕ) → A j → line ms j ≡ line ls j) → SameIn i A (task_queues ts ls) (task_queues ts ms)
  in_lines ts ls ms all same =
      record { task_length = refl; line_length = all; row = row-refl (task ts i); place = λ j a. place_same i _ _ (same j a) }

  -- ---- another task moves: at the back, or at any place into a line that lacks A
  module _ (w : ℕ) (other : w ≢ i) where
    pub left-place : (ls : List ℕ) → length ls ≡ line_count * line_width → (h j : ℕ) → SamePlace i (line ls j) (line (out_of h w ls) j)
    left-place ls all h j =
        ⊎_elim
        (λ (e : j ≡ h).
        by-range h line_count
        (λ l. rw (e, left-same ls h w l all) (place-without i w other (line ls h)))
        (λ l. place_same i _ _ (rw (left_out ls h w l))))
        (λ (n : j ≢ h). place_same i _ _ (left_other ls h w j n))
        (same? j h)

    pub entered-place : (ls : List ℕ) → length ls ≡ line_count * line_width → (place : List ℕ → ℕ) (h j : ℕ) → (j ≡ h → (xs : List ℕ) → place xs ≡ length xs)
        → SamePlace i (line ls j) (line (entered place h w ls) j)
    entered-place ls all place h j back =
        ⊎_elim
        (λ (e : j ≡ h).
        by-range h line_count
        (λ l.
        by-range (length (line ls h)) line_most
        (λ room. rw (e, entered-same ls h w place l all room, back e (line ls h)) (place-back i w (line ls h)))
        (λ full. place_same i _ _ (rw (entered-full ls h w place full))))
        (λ l. place_same i _ _ (rw (entered-out ls h w place l))))
        (λ (n : j ≢ h). place_same i _ _ (entered-other ls h w place j n))
        (same? j h)

    module _ (x : TaskQueues) (all : length x.lines ≡ line_count * line_width) (place : List ℕ → ℕ) (k : Task)
        (back : A (home_of k) → (xs : List ℕ) → place xs ≡ length xs) where
      -- the lines once it has left its own
      abbrev mid : List ℕ
      mid = out_of (task_home x.tasks w) w x.lines

      mid-length : length mid ≡ length x.lines
      mid-length = length-left x.lines (task_home x.tasks w) w

      there : SameIn i A x (task_queues (with_task x.tasks w k) (entered place (home_of k) w mid))
      there =
          record {
            task_length = length-with_task x.tasks w k;
            line_length = length-entered mid (home_of k) w place ∙ mid-length;
            row = rw (task-other x.tasks w k i (λ e. other (sym e))) (row-refl (task x.tasks i));
            place = λ j a.
                place-trans i _ _ _
                (left-place x.lines all (task_home x.tasks w) j)
                (entered-place mid (mid-length ∙ all) place (home_of k) j (λ e. back (rw e at a)));
          }

      pub in_moved : SameIn i A x (moved place w k x)
      unfolding moved
      in_moved = by-range w task_count (λ l. rw (lt-ltb w task_count l) there) (λ l. rw (le-ltb w task_count l) (in-refl x))

-- whoever does not move has its row
pub moved-others : (place : List ℕ → ℕ) (w : ℕ) (k : Task) (x : TaskQueues) (i : ℕ) → w ≢ i → task (moved place w k x).tasks i ≡ task x.tasks i
unfolding moved
moved-others place w k x i other =
    by-range w task_count
    (λ l. rw (lt-ltb w task_count l) (task-other x.tasks w k i (λ e. other (sym e))))
    (λ l. rw (le-ltb w task_count l))
