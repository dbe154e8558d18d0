-- A refused call leaves the tables as they were, and of tables that stayed nothing is told.
use Prim.Native.Nat.{ℕ, zero, suc, ◌+◌}
use mathlib.Core.Path.{◌≡◌, refl, sym, ap, subst, ◌∙◌}
use mathlib.Core.Logic.{◌≢◌}
use mathlib.Core.Bool.{Bool, true, false, not, ◌&&◌, ◌||◌, cond as if}
use mathlib.Core.List.{List, [], ◌∷◌}
use borrow.Author.Tests.{eq-eqb, ne_eqb}
use lib.Dec.{eqb}
use lib.ListN.{length, get_or}
use Rattle.basics.specs.Find.{all_below}
use Rattle.basics.proofs.Finds.{all-make}
use Rattle.rules.specs.Rows.{field}
use Rattle.rules.specs.Tables.{task, task_count, swi_count, swi_width, event_count, event_width, mailbox_count, mailbox_width, clock_count, clock_width, heap_units}
use Rattle.rules.specs.Tables.{semaphore_count, semaphore_width}
use Rattle.rules.specs.Lines.{semaphore_line, event_line}
use Rattle.rules.specs.Heap.{unit}
use Rattle.rules.specs.declared.Tables.{Tables}
use Rattle.rules.specs.declared.Task.{Task}
use Rattle.rules.specs.declared.Step.{Step}
use Rattle.runs.specs.Run.{made, next}
use Rattle.demand_1_refusals.proofs.Demand.{left_alone}
use Rattle.trace_changes.specs.Numbers.{each_below, same_list, told}
use Rattle.trace_changes.specs.Changes.{same_task, changed_tasks, posts_made, is_started, started_swi, same_row, changed_rows, changed_lined, same_mailbox, changed_mailboxes, changed_clocks, same_heap, changed_heap}
use Rattle.trace_changes.specs.Line.{parts}
use Rattle.trace_changes.specs.declared.Made.{Made}
use Rattle.trace_told.specs.Told.{given_of, NothingTold}
use Rattle.rules.specs.declared.Call.{Call}

-- ---- what is the same
is-self : (n : ℕ) → eqb n n ≡ true
is-self n = eq-eqb n n refl

same-task : (k : Task) → same_task k k ≡ true
unfolding same_task
same-task k = rw (is-self k.mode, is-self k.priority, is-self k.object, is-self k.outcome, is-self k.value)

same-list : (xs : List ℕ) → same_list xs xs ≡ true
unfolding same_list
same-list xs = rw (is-self (length xs)) (all-make _ (length xs) (λ k l. is-self (get_or xs k 0)))

same_row_lem : (w n : ℕ) (t : List ℕ) (i : ℕ) → same_row w n t t i ≡ true
unfolding same_row
same_row_lem w n t i = all-make _ w (λ f l. is-self (field w n t i f))

same-mailbox : (bs ls : List ℕ) (i : ℕ) → same_mailbox bs ls bs ls i ≡ true
unfolding same_mailbox
same-mailbox bs ls i = rw (same_row_lem mailbox_width mailbox_count bs i, same-list)

same_heap_lem : (h : List ℕ) → same_heap h h ≡ true
unfolding same_heap
same_heap_lem h = all-make _ heap_units (λ u l. is-self (unit h u))

-- ---- so nothing is told
each-empty : (n : ℕ) (f : ℕ → List ℕ) → ((i : ℕ) → f i ≡ []) → each_below n f ≡ []
unfolding each_below
each-empty zero f h = refl
each-empty (suc n) f h = rw (each-empty n f h, h n)

no-tasks : (ts : List ℕ) → changed_tasks ts ts ≡ []
unfolding changed_tasks
no-tasks ts = each-empty task_count _ (λ i. rw (same-task (task ts i)))

no_rows : (w n : ℕ) (t : List ℕ) → changed_rows w n t t ≡ []
unfolding changed_rows
no_rows w n t = each-empty n _ (λ i. rw (same_row_lem w n t i))

no-lined : (w n from : ℕ) (t ls : List ℕ) → changed_lined w n from t ls t ls ≡ []
unfolding changed_lined
no-lined w n from t ls = each-empty n _ (λ i. rw (same_row_lem w n t i, same-list))

no-mailboxes : (bs ls : List ℕ) → changed_mailboxes bs ls bs ls ≡ []
unfolding changed_mailboxes
no-mailboxes bs ls = each-empty 8 _ (λ i. rw (same-mailbox bs ls i))

no-heap : (h : List ℕ) → changed_heap h h ≡ []
unfolding changed_heap
no-heap h = rw (same_heap_lem h)

-- ---- of a call with a code
module _ (q : Made) (code : q.answer.code ≢ 0) where
  is-refused : eqb q.answer.code 0 ≡ false
  is-refused = ne_eqb q.answer.code 0 code

  no-posts : (cs ws : List ℕ) → posts_made q cs ws ≡ []
  unfolding posts_made
  no-posts cs ws = rw is-refused

  no_start : (ls ms : List ℕ) → started_swi q ls ms ≡ []
  unfolding started_swi is_started
  no_start ls ms = rw is-refused

  no-clocks : (cs : List ℕ) → changed_clocks q cs cs ≡ []
  unfolding changed_clocks
  no-clocks cs = rw is-refused (no_rows clock_width clock_count cs)

pub refused-told : (t : Tables) (q : Call) → (made t q).answer.code ≢ 0 → NothingTold t q
unfolding parts
refused-told t q code =
    let same : next t q ≡ t = ap (λ (s : Step). s.tables) (left_alone t q code) in
    record {
      parts = λ n.
          rw (same, no-tasks t.tasks, no-posts (given_of n q (made t q)) code t.clocks t.swis, no_start (given_of n q (made t q)) code t.lines t.lines)
          (rw (no-lined semaphore_width semaphore_count (semaphore_line 0) t.semaphores t.lines)
          (rw (no-lined event_width event_count (event_line 0) t.events t.lines, no-mailboxes t.mailboxes t.lines)
          (rw (no_rows swi_width swi_count t.swis, no-clocks (given_of n q (made t q)) code t.clocks, no-heap t.heap))));
    }
