-- An empty part says that nothing of its kind changed: each test for 'the same' holds exactly of what is equal.
use Prim.Native.Nat.{ℕ, zero, suc, ◌+◌, ◌<◌}
use mathlib.Core.Path.{◌≡◌, refl, sym, ap, ◌∙◌}
use mathlib.Core.Logic.{⊎_elim}
use mathlib.Core.Bool.{Bool, true, false, not, ◌&&◌, and-eq-true_iff}
use mathlib.Core.List.{List, [], ◌∷◌, ◌++◌}
use native.Mathlib.Omega.{arith}
use native.Mathlib.Nat.{eq-or-lt_of_le, le_of_suc-le-suc}
use borrow.Author.Tests.{eqb-true}
use lib.Dec.{eqb}
use lib.ListN.{length, get_or, length-append}
use lib.Seq.{ext_get_or}
use Rattle.basics.specs.Find.{all_below}
use Rattle.basics.proofs.Finds.{all-at}
use Rattle.rules.specs.Rows.{field}
use Rattle.rules.specs.Tables.{task_count, mailbox_count, mailbox_width, heap_units, task}
use Rattle.rules.specs.Lines.{line, mailbox_line}
use Rattle.rules.specs.Heap.{unit}
use Rattle.rules.specs.declared.Task.{Task}
use Rattle.trace_changes.specs.Numbers.{each_below, same_list, told}
use Rattle.trace_changes.specs.Changes.{same_task, task_numbers, changed_tasks, same_row, changed_rows, changed_lined, same_mailbox, mailbox_numbers, changed_mailboxes, same_heap, changed_heap}
use Rattle.trace_told.specs.Told.{SameTask, SameWords, EmptyParts}

-- ---- what the tests say
task-is : (k l : Task) → same_task k l ≡ true → SameTask k l
unfolding same_task
task-is k l e =
    let (e4, value) = (and-eq-true_iff (eqb k.mode l.mode && eqb k.priority l.priority && eqb k.object l.object && eqb k.outcome l.outcome) (eqb k.value l.value)).0 e in
    let (e3, outcome) = (and-eq-true_iff (eqb k.mode l.mode && eqb k.priority l.priority && eqb k.object l.object) (eqb k.outcome l.outcome)).0 e4 in
    let (e2, object) = (and-eq-true_iff (eqb k.mode l.mode && eqb k.priority l.priority) (eqb k.object l.object)).0 e3 in
    let (mode, priority) = (and-eq-true_iff (eqb k.mode l.mode) (eqb k.priority l.priority)).0 e2 in
    record {
      mode = eqb-true _ _ mode;
      priority = eqb-true _ _ priority;
      object = eqb-true _ _ object;
      outcome = eqb-true _ _ outcome;
      value = eqb-true _ _ value;
    }

row_is : (w n : ℕ) (t u : List ℕ) (i : ℕ) → same_row w n t u i ≡ true → SameWords w n t u i
unfolding same_row
row_is w n t u i e f l = eqb-true _ _ (all-at (λ g. eqb (field w n t i g) (field w n u i g)) w e f l)

list-is : (xs ys : List ℕ) → same_list xs ys ≡ true → xs ≡ ys
unfolding same_list
list-is xs ys e =
    let both = (and-eq-true_iff (eqb (length xs) (length ys)) (all_below (length xs) (λ k. eqb (get_or xs k 0) (get_or ys k 0)))).0 e in
    ext_get_or 0 xs ys (eqb-true _ _ both.0) (λ k l. eqb-true _ _ (all-at (λ k. eqb (get_or xs k 0) (get_or ys k 0)) (length xs) both.1 k l))

-- ---- an empty part: nothing is told of anyone
empty-both : (xs ys : List ℕ) → xs ++ ys ≡ [] → (xs ≡ []) × (ys ≡ [])
empty-both [] ys e = (refl, e)
empty-both (x ∷ xs) ys e = absurd (omega (arith, ap length e))

each-empty : (n : ℕ) (f : ℕ → List ℕ) → each_below n f ≡ [] → (i : ℕ) → i < n → f i ≡ []
unfolding each_below
each-empty zero f e i l = absurd (omega arith)
each-empty (suc n) f e i l =
    let both = empty-both (each_below n f) (f n) e in
    ⊎_elim (λ (q : i ≡ n). rw q both.1) (λ (h : i < n). each-empty n f both.0 i h) (eq-or-lt_of_le (le_of_suc-le-suc l))

not-told : (same : Bool) (x : ℕ) (xs : List ℕ) → told (not same) (x ∷ xs) ≡ [] → same ≡ true
not-told true x xs e = refl
not-told false x xs e = absurd (omega (arith, ap length e))

tasks-empty : (ts us : List ℕ) → changed_tasks ts us ≡ [] → (i : ℕ) → i < task_count → SameTask (task ts i) (task us i)
unfolding changed_tasks task_numbers
tasks-empty ts us e i l = task-is _ _ (not-told _ _ _ (each-empty task_count _ e i l))

lined-empty : (w n from : ℕ) (t ls u ms : List ℕ) → changed_lined w n from t ls u ms ≡ []
    → (i : ℕ) → i < n → SameWords w n t u i × (line ls (from + i) ≡ line ms (from + i))
unfolding changed_lined
lined-empty w n from t ls u ms e i l =
    let both = (and-eq-true_iff (same_row w n t u i) (same_list (line ls (from + i)) (line ms (from + i)))).0 (not-told _ _ _ (each-empty n _ e i l)) in
    (row_is w n t u i both.0, list-is _ _ both.1)

mailboxes-empty : (bs ls ds ms : List ℕ) → changed_mailboxes bs ls ds ms ≡ []
    → (i : ℕ) → i < mailbox_count → SameWords mailbox_width mailbox_count bs ds i × (line ls (mailbox_line i) ≡ line ms (mailbox_line i))
unfolding changed_mailboxes mailbox_numbers same_mailbox
mailboxes-empty bs ls ds ms e i l =
    let same = not-told _ _ _ (each-empty mailbox_count _ e i l) in
    let both = (and-eq-true_iff (same_row mailbox_width mailbox_count bs ds i) (same_list (line ls (mailbox_line i)) (line ms (mailbox_line i)))).0 same in
    (row_is mailbox_width mailbox_count bs ds i both.0, list-is _ _ both.1)

rows_empty : (w n : ℕ) (t u : List ℕ) → changed_rows w n t u ≡ [] → (i : ℕ) → i < n → SameWords w n t u i
unfolding changed_rows
rows_empty w n t u e i l = row_is w n t u i (not-told _ _ _ (each-empty n _ e i l))

heap-empty : (h k : List ℕ) → changed_heap h k ≡ [] → (u : ℕ) → u < heap_units → unit h u ≡ unit k u
unfolding changed_heap same_heap
heap-empty h k e u l = eqb-true _ _ (all-at (λ v. eqb (unit h v) (unit k v)) heap_units (not-told _ _ _ e) u l)

pub empty-parts : EmptyParts
empty-parts = record { tasks = tasks-empty; lined = lined-empty; mailboxes = mailboxes-empty; rows = rows_empty; heap = heap-empty }
