-- A semaphore at which somebody waits keeps its kind, whatever call is accepted: a creation takes a number not in use, a delete needs an empty line,
-- the other calls on semaphores store a count alone (`other_word`), and calls of other kinds leave the table alone (`on-semaphores-or-not`).
use Prim.Native.Nat.{ℕ}
use mathlib.Core.Path.{◌≡◌, refl, sym, ap, ◌∙◌}
use mathlib.Core.Logic.{◌≢◌, ⊎_elim}
use mathlib.Core.Bool.{true, true≢false}
use mathlib.Core.List.{List, [], ◌∷◌}
use native.Mathlib.Omega.{arith}
use lib.Dec.{eqb, ltb}
use borrow.Author.Tests.{eqb-true}
use Rattle.basics.specs.Lists.{zeros}
use Rattle.basics.proofs.Laws.{same?}
use Rattle.rules.specs.Answer.{CallRule, Effect, code_of, called}
use Rattle.rules.specs.Tables.{semaphore_count, semaphore_width, semaphore, with_semaphore, USED, KIND, COUNT}
use Rattle.rules.specs.Lines.{anyone, semaphore_line}
use Rattle.rules.specs.Waits.{WaitTables, wait_tables}
use Rattle.rules.specs.Semaphores.{free_semaphore, create_cases, create_effect, delete_cases, delete_effect, pend_cases, pend_effect, post_cases, post_effect}
use Rattle.rules.specs.Semaphores.{reset_cases, reset_effect, semaphore_call}
use Rattle.rules.specs.Step.{over, with_semaphores, call_of, in_range}
use Rattle.rules.specs.declared.Tables.{Tables}
use Rattle.rules_laws.proofs.Rows.{field-other, field_row, row_other}
use Rattle.rules_laws.proofs.Calls.{chosen}
use Rattle.demand_2_soundness.proofs.Codes.{accepted-is}
use Rattle.demand_2_soundness.proofs.Objects.{free-is}

-- where a count is stored every other word of each semaphore stays
pub other_word : (ss : List ℕ) (a v s f : ℕ) → f ≢ COUNT → semaphore (with_semaphore ss a COUNT v) s f ≡ semaphore ss s f
other_word ss a v s f other =
    ⊎_elim
    (λ (e : s ≡ a). rw e (field-other semaphore_width semaphore_count ss a COUNT v f other))
    (λ (n : s ≢ a). field_row semaphore_width semaphore_count ss a COUNT v s f n)
    (same? s a)

module _ (s : ℕ) (q : WaitTables) (used : semaphore q.objects s USED ≢ 0) (waiters : anyone q.lines (semaphore_line s) ≡ true) where
  abbrev Kept : CallRule WaitTables → Type 0
  Kept k = code_of k.cases ≡ 0 → semaphore k.effect.next.objects s KIND ≡ semaphore q.objects s KIND

  -- a new one takes a number not in use
  create-kept : (x a b c d : ℕ) → Kept (called (create_cases q.objects x a b c d) (create_effect q a b))
  unfolding create_cases create_effect free_semaphore
  create-kept x a b c d z =
      let ok = accepted-is (create_cases q.objects x a b c d) z in
      let free = eqb-true _ _ (free-is semaphore_count (λ i. eqb (semaphore q.objects i USED) 0) ok.at6).1 in
      row_other semaphore_width semaphore_count q.objects (free_semaphore q.objects) (1 ∷ a ∷ b ∷ []) (omega arith) s KIND
      (λ e. used (ap (λ (i : ℕ). semaphore q.objects i USED) e ∙ free))

  -- one is deleted without waiters alone
  delete-kept : (x a b c d : ℕ) → Kept (called (delete_cases q.lines q.objects x a b c d) (delete_effect q a))
  unfolding delete_cases delete_effect
  delete-kept x a b c d z =
      let ok = accepted-is (delete_cases q.lines q.objects x a b c d) z in
      row_other semaphore_width semaphore_count q.objects a (zeros semaphore_width) (omega arith) s KIND
      (λ e. true≢false (sym waiters ∙ ap (λ (i : ℕ). anyone q.lines (semaphore_line i)) e ∙ ok.at5))

  pend-kept : (st : List ℕ) (x a b c d : ℕ) → Kept (called (pend_cases q.objects st x a b c d) (pend_effect q st a b))
  unfolding pend_effect
  pend-kept st x a b c d z =
      chosen (λ (r : Effect WaitTables). semaphore r.next.objects s KIND ≡ semaphore q.objects s KIND) (ltb 0 (semaphore q.objects a COUNT)) _ _
      (λ _. other_word q.objects a _ s KIND (λ e. omega arith))
      (λ _.
      chosen (λ (r : Effect WaitTables). semaphore r.next.objects s KIND ≡ semaphore q.objects s KIND) (eqb b 0) _ _ (λ _. refl) (λ _. refl))

  post-kept : (a b c d : ℕ) → Kept (called (post_cases q.objects a b c d) (post_effect q a))
  unfolding post_effect
  post-kept a b c d z =
      chosen (λ (r : Effect WaitTables). semaphore r.next.objects s KIND ≡ semaphore q.objects s KIND) (anyone q.lines (semaphore_line a)) _ _
      (λ _. refl)
      (λ _. other_word q.objects a _ s KIND (λ e. omega arith))

  reset-kept : (x a b c d : ℕ) → Kept (called (reset_cases q.lines q.objects x a b c d) (reset_effect q a b))
  unfolding reset_effect
  reset-kept x a b c d z = other_word q.objects a b s KIND (λ e. omega arith)

  semaphore-kept : (st : List ℕ) (x number a b c d : ℕ) → Kept (semaphore_call q st x number a b c d)
  unfolding semaphore_call
  semaphore-kept st x number a b c d =
      chosen Kept (eqb number 0x20) _ _ (λ _. create-kept x a b c d)
      (λ _.
      chosen Kept (eqb number 0x21) _ _ (λ _. delete-kept x a b c d)
      (λ _.
      chosen Kept (eqb number 0x22) _ _ (λ _. pend-kept st x a b c d)
      (λ _.
      chosen Kept (eqb number 0x23) _ _ (λ _. post-kept a b c d)
      (λ _. chosen Kept (eqb number 0x24) _ _ (λ _. reset-kept x a b c d) (λ _ z. refl)))))

-- what holds of every call that leaves the semaphores alone, and of the calls on semaphores, holds of all calls
pub on-semaphores-or-not : (t : Tables) (x number a b c d : ℕ) (P : CallRule Tables → Type 0)
    → ((k : CallRule Tables) → k.effect.next.semaphores ≡ t.semaphores → P k)
    → P (over (with_semaphores t) (semaphore_call (wait_tables t.tasks t.lines t.semaphores) t.state x number a b c d))
    → P (call_of t x number a b c d)
unfolding call_of
on-semaphores-or-not t x number a b c d P alone ours =
    chosen P (in_range number 0x00) _ _ (λ _. alone _ refl)
    (λ _.
    chosen P (in_range number 0x10) _ _ (λ _. alone _ refl)
    (λ _.
    chosen P (in_range number 0x20) _ _ (λ _. ours)
    (λ _.
    chosen P (in_range number 0x30) _ _ (λ _. alone _ refl)
    (λ _.
    chosen P (in_range number 0x40) _ _ (λ _. alone _ refl)
    (λ _.
    chosen P (in_range number 0x50) _ _ (λ _. alone _ refl)
    (λ _.
    chosen P (in_range number 0x60) _ _ (λ _. alone _ refl)
    (λ _. chosen P (in_range number 0x70) _ _ (λ _. alone _ refl) (λ _. alone _ refl))))))))

pub kind-kept : (t : Tables) (s : ℕ) → semaphore t.semaphores s USED ≢ 0 → anyone t.lines (semaphore_line s) ≡ true
    → (x number a b c d : ℕ)
    → code_of (call_of t x number a b c d).cases ≡ 0
    → semaphore (call_of t x number a b c d).effect.next.semaphores s KIND ≡ semaphore t.semaphores s KIND
kind-kept t s used waiters x number a b c d =
    on-semaphores-or-not t x number a b c d P (λ k e z. ap (λ (ss : List ℕ). semaphore ss s KIND) e)
    (semaphore-kept s (wait_tables t.tasks t.lines t.semaphores) used waiters t.state x number a b c d)
  where
    P : CallRule Tables → Type 0
    P k = code_of k.cases ≡ 0 → semaphore k.effect.next.semaphores s KIND ≡ semaphore t.semaphores s KIND
