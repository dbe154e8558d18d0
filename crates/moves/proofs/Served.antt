-- What an accepted call answers, and how it leaves the tasks, the lines and the table of its objects.
use Prim.Native.Nat.{ℕ, ◌<◌, ◌≤◌}
use mathlib.Core.Path.{◌≡◌, sym, ap, ◌∙◌}
use mathlib.Core.Logic.{◌≢◌}
use mathlib.Core.Bool.{Bool, true, false, ◌||◌}
use mathlib.Core.List.{List}
use native.Mathlib.Omega.{arith}
use borrow.Author.Tests.{eq-eqb, ne_eqb, lt-ltb, le-ltb}
use lib.Dec.{eqb, ltb}
use Rattle.rules.specs.Answer.{with_answer, accepted, answer}
use Rattle.rules.specs.Lines.{TaskQueues, task_queues}
use Rattle.rules.specs.Waits.{WaitTables, wait_tables, with_queues}
use Rattle.rules.specs.declared.Answer.{Answer}

-- an answer and the tables, each equal to what is said of it
pub accepted-is : {A : Type 0} (o v : ℕ) {r : Answer} {t u : A} → r ≡ answer 0 o v → t ≡ u → with_answer r t ≡ accepted o v u
accepted-is o v a e = λ z. with_answer (a z) (e z)

module _ (q : WaitTables) (o v : ℕ) {r : Answer} (is : r ≡ answer 0 o v) where
  -- nothing changed
  pub kept-is : with_answer r q ≡ accepted o v q
  kept-is = ap (λ (x : Answer). with_answer x q) is

  -- the objects changed
  pub objects-is : {os₁ os : List ℕ} → os₁ ≡ os → with_answer r (wait_tables q.tasks q.lines os₁) ≡ accepted o v (wait_tables q.tasks q.lines os)
  objects-is e = accepted-is o v is (ap (wait_tables q.tasks q.lines) e)

  -- a task moved
  pub requeued-is : {ts₁ ls₁ : List ℕ} {x : TaskQueues} → task_queues ts₁ ls₁ ≡ x
      → with_answer r (wait_tables ts₁ ls₁ q.objects) ≡ accepted o v (with_queues q x)
  requeued-is e = accepted-is o v is (ap (with_queues q) e)

-- a new object: its number is the value, and its row is stored
pub made-is : (q : WaitTables) (row : ℕ → List ℕ) (n : ℕ) {i : ℕ} {os₁ : List ℕ} {r : Answer} → i ≡ n → os₁ ≡ row i → r ≡ answer 0 0 i
    → with_answer r (wait_tables q.tasks q.lines os₁) ≡ accepted 0 n (wait_tables q.tasks q.lines (row n))
made-is q row n a e f = objects-is q 0 n (f ∙ ap (answer 0 0) a) (e ∙ ap row a)

-- ---- a number that was read, tested against n
module _ (n : ℕ) {v w : ℕ} (is : v ≡ w) where
  pub is_same : v ≡ n → eqb w n ≡ true
  is_same h = eq-eqb w n (sym is ∙ h)

  pub is-other : v ≢ n → eqb w n ≡ false
  is-other h = ne_eqb w n (λ (e : w ≡ n). h (is ∙ e))

  pub is-above : n < v → ltb n w ≡ true
  is-above h = lt-ltb n w (omega arith)

  pub is_within : v ≤ n → ltb n w ≡ false
  is_within h = le-ltb n w (omega arith)

-- ---- two tests that were made, either of them
module _ {a b p q t : Bool} (e : a ≡ p) (f : b ≡ q) where
  pub either-test : (a || b) ≡ t → (p || q) ≡ t
  either-test h = (λ z. sym e z || sym f z) ∙ h
