-- A call that is accepted leaves task i its row and its place: the form in which each call is shown to, and who may move.
use Prim.Native.Nat.{ℕ}
use mathlib.Core.Path.{◌≡◌, refl}
use mathlib.Core.Logic.{◌≢◌}
use mathlib.Core.Bool.{Bool, true, false, cond as if}
use mathlib.Core.List.{List}
use borrow.Author.Tests.{eqb-true, not-false}
use lib.Dec.{eqb}
use lib.ListN.{length}
use Rattle.rules.specs.Answer.{T, Effect, CallRule, code_of, unknown, not_t}
use Rattle.rules.specs.Tables.{Typed, current}
use Rattle.rules.specs.Lines.{anyone, front_of, home_of, TaskQueues, task_queues, moved, at_back}
use Rattle.rules.specs.Waits.{woken}
use Rattle.rules.specs.Dispatch.{running, context}
use Rattle.rules.specs.declared.Tables.{Tables}
use Rattle.rules.specs.declared.Task.{Task}
use Rattle.rules_laws.proofs.Calls.{chosen}
use Rattle.demand_2_soundness.proofs.Codes.{unknown-refused}
use Rattle.demand_2_soundness.proofs.Waiting.{task-context}
use Rattle.demand_3_turns.proofs.Same.{served_line, Unmoved, Arrival}
use Rattle.demand_3_turns.proofs.Steps.{SameIn, in-refl, in_moved}
use Rattle.rules.specs.declared.Call.{Call}

-- the tasks and lines x beside those of t
abbrev pub Left : Tables → ℕ → TaskQueues → Type 0
Left t i x = SameIn i (Arrival t) (task_queues t.tasks t.lines) x

-- a call, accepted, leaves them so; `put` says which they are
abbrev pub Leaves : Tables → ℕ → {A : Type 0} → (A → TaskQueues) → CallRule A → Type 0
Leaves t i put c = code_of c.cases ≡ 0 → Left t i (put c.effect.next)

module _ (t : Tables) (i : ℕ) {A : Type 0} (put : A → TaskQueues) where
  pub by_number : (n k : ℕ) (c d : CallRule A) → (n ≡ k → Leaves t i put c) → Leaves t i put d → Leaves t i put (if (eqb n k) c d)
  by_number n k c d p q = chosen (λ (e : CallRule A). Leaves t i put e) (eqb n k) c d (λ e. p (eqb-true n k e)) (λ _. q)

  pub by-test : (b : Bool) (x y : Effect A) → (b ≡ true → Left t i (put x.next)) → (b ≡ false → Left t i (put y.next))
      → Left t i (put (if b x y).next)
  by-test b x y p q = chosen (λ (e : Effect A). Left t i (put e.next)) b x y p q

  pub unknown-leaves : (x : A) → Leaves t i put (unknown x)
  unknown-leaves x z = absurd (unknown-refused x z)

-- nobody moves
pub stay : (t : Tables) (i : ℕ) → Left t i (task_queues t.tasks t.lines)
stay t i = in-refl i (Arrival t) (task_queues t.tasks t.lines)

-- ---- the context of a call
pub called-by-task : (x : ℕ) → not_t x ≡ false → x ≡ T
called-by-task x e = eqb-true x T (not-false _ e)

-- ---- who may move is another than i
module _ (t : Tables) (typed : Typed t) (q : Call) (i : ℕ) (u : Unmoved t q i) where
  pub moves : (w : ℕ) → w ≢ i → (place : List ℕ → ℕ) (k : Task)
      → (Arrival t (home_of k) → (xs : List ℕ) → place xs ≡ length xs)
      → Left t i (moved place w k (task_queues t.tasks t.lines))
  moves w n place k back = in_moved i (Arrival t) w n (task_queues t.tasks t.lines) typed.lines place k back

  -- the current task, where it runs
  pub current-other : context t.lines t.state ≡ T → current t.state ≢ i
  unfolding running
  current-other c e =
      let (depth, none) = task-context t.lines t.state c in
      u.rests (rw (depth, none, e))

  pub current-moves : context t.lines t.state ≡ T → (k : Task)
      → Left t i (moved at_back (current t.state) k (task_queues t.tasks t.lines))
  current-moves c k = moves (current t.state) (current-other c) at_back k (λ _ xs. refl)

  -- the first where the call may serve
  pub first-moves : (j o v : ℕ) → served_line q ≡ j → anyone t.lines j ≡ true → Left t i (woken (front_of t.lines j) o v (task_queues t.tasks t.lines))
  first-moves j o v e some =
      moves (front_of t.lines j) (rw e at (u.behind (rw e some))) at_back _ (λ _ xs. refl)
