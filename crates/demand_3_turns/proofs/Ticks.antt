-- Calls 74 to 78 leave a task that has not its last tick its row and its place.
use Prim.Native.Nat.{ℕ, zero, suc, ◌≤◌, ◌*◌}
use mathlib.Core.Path.{◌≡◌, refl, sym, ap, ◌∙◌}
use mathlib.Core.Logic.{◌≢◌}
use native.Mathlib.Omega.{arith}
use borrow.Author.Tests.{eqb-true, eqb-false}
use lib.Dec.{eqb}
use lib.ListN.{length}
use Rattle.basics.specs.Find.{rising}
use Rattle.rules.specs.Tables.{Typed, task_count, task, task_width}
use Rattle.rules.specs.Lines.{TaskQueues, task_queues, at_back, line_count, line_width}
use Rattle.rules.specs.Sound.{Sound}
use Rattle.rules.specs.Waits.{readied}
use Rattle.rules.specs.Tick.{TickTables, tick_tables, one_less, ended_with, task_tick, clocks_ticked, ticked, switch_call}
use Rattle.rules.specs.Dispatch.{context}
use Rattle.rules.specs.declared.Tables.{Tables}
use Rattle.rules.specs.declared.Task.{Task}
use Rattle.rules_laws.proofs.Calls.{chosen}
use Rattle.demand_2_soundness.proofs.TaskRows.{task-same, task-other, task-in}
use Rattle.demand_3_turns.proofs.Same.{Unmoved, Arrival}
use Rattle.demand_3_turns.proofs.Steps.{SameRow, SameIn, in-refl, in-trans, in_row, in_moved, moved-others}
use Rattle.demand_3_turns.proofs.SwiLines.{clocks-aside}
use Rattle.demand_3_turns.proofs.SwiCalls.{aside-leaves, posting-starts}
use Rattle.demand_3_turns.proofs.Leaves.{Left, Leaves, by_number, unknown-leaves, stay}
use Rattle.rules.specs.declared.Call.{Call}

less : (k : Task) → k.left ≢ 0 → SameRow k (one_less k)
less k n = record { mode = refl; object = refl; priority = λ _. refl; endless = λ z. absurd (n z); result = (refl, refl) }

-- ---- the tasks' ticks, in rising number
module _ (i : ℕ) (A : ℕ → Type 0) (x : TaskQueues) (tasks : length x.tasks ≡ task_count * task_width) (lines : length x.lines ≡ line_count * line_width)
    (lasts : (task x.tasks i).left ≢ 1) where
  -- those below n have had theirs, and where i is not among them it has the ticks that it had
  record Ticking (n : ℕ) (y : TaskQueues) : Type 0 where
    so_far : SameIn i A x y
    ahead : n ≤ i → (task y.tasks i).left ≢ 1

  -- a step that leaves i its row, or is its own
  goes : (n : ℕ) (y z : TaskQueues) → Ticking n y → SameIn i A y z → (n ≢ i → task z.tasks i ≡ task y.tasks i) → Ticking (suc n) z
  goes n y z k step same =
      record {
        so_far = in-trans i A x y z k.so_far step;
        ahead = λ l. rw (same (λ e. omega arith)) (k.ahead (omega arith));
      }

  tick_goes : (n : ℕ) (y : TaskQueues) → Ticking n y → Ticking (suc n) (task_tick y n)
  unfolding task_tick
  tick_goes n y k =
      let w = task y.tasks n in
      let full : length y.tasks ≡ task_count * task_width = k.so_far.task_length ∙ tasks in
      chosen (λ (z : TaskQueues). Ticking (suc n) z) (eqb w.left 0) _ _
      (λ _. goes n y y k (in-refl i A y) (λ _. refl))
      (λ some.
      chosen (λ (z : TaskQueues). Ticking (suc n) z) (eqb w.left 1) _ _
      (λ e.
      let last : w.left ≡ 1 = eqb-true _ _ e in
      let other : n ≢ i = λ (own : n ≡ i). k.ahead (omega arith) (rw own at last) in
      let next : Task = readied w (ended_with w.mode) 0 in
      goes n y _ k
      (in_moved i A n other y (k.so_far.line_length ∙ lines) at_back next (λ _ xs. refl))
      (λ _. moved-others at_back n next y i other))
      (λ _.
      let left : w.left ≢ 0 = eqb-false _ _ some in
      let lt = task-in y.tasks n (λ e. left (ap (λ (m : Task). m.left) e)) in
      goes n y _ k
      (in_row i A y n (one_less w) (λ own. rw (← own, task-same y.tasks n (one_less w) full lt) (less w left)))
      (λ other. task-other y.tasks n (one_less w) i (λ e. other (sym e)))))

  ticks : (n : ℕ) → Ticking n (rising n task_tick x)
  unfolding rising
  ticks zero = record { so_far = in-refl i A x; ahead = λ _. lasts }
  ticks (suc n) = tick_goes n (rising n task_tick x) (ticks n)

  pub tasks-ticked : SameIn i A x (rising task_count task_tick x)
  tasks-ticked = (ticks task_count).so_far

-- ---- the whole tick, and the calls by number
module _ (t : Tables) (typed : Typed t) (s : Sound t) (q : Call) (i : ℕ) (u : Unmoved t q i) where
  abbrev tt : TickTables
  tt = tick_tables t.tasks t.lines t.swis t.clocks t.state

  abbrev put : TickTables → TaskQueues
  put y = task_queues y.tasks y.lines

  tick-leaves : Left t i (put (ticked tt))
  unfolding ticked
  tick-leaves =
      let ls = (clocks_ticked t.clocks t.swis t.lines).lines in
      let aside = clocks-aside t.clocks t.swis t.lines (posting-starts t s) in
      in-trans i (Arrival t) _ (task_queues t.tasks ls) _ (aside-leaves t i ls aside)
      (tasks-ticked i (Arrival t) (task_queues t.tasks ls) typed.tasks (aside.full ∙ typed.lines) u.lasts)

  pub switches-leave : Leaves t i put (switch_call tt (context t.lines t.state) q.number q.a q.b q.c q.d)
  unfolding switch_call
  switches-leave =
      by_number t i put q.number 0x74 _ _ (λ _ _. stay t i)
      (by_number t i put q.number 0x75 _ _ (λ _ _. stay t i)
      (by_number t i put q.number 0x76 _ _ (λ _ _. tick-leaves)
      (by_number t i put q.number 0x77 _ _ (λ _ _. stay t i)
      (by_number t i put q.number 0x78 _ _ (λ _ _. stay t i) (unknown-leaves t i put tt)))))
