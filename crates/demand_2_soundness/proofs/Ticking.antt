-- A tick: each clock and each task, in rising number, keeps the rules that dispatch starts from.
use Prim.Native.Nat.{ℕ, zero, suc, ◌-◌, ◌<◌}
use mathlib.Core.Path.{◌≡◌, refl, ap, ◌∙◌}
use mathlib.Core.Logic.{◌≢◌, ⊎_elim}
use mathlib.Core.Bool.{Bool, true, false, false≢true}
use mathlib.Core.List.{List}
use native.Mathlib.Omega.{arith}
use borrow.Author.Tests.{eq-eqb, ne_eqb}
use lib.Dec.{eqb}
use Rattle.basics.specs.Find.{rising}
use Rattle.basics.specs.Rule.{Means}
use Rattle.basics.proofs.Laws.{same?}
use Rattle.rules.specs.Tables.{task_count, clock_count, not_in_use, ready, sleeping, terminated, inactive, task, clock, with_clock, swi, tables, USED, levels}
use Rattle.rules.specs.Lines.{TaskQueues, task_queues}
use Rattle.rules.specs.Swis.{SwiQueues, swi_queues, posted}
use Rattle.rules.specs.Clocks.{with_left}
use Rattle.rules.specs.Tick.{aged, posted_if, ClockTables, clock_tables, clock_tick, clocks_ticked, one_less, ended_with, task_tick, tasks_ticked}
use Rattle.rules.specs.Sound.{clock_rule, task_rule}
use Rattle.rules.specs.Step.{with_queued, with_posts, with_clocks}
use Rattle.rules.specs.declared.Tables.{Tables}
use Rattle.rules.specs.declared.Task.{Task}
use Rattle.rules.specs.declared.Clock.{Clock}
use Rattle.rules_laws.proofs.Calls.{chosen}
use Rattle.demand_2_soundness.proofs.Groups.{Almost}
use Rattle.demand_2_soundness.proofs.ClockRows.{clock-keeps}
use Rattle.demand_2_soundness.proofs.Posts.{posted-keeps}
use Rattle.demand_2_soundness.proofs.Moves.{row_keeps}
use Rattle.demand_2_soundness.proofs.TaskRows.{task-other}
use Rattle.demand_2_soundness.proofs.Waiting.{row_other, used-at, still-waiting, woken-keeps, woken-ready}

-- what each step keeps, all of them keep
pub rising-keeps : {A : Type 0} (P : A → Type 0) (f : A → ℕ → A) (x : A) (n : ℕ) → ((y : A) (i : ℕ) → i < n → P y → P (f y i)) → P x
    → P (rising n f x)
unfolding rising
rising-keeps P f x zero step p = p
rising-keeps P f x (suc n) step p =
    step (rising n f x) n (omega arith) (rising-keeps P f x n (λ y i h. step y i (omega arith)) p)

-- ---- the clocks
-- a clock in use that is aged stays as its rule has it; one that fires is in use, and so is its Swi
module _ (ws : List ℕ) (k : Clock) (rule : Means (clock_rule ws k)) where
  running-used : k.left ≢ 0 → k.used ≡ 1
  unfolding clock_rule
  running-used n =
      ⊎_elim
      (λ (e : k.used ≡ 0). absurd (n (rule.1.0 e).1.1.1))
      (λ (m : k.used ≢ 0). let h = rule.0 in omega arith)
      (same? k.used 0)

  running-swi : k.left ≢ 0 → swi ws k.swi USED ≡ 1
  unfolding clock_rule
  running-swi n = (rule.1.1 (running-used n)).0

  aged-rule : (l : ℕ) → (k.left ≡ 0 → l ≡ 0) → Means (clock_rule ws (with_left k l))
  unfolding clock_rule
  aged-rule l stopped =
      (rule.0, ((λ e. let (s, (f, (p, z))) = rule.1.0 e in (s, (f, (p, stopped z)))), rule.1.1))

abbrev pub with_clocked : Tables → ClockTables → Tables
with_clocked t x =
    tables t.tasks x.lines t.semaphores t.events t.mailboxes x.swis x.clocks t.heap t.state

-- one clock: its Swi is posted if it fired, and it has l ticks left
module _ (t : Tables) (a : Almost t) (n : ℕ) (lt : n < clock_count) where
  abbrev k : Clock
  k = clock t.clocks n

  clock-step : (fired : Bool) (l : ℕ) → (fired ≡ true → k.left ≢ 0) → (k.left ≡ 0 → l ≡ 0)
      → Almost (with_clocks (with_posts t (posted_if fired k.swi (swi_queues t.swis t.lines))) (with_clock t.clocks n (with_left k l)))
  clock-step fired l runs stopped =
      let p = posted_if fired k.swi (swi_queues t.swis t.lines) in
      let after : Almost (with_posts t p) =
      chosen (λ (p : SwiQueues). Almost (with_posts t p)) fired (posted k.swi (swi_queues t.swis t.lines)) (swi_queues t.swis t.lines)
      (λ e. posted-keeps t a k.swi (λ (z : swi t.swis k.swi USED ≡ 0). omega (arith, running-swi t.swis k (a.clocks n lt) (runs e))))
      (λ _. a) in
      clock-keeps (with_posts t p) after n (with_left k l) (aged-rule p.swis k (after.clocks n lt) l stopped)

clock-ticks : (t : Tables) (x : ClockTables) (n : ℕ) → n < clock_count → Almost (with_clocked t x) → Almost (with_clocked t (clock_tick x n))
unfolding clock_tick aged
clock-ticks t x n lt a =
    let k = clock x.clocks n in
    ⊎_elim
    (λ (e : k.left ≡ 0).
    rw (eq-eqb k.left 0 e) (clock-step (with_clocked t x) a n lt false k.left (λ q. absurd (false≢true q)) (λ z. z)))
    (λ (m : k.left ≢ 0).
    ⊎_elim
    (λ (e : k.left ≡ 1).
    rw (ne_eqb k.left 0 m, eq-eqb k.left 1 e)
    (clock-step (with_clocked t x) a n lt true k.period (λ _. m) (λ z. absurd (m z))))
    (λ (o : k.left ≢ 1).
    rw (ne_eqb k.left 0 m, ne_eqb k.left 1 o)
    (clock-step (with_clocked t x) a n lt false (k.left - 1) (λ q. absurd (false≢true q)) (λ z. absurd (m z))))
    (same? k.left 1))
    (same? k.left 0)

pub clocks-tick : (t : Tables) → Almost t → Almost (with_clocked t (clocks_ticked t.clocks t.swis t.lines))
clocks-tick t a =
    rising-keeps (λ (x : ClockTables). Almost (with_clocked t x)) clock_tick (clock_tables t.clocks t.swis t.lines) clock_count
    (λ x n lt h. clock-ticks t x n lt h) a

-- ---- the tasks
-- ticks are left of a sleep or a limited wait only
waits-of : (st : List ℕ) (i : ℕ) (k : Task) → Means (task_rule (levels st) i k) → k.left ≢ 0 → (i ≢ 0) × ((1 < k.mode) × (k.mode < terminated))
waits-of st i k row some =
    let n : i ≢ 0 = λ z. some (row.0 z).1.1.0.1.0 in
    let r = row_other _ i k n row in
    let a : k.mode ≢ not_in_use = λ e. some (r.when_free e).1.0.1.0 in
    let b : k.mode ≢ ready = λ e. some (r.when_ready e).1.0 in
    let c : k.mode ≢ terminated = λ e. some (r.when_terminated e).1.0 in
    let d : k.mode ≢ inactive = λ e. some (r.when_inactive e).1.1.0 in
    let h = r.range in
    (n, (omega arith, omega arith))

-- task x is ready, and all rules but those on the state hold
module _ (t : Tables) (x : ℕ) where
  abbrev pub Ready : TaskQueues → Type 0
  Ready q = Almost (with_queued t q) × ((task q.tasks x).mode ≡ ready)

  pub task-ticks : (q : TaskQueues) (i : ℕ) → i < task_count → Ready q → Ready (task_tick q i)
  unfolding task_tick
  task-ticks q i lt (a, r) =
      let k = task q.tasks i in
      ⊎_elim
      (λ (e : k.left ≡ 0). rw (eq-eqb k.left 0 e) (a, r))
      (λ (m : k.left ≢ 0).
      let (n, (low, high)) = waits-of _ i k (a.tasks i lt) m in
      ⊎_elim
      (λ (e : k.left ≡ 1).
      let small = ended-small k.mode in
      rw (ne_eqb k.left 0 m, eq-eqb k.left 1 e) (
        woken-keeps (with_queued t q) a i lt low high (ended_with k.mode) 0 small (λ _. refl),
        woken-ready (with_queued t q) a i lt low high (ended_with k.mode) 0 small (λ _. refl) x r,
      ))
      (λ (o : k.left ≢ 1).
      let level = (row_other _ i k n (a.tasks i lt)).level (used-at k.mode (omega arith) (omega arith)) in
      let row = still-waiting _ i k n (a.tasks i lt) low high k.priority (k.left - 1) level (omega arith) (λ _ z. omega arith) in
      let apart : x ≢ i = λ z. let q : k.mode ≡ ready = rw z at r in omega arith in
      rw (ne_eqb k.left 0 m, ne_eqb k.left 1 o) (
        row_keeps (with_queued t q) a i (one_less k) lt row refl (λ _. (refl, refl, refl)),
        ap (λ (w : Task). w.mode) (task-other q.tasks i (one_less k) x apart) ∙ r,
      ))
      (same? k.left 1))
      (same? k.left 0)
    where
      ended-small : (mode : ℕ) → ended_with mode < 2
      ended-small mode = chosen (λ (o : ℕ). o < 2) (eqb mode sleeping) 0 1 (λ _. omega arith) (λ _. omega arith)

  pub tasks-tick : Almost t → (task t.tasks x).mode ≡ ready → Ready (tasks_ticked t.tasks t.lines)
  tasks-tick a r = rising-keeps (λ (q : TaskQueues). Ready q) task_tick (task_queues t.tasks t.lines) task_count (λ q i lt h. task-ticks q i lt h) (a, r)
