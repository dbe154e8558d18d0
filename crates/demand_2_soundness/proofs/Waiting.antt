-- A wait begins or ends: the current task, the rows that a wait has, and what is due once the current task waits.
-- In this order: tests; the parts of a task's rule by name; ticks of a limit; the rows of waits; the current task of sound tables; what is due by the
-- lines of Swis and the state; a wait begins; a wait ends.
use Prim.Native.Nat.{ℕ, zero, suc, ◌<◌, ◌≤◌}
use mathlib.Core.Path.{◌≡◌, refl, sym, ap, ◌∙◌}
use mathlib.Core.Logic.{◌≢◌, ◌⊎◌, inl, inr, ⊎_elim}
use mathlib.Core.Bool.{Bool, true, false, ◌&&◌, ◌||◌, true≢false, and-eq-true_iff, cond as if}
use mathlib.Core.List.{List}
use native.Mathlib.Omega.{arith}
use borrow.Author.Tests.{eqb-false, eq-eqb, ne_eqb, ltb-false, lt-ltb, not-true}
use lib.Dec.{eqb, ltb}
use lib.ListN.{length}
use Rattle.basics.specs.Find.{highest_below}
use Rattle.basics.specs.Rule.{Means, ◌is◌, ◌isnt◌, ◌under◌, ◌and◌, ◌or◌}
use Rattle.basics.proofs.Laws.{same?}
use Rattle.rules.specs.Answer.{T, S, I}
use Rattle.rules.specs.Tables.{Typed, task_count, semaphore_count, event_count, mailbox_count, levels, word_end, forever, minus_one, not_in_use, ready, sleeping}
use Rattle.rules.specs.Tables.{at_semaphore, at_event, reading, writing, terminated, inactive, task, state, current, DEPTH, SWIS, TASKS, CURRENT, swi_levels}
use Rattle.rules.specs.Lines.{posted_line, active_line, anyone, task_queues, moved, at_back}
use Rattle.rules.specs.Waits.{switch_off, idle, ticks_for, waiting, readied, woken}
use Rattle.rules.specs.Swis.{top}
use Rattle.rules.specs.Dispatch.{context, highest_posted, active_level, swi_due, task_due}
use Rattle.rules.specs.Sound.{Sound, no_wait, wait_rule, other_rule, task_rule}
use Rattle.rules.specs.Step.{with_queued}
use Rattle.rules.specs.declared.Tables.{Tables}
use Rattle.rules.specs.declared.Task.{Task}
use Rattle.demand_2_soundness.proofs.Groups.{SwisStay, Almost, Ranges, Settling}
use Rattle.demand_2_soundness.proofs.Standing.{sound-almost}
use Rattle.demand_2_soundness.proofs.Moves.{Welcome, moved_row, moved-rows, moved-swi-line, moved_keeps}

-- ---- a false `or`, a true `and`
pub neither : (a b : Bool) → (a || b) ≡ false → (a ≡ false) × (b ≡ false)
neither true b e = absurd (true≢false e)
neither false b e = (refl, e)

pub both : (a b : Bool) → (a && b) ≡ true → (a ≡ true) × (b ≡ true)
both a b = (and-eq-true_iff a b).0

-- ---- a row of a task other than task 0: the parts of its rule by name
pub record Other (st : List ℕ) (k : Task) : Type 0 where
  pub range : k.mode < suc inactive
  pub outcome : k.outcome < 2
  pub unmet : k.outcome ≡ 1 → k.value ≡ 0
  pub when_free : k.mode ≡ not_in_use → Means ((k.priority is 0) and no_wait k and (k.outcome is 0) and (k.value is 0))
  pub when_ready : k.mode ≡ ready → Means (no_wait k)
  pub when_sleeping : k.mode ≡ sleeping
      → Means ((k.object is 0) and (k.left isnt 0) and (k.left under forever) and (k.held is 0) and (k.mask is 0))
  pub when_at_semaphore : k.mode ≡ at_semaphore → Means (wait_rule k semaphore_count and (k.held is 0) and (k.mask is 0))
  pub when_at_event : k.mode ≡ at_event → Means (wait_rule k event_count and (k.held isnt 0 or k.mask isnt 0))
  pub when_reading : k.mode ≡ reading → Means (wait_rule k mailbox_count and (k.held is 0) and (k.mask is 0))
  pub when_writing : k.mode ≡ writing → Means (wait_rule k mailbox_count and (k.mask is 0))
  pub when_terminated : k.mode ≡ terminated → Means (no_wait k)
  pub when_inactive : k.mode ≡ inactive → Means ((k.priority is minus_one) and no_wait k)
  pub level : (k.mode ≢ not_in_use) × (k.mode ≢ inactive) → (0 < k.priority) × (k.priority < levels st)

pub other-parts : (st : List ℕ) (k : Task) → Means (other_rule (levels st) k) → Other st k
unfolding other_rule
other-parts st k m =
    let (a0, (a1, (a2, (a3, (a4, (a5, (a6, (a7, (a8, (a9, (a10, (a11, a12)))))))))))) = m in
    record {
      range = a0;
      outcome = a1;
      unmet = a2;
      when_free = a3;
      when_ready = a4;
      when_sleeping = a5;
      when_at_semaphore = a6;
      when_at_event = a7;
      when_reading = a8;
      when_writing = a9;
      when_terminated = a10;
      when_inactive = a11;
      level = a12;
    }

infixr 35 ◌&◌
◌&◌ : {A B : Type 0} → A → B → A × B
a & b = (a, b)

pub other-of : (st : List ℕ) (k : Task) → Other st k → Means (other_rule (levels st) k)
unfolding other_rule
other-of st k r =
    let last = r.when_at_event & r.when_reading & r.when_writing & r.when_terminated & r.when_inactive & r.level in
    r.range & r.outcome & r.unmet & r.when_free & r.when_ready & r.when_sleeping & r.when_at_semaphore & last

pub other_row : (st : List ℕ) (i : ℕ) (k : Task) → i ≢ 0 → Other st k → Means (task_rule (levels st) i k)
other_row st i k n r = (λ z. absurd (n z), λ _. other-of _ k r)

pub row_other : (st : List ℕ) (i : ℕ) (k : Task) → i ≢ 0 → Means (task_rule (levels st) i k) → Other st k
row_other st i k n m = other-parts _ k (m.1 n)

-- a row with nothing of a wait: not in use, ready, terminated or inactive
pub rest-row : (st : List ℕ) (i : ℕ) (k : Task) → i ≢ 0 → Means (no_wait k) → (k.mode < sleeping) ⊎ ((writing < k.mode) × (k.mode < suc inactive))
    → k.outcome < 2
    → (k.outcome ≡ 1 → k.value ≡ 0)
    → (k.mode ≡ not_in_use → Means ((k.priority is 0) and (k.outcome is 0) and (k.value is 0)))
    → (k.mode ≡ inactive → k.priority ≡ minus_one)
    → ((k.mode ≢ not_in_use) × (k.mode ≢ inactive) → (0 < k.priority) × (k.priority < levels st))
    → Means (task_rule (levels st) i k)
rest-row st i k n clear m small unmet free low level =
    other_row _ i k n
    (record {
      range = ⊎_elim (λ (h : k.mode < sleeping). omega arith) (λ (h : (writing < k.mode) × (k.mode < suc inactive)). h.1) m;
      outcome = small;
      unmet = unmet;
      when_free = λ e. let (p, (o, v)) = free e in (p, (clear, (o, v)));
      when_ready = λ _. clear;
      when_sleeping = λ e. absurd (out sleeping (omega arith) (omega arith) e);
      when_at_semaphore = λ e. absurd (out at_semaphore (omega arith) (omega arith) e);
      when_at_event = λ e. absurd (out at_event (omega arith) (omega arith) e);
      when_reading = λ e. absurd (out reading (omega arith) (omega arith) e);
      when_writing = λ e. absurd (out writing (omega arith) (omega arith) e);
      when_terminated = λ _. clear;
      when_inactive = λ e. (low e, clear);
      level = level;
    })
  where
    out : (x : ℕ) → sleeping ≤ x → x ≤ writing → k.mode ≡ x → ⊥
    out x a b e = ⊎_elim (λ (h : k.mode < sleeping). omega arith) (λ (h : (writing < k.mode) × (k.mode < suc inactive)). omega arith) m

-- a row of a wait, but its priority and the ticks left of its limit
pub still-waiting : (st : List ℕ) (i : ℕ) (k : Task) → i ≢ 0 → Means (task_rule (levels st) i k) → 1 < k.mode → k.mode < terminated
    → (p l : ℕ) → (0 < p) × (p < levels st)
    → l ≤ k.left
    → (k.mode ≡ sleeping → l ≢ 0)
    → Means
    (task_rule (levels st) i
    (record {
      mode = k.mode;
      priority = p;
      object = k.object;
      left = l;
      held = k.held;
      mask = k.mask;
      outcome = k.outcome;
      value = k.value;
    }))
still-waiting st i k n row low high p l level less some =
    let r = row_other _ i k n row in
    other_row _ i _ n
    (record {
      range = r.range;
      outcome = r.outcome;
      unmet = r.unmet;
      when_free = λ (e : k.mode ≡ 0). absurd (omega arith);
      when_ready = λ (e : k.mode ≡ 1). absurd (omega arith);
      when_sleeping = λ e. let (o, (z, (h, xy))) = r.when_sleeping e in (o, (some e, (omega arith, xy)));
      when_at_semaphore = λ e. let ((o, h), xy) = r.when_at_semaphore e in ((o, omega arith), xy);
      when_at_event = λ e. let ((o, h), xy) = r.when_at_event e in ((o, omega arith), xy);
      when_reading = λ e. let ((o, h), xy) = r.when_reading e in ((o, omega arith), xy);
      when_writing = λ e. let ((o, h), y) = r.when_writing e in ((o, omega arith), y);
      when_terminated = λ (e : k.mode ≡ terminated). absurd (omega arith);
      when_inactive = λ (e : k.mode ≡ inactive). absurd (omega arith);
      level = λ _. level;
    })

-- ---- ticks: a limit keeps fewer than `forever`, and its own number of them where it has an end
pub ticks-under : (limit : ℕ) → limit < word_end → ticks_for limit < forever
unfolding ticks_for
ticks-under limit h =
    ⊎_elim
    (λ (e : limit ≡ forever). rw (eq-eqb limit forever e) (omega arith))
    (λ (n : limit ≢ forever). rw (ne_eqb limit forever n) (omega arith))
    (same? limit forever)

pub ticks-ended : (limit : ℕ) → limit ≢ forever → ticks_for limit ≡ limit
unfolding ticks_for
ticks-ended limit n = rw (ne_eqb limit forever n)

-- ---- the rows of waits: a task in use, at its priority, with its last result
module _ (st : List ℕ) (i : ℕ) (k : Task) (n : i ≢ 0) (row : Means (task_rule (levels st) i k)) (used : (k.mode ≢ not_in_use) × (k.mode ≢ inactive)) where
  -- once its wait has ended
  pub readied-row : (o v : ℕ) → o < 2 → (o ≡ 1 → v ≡ 0) → Means (task_rule (levels st) i (readied k o v))
  readied-row o v small unmet =
      rest-row _ i (readied k o v) n (refl, (refl, (refl, refl))) (inl (omega arith)) small unmet (λ e. absurd (omega arith)) (λ e. absurd (omega arith))
      (λ _. (row_other _ i k n row).level used)

  module _ (mode object limit x y : ℕ) (low : 1 < mode) (high : mode < terminated) where
    abbrev w : Task
    w = waiting k mode object limit x y

    blocked-row : (mode ≡ sleeping → Means ((w.object is 0) and (w.left isnt 0) and (w.left under forever) and (w.held is 0) and (w.mask is 0)))
        → (mode ≡ at_semaphore → Means (wait_rule w semaphore_count and (w.held is 0) and (w.mask is 0)))
        → (mode ≡ at_event → Means (wait_rule w event_count and (w.held isnt 0 or w.mask isnt 0)))
        → (mode ≡ reading → Means (wait_rule w mailbox_count and (w.held is 0) and (w.mask is 0)))
        → (mode ≡ writing → Means (wait_rule w mailbox_count and (w.mask is 0)))
        → Means (task_rule (levels st) i w)
    blocked-row of_sleep of_semaphore of_event of_reader of_writer =
        other_row _ i w n
        (record {
          range = omega arith;
          outcome = (row_other _ i k n row).outcome;
          unmet = (row_other _ i k n row).unmet;
          when_free = λ (e : mode ≡ 0). absurd (omega arith);
          when_ready = λ (e : mode ≡ 1). absurd (omega arith);
          when_sleeping = of_sleep;
          when_at_semaphore = of_semaphore;
          when_at_event = of_event;
          when_reading = of_reader;
          when_writing = of_writer;
          when_terminated = λ (e : mode ≡ terminated). absurd (omega arith);
          when_inactive = λ (e : mode ≡ inactive). absurd (omega arith);
          level = λ _. (row_other _ i k n row).level used;
        })

  pub sleeping-row : (limit : ℕ) → limit ≢ 0 → limit < forever → Means (task_rule (levels st) i (waiting k sleeping 0 limit 0 0))
  sleeping-row limit z h =
      let e : ticks_for limit ≡ limit = ticks-ended limit (λ (q : limit ≡ forever). omega arith) in
      blocked-row sleeping 0 limit 0 0 (omega arith) (omega arith)
      (λ _. (refl, ((λ q. z (sym e ∙ q)), (rw e h, (refl, refl)))))
      (λ q. absurd (omega arith)) (λ q. absurd (omega arith)) (λ q. absurd (omega arith)) (λ q. absurd (omega arith))

  module _ (object limit : ℕ) (word : limit < word_end) where
    pub at-semaphore-row : object < semaphore_count → Means (task_rule (levels st) i (waiting k at_semaphore object limit 0 0))
    at-semaphore-row h =
        blocked-row at_semaphore object limit 0 0 (omega arith) (omega arith) (λ q. absurd (omega arith))
        (λ _. ((h, ticks-under limit word), (refl, refl)))
        (λ q. absurd (omega arith)) (λ q. absurd (omega arith)) (λ q. absurd (omega arith))

    pub at-event-row : object < event_count → (x y : ℕ) → (x ≢ 0) ⊎ (y ≢ 0) → Means (task_rule (levels st) i (waiting k at_event object limit x y))
    at-event-row h x y some =
        blocked-row at_event object limit x y (omega arith) (omega arith) (λ q. absurd (omega arith)) (λ q. absurd (omega arith))
        (λ _. ((h, ticks-under limit word), some))
        (λ q. absurd (omega arith)) (λ q. absurd (omega arith))

    pub reading-row : object < mailbox_count → Means (task_rule (levels st) i (waiting k reading object limit 0 0))
    reading-row h =
        blocked-row reading object limit 0 0 (omega arith) (omega arith) (λ q. absurd (omega arith)) (λ q. absurd (omega arith)) (λ q. absurd (omega arith))
        (λ _. ((h, ticks-under limit word), (refl, refl)))
        (λ q. absurd (omega arith))

    pub writing-row : object < mailbox_count → (x : ℕ) → Means (task_rule (levels st) i (waiting k writing object limit x 0))
    writing-row h x =
        blocked-row writing object limit x 0 (omega arith) (omega arith) (λ q. absurd (omega arith)) (λ q. absurd (omega arith)) (λ q. absurd (omega arith))
        (λ q. absurd (omega arith))
        (λ _. ((h, ticks-under limit word), refl))

-- a mode from ready to terminated is one of a task in use, at its priority
pub used-at : (mode : ℕ) → 0 < mode → mode < inactive → (mode ≢ not_in_use) × (mode ≢ inactive)
used-at mode low high = (λ (e : mode ≡ 0). omega arith, λ (e : mode ≡ inactive). omega arith)

-- ---- the current task of sound tables: a task, and ready
pub current-in : (st : List ℕ) → state st CURRENT < task_count → current st ≡ state st CURRENT
unfolding current
current-in st h = rw (lt-ltb (state st CURRENT) task_count h)

module _ (t : Tables) (s : Sound t) where
  pub sound-ranges : Ranges t.state
  sound-ranges =
      record { depth = s.state.0; swis = s.state.1.0; tasks = s.state.1.1.0; current = s.state.1.1.1.0; levels = s.state.1.1.1.1.1 }

  pub current-is : current t.state ≡ state t.state CURRENT
  current-is = current-in t.state s.state.1.1.1.0

  pub current-under : current t.state < task_count
  current-under = rw current-is s.state.1.1.1.0

  pub still-ready : (task t.tasks (state t.state CURRENT)).mode ≡ ready
  still-ready = s.state.1.1.1.1.0

  pub current-ready : (task t.tasks (current t.state)).mode ≡ ready
  current-ready = rw current-is still-ready

  pub current-row : Means (task_rule (levels t.state) (current t.state) (task t.tasks (current t.state)))
  current-row = s.tasks (current t.state) current-under

  pub current-used : ((task t.tasks (current t.state)).mode ≢ not_in_use) × ((task t.tasks (current t.state)).mode ≢ inactive)
  current-used = used-at _ (omega (arith, current-ready)) (omega (arith, current-ready))

  pub not-idle : idle t.state ≡ false → current t.state ≢ 0
  unfolding idle
  not-idle e = eqb-false (current t.state) 0 e

  pub swi-not-due : swi_due t.swis t.lines t.state ≡ false
  swi-not-due = not-true _ s.dispatch.0

-- ---- what is due goes by the lines of Swis and the state alone
high_same : (f g : ℕ → Bool) (n : ℕ) → ((i : ℕ) → i < n → f i ≡ g i) → highest_below n f ≡ highest_below n g
unfolding highest_below
high_same f g zero e = refl
high_same f g (suc n) e =
    let ih = high_same f g n (λ i h. e i (omega arith)) in
    rw (e n (omega arith), ih)

module _ (ws ls ls' st : List ℕ) (same : SwisStay ls ls') where
  pub anyone-same : (j : ℕ) → posted_line 0 ≤ j → j ≤ active_line → anyone ls' j ≡ anyone ls j
  anyone-same j low high = ap (λ (l : List ℕ). ltb 0 (length l)) (same j low high)

  pub swi-due-same : swi_due ws ls' st ≡ swi_due ws ls st
  unfolding swi_due active_level highest_posted top
  swi-due-same =
      let h : highest_below swi_levels (λ p. anyone ls' (posted_line p)) ≡ highest_below swi_levels (λ p. anyone ls (posted_line p)) =
      high_same (λ p. anyone ls' (posted_line p)) (λ p. anyone ls (posted_line p)) swi_levels (λ p l. anyone-same (posted_line p) (omega arith) (omega arith)) in
      rw (h, same active_line (omega arith) (omega arith))

  pub task-due-same : task_due ls' st ≡ task_due ls st
  unfolding task_due
  task-due-same = rw (same active_line (omega arith) (omega arith))

-- a call by the running task: depth 0, and no Swi active
pub task-context : (ls st : List ℕ) → context ls st ≡ T → (state st DEPTH ≡ 0) × (anyone ls active_line ≡ false)
unfolding context
task-context ls st e = go (ltb 0 (state st DEPTH)) (anyone ls active_line) refl e
  where
    go : (a b : Bool) → ltb 0 (state st DEPTH) ≡ a → if a I (if b S T) ≡ T → (state st DEPTH ≡ 0) × (b ≡ false)
    go true b q z = absurd (omega arith)
    go false true q z = absurd (omega arith)
    go false false q z = (omega (arith, ltb-false 0 (state st DEPTH) q), refl)

pub task-due : (ls st : List ℕ) → context ls st ≡ T → switch_off st ≡ false → task_due ls st ≡ true
unfolding task_due switch_off
task-due ls st c off =
    let (depth, active) = task-context ls st c in
    let (swis, tasks) = neither (eqb (state st SWIS) 0) (eqb (state st TASKS) 0) off in
    rw (eq-eqb (state st DEPTH) 0 depth, active, swis, tasks)

-- ---- a wait begins: the current task leaves the ready ones, and dispatch will choose another
pub waits-settle : (t : Tables) → Typed t → Sound t → context t.lines t.state ≡ T → switch_off t.state ≡ false
    → (k : Task) → Means (task_rule (levels t.state) (current t.state) k) → Welcome t (current t.state) k → (place : List ℕ → ℕ)
    → Settling (with_queued t (moved place (current t.state) k (task_queues t.tasks t.lines)))
waits-settle t typed s c off k row welcome place =
    let a = sound-almost t typed s in
    let i = current t.state in
    let same = moved-swi-line t a place i k (current-under t s) row in
    record {
      almost = moved_keeps t a place i k (current-under t s) row welcome;
      ranges = sound-ranges t s;
      current =
          inr (
            swi-due-same t.swis t.lines _ t.state same ∙ swi-not-due t s,
            task-due-same t.swis t.lines _ t.state same ∙ task-due t.lines t.state c off,
          );
    }

-- ---- a wait ends
-- a mode without a line of waiters asks nothing of an object
pub welcome-none : (t : Tables) (i : ℕ) (k : Task) → (k.mode < at_semaphore) ⊎ (writing < k.mode) → Welcome t i k
welcome-none t i k h =
    record {
      semaphore = λ e. absurd (out at_semaphore (omega arith) (omega arith) e);
      event = λ e. absurd (out at_event (omega arith) (omega arith) e);
      reader = λ e. absurd (out reading (omega arith) (omega arith) e);
      writer = λ e. absurd (out writing (omega arith) (omega arith) e);
    }
  where
    out : (x : ℕ) → at_semaphore ≤ x → x ≤ writing → k.mode ≡ x → ⊥
    out x low high e = ⊎_elim (λ (l : k.mode < at_semaphore). omega arith) (λ (l : writing < k.mode). omega arith) h

pub welcome-ready : (t : Tables) (i : ℕ) (k : Task) → k.mode ≡ ready → Welcome t i k
welcome-ready t i k e = welcome-none t i k (inl (omega arith))

-- who is ready stays so when any task moves to be ready
pub moved_ready : (t : Tables) (a : Almost t) (place : List ℕ → ℕ) (i : ℕ) (k : Task) (lt : i < task_count) (row : Means (task_rule (levels t.state) i k))
    → k.mode ≡ ready → (x : ℕ) → (task t.tasks x).mode ≡ ready
    → (task (moved place i k (task_queues t.tasks t.lines)).tasks x).mode ≡ ready
moved_ready t a place i k lt row e x r =
    ⊎_elim
    (λ (q : x ≡ i). rw q (ap (λ (w : Task). w.mode) (moved_row t a place i k lt row) ∙ e))
    (λ (n : x ≢ i). ap (λ (w : Task). w.mode) (moved-rows t a place i k lt row x n) ∙ r)
    (same? x i)

module _ (t : Tables) (a : Almost t) (i : ℕ) (lt : i < task_count) (low : ready < (task t.tasks i).mode) (high : (task t.tasks i).mode < terminated) where
  -- task 0 never waits
  pub waiter-other : i ≢ 0
  waiter-other z = omega (arith, ((a.tasks i lt).0 z).0)

  module _ (o v : ℕ) (small : o < 2) (unmet : o ≡ 1 → v ≡ 0) where
    pub woken-row : Means (task_rule (levels t.state) i (readied (task t.tasks i) o v))
    woken-row = readied-row _ i (task t.tasks i) waiter-other (a.tasks i lt) (used-at _ (omega arith) (omega arith)) o v small unmet

    pub woken-keeps : Almost (with_queued t (woken i o v (task_queues t.tasks t.lines)))
    woken-keeps = moved_keeps t a at_back i _ lt woken-row (welcome-ready t i _ refl)

    pub woken-ready : (x : ℕ) → (task t.tasks x).mode ≡ ready → (task (woken i o v (task_queues t.tasks t.lines)).tasks x).mode ≡ ready
    woken-ready x r = moved_ready t a at_back i _ lt woken-row refl x r

    pub wakes-settle : Ranges t.state → (task t.tasks (state t.state CURRENT)).mode ≡ ready
        → Settling (with_queued t (woken i o v (task_queues t.tasks t.lines)))
    wakes-settle ranges r = record { almost = woken-keeps; ranges = ranges; current = inl (woken-ready (state t.state CURRENT) r) }
