-- Calls 00 to 06 keep what dispatch starts from.
-- In this order: rows; lines; tests; calls 00 to 06, one after the other; and all of them.
use Prim.Native.Nat.{ℕ, ◌<◌, ◌≤◌, suc}
use mathlib.Core.Path.{◌≡◌, refl, sym, ap, ◌∙◌}
use mathlib.Core.Logic.{◌≢◌, ◌⊎◌, inl, inr, ⊎_elim}
use mathlib.Core.Bool.{Bool, true, false, ◌||◌, true≢false, cond as if}
use mathlib.Core.List.{List}
use native.Mathlib.Omega.{arith}
use borrow.Author.Tests.{eqb-true, eqb-false, eq-eqb, ne_eqb, lt-ltb, ltb-true, leb-true, leb-false, le-leb, not-false}
use lib.Dec.{eqb, ltb, leb}
use Rattle.basics.specs.Rule.{Means}
use Rattle.basics.proofs.Laws.{same?, lt-or-le}
use Rattle.rules.specs.Answer.{Effect, called, asked, Words}
use Rattle.rules.specs.Tables.{Typed, task_count, levels, minus_one, forever, word_end, not_in_use, ready, sleeping, writing, terminated, inactive, task}
use Rattle.rules.specs.Tables.{with_task, no_task, state, current, CURRENT, at_semaphore}
use Rattle.rules.specs.Lines.{line_count, TaskQueues, home_by, task_queues, moved, at_back, nowhere}
use Rattle.rules.specs.Waits.{waiting}
use Rattle.rules.specs.Dispatch.{context}
use Rattle.rules.specs.Sound.{Sound, no_wait, task_rule}
use Rattle.rules.specs.Step.{with_queued}
use Rattle.rules.specs.Tasks.{is_priority, free_task, blocked, placed_at, with_priority, ended, reprioritized, create_cases, create_effect, delete_cases}
use Rattle.rules.specs.Tasks.{delete_effect, set_priority_cases, set_priority_effect, yield_cases, yield_effect, end_cases, end_effect, sleep_cases, sleep_effect}
use Rattle.rules.specs.Tasks.{last_result_cases, last_result_effect, task_call}
use Rattle.rules.specs.declared.Tables.{Tables}
use Rattle.rules.specs.declared.Task.{Task}
use Rattle.rules_laws.proofs.Levels.{levels-under}
use Rattle.rules_laws.proofs.Calls.{chosen}
use Rattle.demand_2_soundness.proofs.Groups.{Settling, Keeps}
use Rattle.demand_2_soundness.proofs.Codes.{accepted-is, used-object}
use Rattle.demand_2_soundness.proofs.Standing.{sound-almost}
use Rattle.demand_2_soundness.proofs.Moves.{Welcome, moved_row, moved-rows, moved_keeps, row_keeps}
use Rattle.demand_2_soundness.proofs.TaskRows.{task-other, in_use, home-none}
use Rattle.demand_2_soundness.proofs.Objects.{other-fails, free-is}
use Rattle.demand_2_soundness.proofs.Waiting.{neither, both, row_other, sound-ranges, current-is, current-under, still-ready, current-ready}
use Rattle.demand_2_soundness.proofs.Waiting.{current-row, current-used, not-idle, waits-settle, rest-row, still-waiting, welcome-none}
use Rattle.demand_2_soundness.proofs.Waiting.{welcome-ready, moved_ready, sleeping-row}
use Rattle.demand_2_soundness.proofs.Chosen.{chosen-keeps, unknown-keeps, sound-settles}

-- a priority that the levels allow
abbrev Priority : List ℕ → ℕ → Type 0
Priority st p = (p ≡ minus_one) ⊎ ((0 < p) × (p < levels st))

is-priority : (st : List ℕ) (p : ℕ) → is_priority (levels st) p ≡ true → Priority st p
unfolding is_priority
is-priority st p e =
    ⊎_elim inl
    (λ (n : p ≢ minus_one).
    let (low, high) = both (ltb 0 p) (ltb p (levels st)) (rw (ne_eqb p minus_one n) at e) in
    inr (ltb-true 0 p low, ltb-true p (levels st) high))
    (same? p minus_one)

-- ---- rows
-- a ready task or, exactly at -1, an inactive one
placed_row : (st : List ℕ) (i : ℕ) (k : Task) → i ≢ 0 → Means (no_wait k) → k.outcome < 2 → (k.outcome ≡ 1 → k.value ≡ 0) → (p : ℕ) → Priority st p
    → Means (task_rule (levels st) i (placed_at k p))
placed_row st i k n clear small unmet p h =
    ⊎_elim
    (λ (e : p ≡ minus_one).
    let m : (placed_at k p).mode ≡ inactive = rw (eq-eqb p minus_one e) in
    rest-row _ i (placed_at k p) n clear (inr (omega arith, omega arith)) small unmet (λ q. absurd (omega arith)) (λ _. e) (λ u. absurd (u.1 m)))
    (λ (r : (0 < p) × (p < levels st)).
    let m : (placed_at k p).mode ≡ ready = rw (ne_eqb p minus_one (λ (e : p ≡ minus_one). omega (arith, levels-under st))) in
    rest-row _ i (placed_at k p) n clear (inl (omega arith)) small unmet (λ q. absurd (omega arith)) (λ q. absurd (omega arith)) (λ _. r))
    h

placed-welcome : (t : Tables) (i : ℕ) (k : Task) (p : ℕ) → Welcome t i (placed_at k p)
placed-welcome t i k p = welcome-none t i (placed_at k p) (go (eqb p minus_one))
  where
    go : (b : Bool) → (if b inactive ready < at_semaphore) ⊎ (writing < if b inactive ready)
    go true = inr (omega arith)
    go false = inl (omega arith)

-- a row not in use
no_row : (st : List ℕ) (i : ℕ) → i ≢ 0 → Means (task_rule (levels st) i no_task)
no_row st i n =
    rest-row _ i no_task n (refl, (refl, (refl, refl))) (inl (omega arith)) (omega arith) (λ _. refl) (λ _. (refl, (refl, refl)))
    (λ e. absurd (omega arith)) (λ u. absurd (u.0 refl))

-- a task in use that has ended
ended-row : (st : List ℕ) (i : ℕ) (k : Task) → i ≢ 0 → Means (task_rule (levels st) i k) → (k.mode ≢ not_in_use) × (k.mode ≢ inactive)
    → Means (task_rule (levels st) i (ended k))
ended-row st i k n row used =
    let r = row_other _ i k n row in
    rest-row _ i (ended k) n (refl, (refl, (refl, refl))) (inr (omega arith, omega arith)) r.outcome r.unmet (λ e. absurd (omega arith))
    (λ e. absurd (omega arith)) (λ _. r.level used)

-- ---- lines: only a ready row stands by its priority
home-kept : (m p q o : ℕ) → m ≢ ready → home_by m p o ≡ home_by m q o
unfolding home_by
home-kept m p q o n = rw (ne_eqb m ready n)

either-eq : (x a b : ℕ) → (eqb x a || eqb x b) ≡ true → (x ≡ a) ⊎ (x ≡ b)
either-eq x a b e =
    ⊎_elim inl (λ (n : x ≢ a). inr (eqb-true x b (rw (ne_eqb x a n) at e))) (same? x a)

-- ---- tests
is-blocked : (m : ℕ) → blocked m ≡ true → (1 < m) × (m < terminated)
is-blocked m e = let (low, high) = both (leb sleeping m) (leb m writing) e in (leb-true sleeping m low, omega (arith, leb-true m writing high))

-- a task in use that is neither blocked nor terminated
ready-or-inactive : (m : ℕ) → blocked m ≡ false → m ≢ not_in_use → m ≢ terminated → m < suc inactive → (m ≡ ready) ⊎ (m ≡ inactive)
ready-or-inactive m e used runs range =
    ⊎_elim
    (λ (h : m < sleeping). inl (omega arith))
    (λ (h : sleeping ≤ m).
    inr (let past : writing < m = leb-false m writing (other-fails (leb sleeping m) (leb m writing) e (le-leb sleeping m h)) in omega arith))
    (lt-or-le m sleeping)

module _ (t : Tables) (typed : Typed t) (s : Sound t) where
  -- another mode than ready: not task 0, and not the current task
  not_first : (i : ℕ) → i < task_count → (task t.tasks i).mode ≢ ready → i ≢ 0
  not_first i h n z = n ((s.tasks i h).0 z).0

  not-current : (i : ℕ) → (task t.tasks i).mode ≢ ready → state t.state CURRENT ≢ i
  not-current i n e = n (ap (λ (x : ℕ). (task t.tasks x).mode) (sym e) ∙ still-ready t s)

  create-keeps : (x a b c d : ℕ)
      → Keeps (with_queued t) (called (create_cases t.tasks t.state x a b c d) (create_effect (task_queues t.tasks t.lines) a))
  unfolding create_cases create_effect free_task
  create-keeps x a b c d z =
      let ok = accepted-is (create_cases t.tasks t.state x a b c d) z in
      let i = free_task t.tasks in
      let (lt, is) = free-is task_count (λ i. eqb (task t.tasks i).mode not_in_use) ok.at6 in
      let free : (task t.tasks i).mode ≡ 0 = eqb-true _ _ is in
      let rest : (task t.tasks i).mode ≢ ready = λ e. omega arith in
      let level = is-priority t.state a (not-false _ (neither _ _ ok.at4).0) in
      let row = placed_row t.state i no_task (not_first i lt rest) (refl, (refl, (refl, refl))) (omega arith) (λ (e : 0 ≡ 1). absurd (omega arith)) a level in
      let almost = sound-almost t typed s in
      record {
        almost = moved_keeps t almost at_back i (placed_at no_task a) lt row (placed-welcome t i no_task a);
        ranges = sound-ranges t s;
        current =
            inl (ap (λ (k : Task). k.mode) (moved-rows t almost at_back i (placed_at no_task a) lt row _ (not-current i rest)) ∙ still-ready t s);
      }

  delete-keeps : (x a b c d : ℕ) → Keeps (with_queued t) (called (delete_cases t.tasks x a b c d) (delete_effect (task_queues t.tasks t.lines) a))
  unfolding delete_cases delete_effect home_by
  delete-keeps x a b c d z =
      let ok = accepted-is (delete_cases t.tasks x a b c d) z in
      let m = (task t.tasks a).mode in
      let lt : a < task_count = in_use t.tasks a (used-object _ _ ok.at3 ok.at11) in
      let past : writing < m =
      ⊎_elim (λ (e : m ≡ terminated). omega arith) (λ (e : m ≡ inactive). omega arith) (either-eq m terminated inactive (not-false _ ok.at5)) in
      let rest : m ≢ ready = λ e. omega arith in
      let nowhere-now =
      home-none (task t.tasks a) rest (λ e. omega arith) (λ e. omega arith) (λ e. omega arith) (λ e. omega arith) in
      let row = no_row _ a (not_first a lt rest) in
      let almost = sound-almost t typed s in
      record {
        almost = row_keeps t almost a no_task lt row (sym nowhere-now) (λ (h : nowhere < line_count). absurd (omega arith));
        ranges = sound-ranges t s;
        current = inl (ap (λ (k : Task). k.mode) (task-other t.tasks a no_task _ (not-current a rest)) ∙ still-ready t s);
      }

  -- a blocked task keeps its place in line
  blocked-settles : (a p : ℕ) → a < task_count → a ≢ 0 → blocked (task t.tasks a).mode ≡ true → (0 < p) × (p < levels t.state)
      → Settling (with_queued t (task_queues (with_task t.tasks a (with_priority (task t.tasks a) p)) t.lines))
  blocked-settles a p lt n e level =
      let k = task t.tasks a in
      let (low, high) = is-blocked k.mode e in
      let rest : k.mode ≢ ready = λ q. omega arith in
      let row =
      still-waiting _ a k n (s.tasks a lt) low high p k.left level (omega arith) (λ q. ((row_other _ a k n (s.tasks a lt)).when_sleeping q).1.0) in
      record {
        almost =
            row_keeps t (sound-almost t typed s) a (with_priority k p) lt row (home-kept k.mode p k.priority k.object rest)
            (λ _. (refl, refl, refl));
        ranges = sound-ranges t s;
        current = inl (ap (λ (w : Task). w.mode) (task-other t.tasks a (with_priority k p) _ (not-current a rest)) ∙ still-ready t s);
      }

  -- a ready or inactive task joins the new queue at the back; the current one stays ready
  placed-settles : (a p : ℕ) → a < task_count → a ≢ 0 → ((task t.tasks a).mode ≡ ready) ⊎ ((task t.tasks a).mode ≡ inactive) → Priority t.state p
      → (state t.state CURRENT ≡ a → p ≢ minus_one)
      → Settling (with_queued t (moved at_back a (placed_at (task t.tasks a) p) (task_queues t.tasks t.lines)))
  placed-settles a p lt n which level stays =
      let k = task t.tasks a in
      let r = row_other _ a k n (s.tasks a lt) in
      let clear : Means (no_wait k) = ⊎_elim r.when_ready (λ e. (r.when_inactive e).1) which in
      let row = placed_row t.state a k n clear r.outcome r.unmet p level in
      let almost = sound-almost t typed s in
      record {
        almost = moved_keeps t almost at_back a (placed_at k p) lt row (placed-welcome t a k p);
        ranges = sound-ranges t s;
        current =
            inl
            (⊎_elim
            (λ (e : state t.state CURRENT ≡ a).
            rw e (ap (λ (w : Task). w.mode) (moved_row t almost at_back a (placed_at k p) lt row) ∙ rw (ne_eqb p minus_one (stays e))))
            (λ (o : state t.state CURRENT ≢ a).
            ap (λ (w : Task). w.mode) (moved-rows t almost at_back a (placed_at k p) lt row _ o) ∙ still-ready t s)
            (same? (state t.state CURRENT) a));
      }

  set-priority-keeps : (x a b c d : ℕ)
      → Keeps (with_queued t) (called (set_priority_cases t.tasks t.state x a b c d) (set_priority_effect (task_queues t.tasks t.lines) a b))
  unfolding set_priority_cases set_priority_effect reprioritized
  set-priority-keeps x a b c d z =
      let ok = accepted-is (set_priority_cases t.tasks t.state x a b c d) z in
      let m = (task t.tasks a).mode in
      let used = used-object _ _ ok.at3 ok.at11 in
      let lt : a < task_count = in_use t.tasks a used in
      let level = is-priority t.state b (not-false _ (neither _ _ ok.at4).0) in
      let (other, last) = neither _ _ ok.at5 in
      let n : a ≢ 0 = eqb-false a 0 (neither (eqb a 0) (eqb m terminated) other).0 in
      let runs : m ≢ terminated = eqb-false m terminated (neither (eqb a 0) (eqb m terminated) other).1 in
      let lowest : b ≡ minus_one → (eqb a (current t.state) || blocked m) ≡ false = λ e. other-fails _ _ last (eq-eqb b minus_one e) in
      chosen (λ (q : TaskQueues). Settling (with_queued t q)) (eqb b (task t.tasks a).priority) _ _
      (λ _. sound-settles t typed s)
      (λ _.
      chosen (λ (q : TaskQueues). Settling (with_queued t q)) (blocked m) _ _
      (λ e.
      blocked-settles a b lt n e
      (⊎_elim
      (λ (q : b ≡ minus_one). absurd (true≢false (sym e ∙ (neither (eqb a (current t.state)) (blocked m) (lowest q)).1)))
      (λ (r : (0 < b) × (b < levels t.state)). r)
      level))
      (λ e.
      placed-settles a b lt n (ready-or-inactive m e used runs (row_other _ a _ n (s.tasks a lt)).range) level
      (λ q l. eqb-false a (current t.state) (neither (eqb a (current t.state)) (blocked m) (lowest l)).0 (sym (current-is t s ∙ q)))))

  yield-keeps : (x a b c d : ℕ) → Keeps (with_queued t) (called (yield_cases t.state x a b c d) (yield_effect (task_queues t.tasks t.lines) t.state))
  unfolding yield_effect
  yield-keeps x a b c d z =
      let almost = sound-almost t typed s in
      let i = current t.state in
      let k = task t.tasks i in
      record {
        almost = moved_keeps t almost at_back i k (current-under t s) (current-row t s) (welcome-ready t i k (current-ready t s));
        ranges = sound-ranges t s;
        current = inl (moved_ready t almost at_back i k (current-under t s) (current-row t s) (current-ready t s) _ (still-ready t s));
      }

  end-keeps : (a b c d : ℕ)
      → Keeps (with_queued t)
      (called (end_cases t.state (context t.lines t.state) a b c d) (end_effect (task_queues t.tasks t.lines) t.state))
  unfolding end_cases end_effect
  end-keeps a b c d z =
      let ok = accepted-is (end_cases t.state (context t.lines t.state) a b c d) z in
      let i = current t.state in
      let k = task t.tasks i in
      let n = not-idle t s ok.at5 in
      waits-settle t typed s (eqb-true _ _ (not-false _ ok.at2)) ok.at9 (ended k)
      (ended-row _ i k n (current-row t s) (current-used t s)) (welcome-none t i (ended k) (inr (omega arith))) at_back

  sleep-keeps : (a b c d : ℕ) → a < word_end
      → Keeps (with_queued t)
      (called (sleep_cases t.state (context t.lines t.state) a b c d) (sleep_effect (task_queues t.tasks t.lines) t.state a))
  unfolding sleep_cases sleep_effect
  sleep-keeps a b c d word z =
      let ok = accepted-is (sleep_cases t.state (context t.lines t.state) a b c d) z in
      let i = current t.state in
      let k = task t.tasks i in
      chosen (λ (e : Effect TaskQueues). Settling (with_queued t e.next)) (eqb a 0) _ _
      (λ _. sound-settles t typed s)
      (λ e.
      let some : ltb 0 a ≡ true = lt-ltb 0 a (omega (arith, eqb-false a 0 e)) in
      let n = not-idle t s (rw some at ok.at5) in
      let limit : a ≢ forever = eqb-false a forever (neither _ _ ok.at4).0 in
      waits-settle t typed s (eqb-true _ _ (not-false _ ok.at2)) (rw some at ok.at9) (waiting k sleeping 0 a 0 0)
      (sleeping-row _ i k n (current-row t s) (current-used t s) a (eqb-false a 0 e) (omega arith))
      (welcome-none t i (waiting k sleeping 0 a 0 0) (inl (omega arith))) at_back)

  last-result-keeps : (a b c d : ℕ) → Keeps (with_queued t) (called (last_result_cases t.tasks a b c d) (last_result_effect (task_queues t.tasks t.lines) a))
  unfolding last_result_effect
  last-result-keeps a b c d z = sound-settles t typed s

pub tasks-keeps : (t : Tables) → Typed t → Sound t → (number a b c d : ℕ) → Words (asked number a b c d)
    → Keeps (with_queued t) (task_call (task_queues t.tasks t.lines) t.state (context t.lines t.state) number a b c d)
unfolding task_call
tasks-keeps t typed s number a b c d w =
    chosen-keeps (with_queued t) (eqb number 0x00) _ _ (create-keeps t typed s _ a b c d)
    (chosen-keeps (with_queued t) (eqb number 0x01) _ _ (delete-keeps t typed s _ a b c d)
    (chosen-keeps (with_queued t) (eqb number 0x02) _ _ (set-priority-keeps t typed s _ a b c d)
    (chosen-keeps (with_queued t) (eqb number 0x03) _ _ (yield-keeps t typed s _ a b c d)
    (chosen-keeps (with_queued t) (eqb number 0x04) _ _ (end-keeps t typed s a b c d)
    (chosen-keeps (with_queued t) (eqb number 0x05) _ _ (sleep-keeps t typed s a b c d w.a)
    (chosen-keeps (with_queued t) (eqb number 0x06) _ _ (last-result-keeps t typed s a b c d) (unknown-keeps (with_queued t) _)))))))
