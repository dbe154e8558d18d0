-- Tables of 16 levels are sound with 32 too: what a log of version 2 starts from.
use Prim.Native.Nat.{ℕ, suc, ◌-◌, ◌<◌, ◌≤◌}
use mathlib.Core.Path.{◌≡◌, refl, sym, ap, ◌∙◌}
use mathlib.Core.Logic.{◌≢◌, ◌⊎◌, inl, inr, ⊎_elim}
use mathlib.Core.Bool.{Bool, true, false, not, true≢false}
use mathlib.Core.List.{List}
use native.Mathlib.Omega.{arith}
use lib.Dec.{eqb, ltb}
use lib.ListN.{length, get_or, length-set}
use lib.Seq.{get_or-set_same, get_or-set_other}
use borrow.Author.Tests.{ltb-true, le-ltb, lt-ltb}
use Rattle.basics.specs.Find.{highest_below}
use Rattle.basics.specs.Rule.{Means}
use Rattle.basics.proofs.Laws.{same?, lt-or-le, count-first}
use Rattle.basics.proofs.Finds.{IsHighest, high_is, high_one}
use Rattle.rules.specs.Tables.{Typed, raised, task_count, not_in_use, inactive, most_levels, levels, task, state, raised_state, DEPTH, SWIS, TASKS, CURRENT}
use Rattle.rules.specs.Tables.{LEVELS, state_width}
use Rattle.rules.specs.Lines.{anyone, line, front_of, ready_line, task_home}
use Rattle.rules.specs.Dispatch.{highest_ready, front, swi_due, task_due}
use Rattle.rules.specs.Sound.{Sound, other_rule, tasks_rule, task_rule, dispatch_rule}
use Rattle.rules.specs.declared.Tables.{Tables}
use Rattle.rules.specs.declared.Task.{Task}
use Rattle.demand_2_soundness.proofs.Groups.{Almost, OfTasks}
use Rattle.demand_2_soundness.proofs.Standing.{sound-almost}
use Rattle.demand_2_soundness.proofs.Members.{bit-eq}
use Rattle.rules_laws.proofs.Levels.{levels-under, levels-some}
use Rattle.demand_2_soundness.proofs.TaskRows.{task-stands, ready-row, in_use}
use Rattle.demand_2_soundness.proofs.Waiting.{sound-ranges, still-ready, row_other, used-at}

-- ---- a state that is raised: it has 32 levels, and every other word stays
module _ (st : List ℕ) where
  there : length st ≡ state_width → state (raised_state st) LEVELS ≡ most_levels
  there size = get_or-set_same st LEVELS most_levels 0 (omega arith)

  pub raised-levels : length st ≡ state_width → levels (raised_state st) ≡ most_levels
  unfolding levels
  raised-levels size = rw (there size)

  pub raised-word : (f : ℕ) → f ≢ LEVELS → state (raised_state st) f ≡ state st f
  raised-word f n = get_or-set_other st LEVELS f most_levels 0 n

  pub raised-depth : state (raised_state st) DEPTH ≡ state st DEPTH
  raised-depth = raised-word DEPTH (λ e. omega arith)

  pub raised-swis : state (raised_state st) SWIS ≡ state st SWIS
  raised-swis = raised-word SWIS (λ e. omega arith)

  pub raised-tasks : state (raised_state st) TASKS ≡ state st TASKS
  raised-tasks = raised-word TASKS (λ e. omega arith)

  pub raised-current : state (raised_state st) CURRENT ≡ state st CURRENT
  raised-current = raised-word CURRENT (λ e. omega arith)

  -- so a Swi or a task is due as before
  pub raised-swi-due : (ws ls : List ℕ) → swi_due ws ls (raised_state st) ≡ swi_due ws ls st
  unfolding swi_due
  raised-swi-due ws ls = rw (raised-depth, raised-swis)

  pub raised-task-due : (ls : List ℕ) → task_due ls (raised_state st) ≡ task_due ls st
  unfolding task_due
  raised-task-due ls = rw (raised-depth, raised-swis, raised-tasks)

-- ---- tables that are raised
pub raised-typed : (t : Tables) → Typed t → Typed (raised t)
raised-typed t typed =
    record {
      tasks = typed.tasks;
      lines = typed.lines;
      semaphores = typed.semaphores;
      events = typed.events;
      mailboxes = typed.mailboxes;
      swis = typed.swis;
      clocks = typed.clocks;
      heap = typed.heap;
      state = length-set t.state LEVELS most_levels ∙ typed.state;
    }

module _ (t : Tables) (typed : Typed t) (s : Sound t) where
  abbrev st : List ℕ
  st = t.state

  -- a priority below 16 is below 32: only the last part of the rule speaks of the levels
  other : (k : Task) → Means (other_rule (levels st) k) → Means (other_rule (levels (raised_state st)) k)
  unfolding other_rule
  other k m =
      let (a0, (a1, (a2, (a3, (a4, (a5, (a6, (a7, (a8, (a9, (a10, (a11, a12)))))))))))) = m in
      let level : (k.mode ≢ not_in_use) × (k.mode ≢ inactive) → (0 < k.priority) × (k.priority < levels (raised_state st)) =
      λ u. let (low, high) = a12 u in (low, omega (arith, raised-levels st typed.state, levels-under st)) in
      (a0, (a1, (a2, (a3, (a4, (a5, (a6, (a7, (a8, (a9, (a10, (a11, level))))))))))))

  row : (i : ℕ) → Means (task_rule (levels st) i (task t.tasks i)) → Means (task_rule (levels (raised_state st)) i (task t.tasks i))
  row i m = (m.0, λ n. other (task t.tasks i) (m.1 n))

  -- nobody stands in a queue past the levels
  nobody : (p : ℕ) → levels st ≤ p → p < most_levels → anyone t.lines (ready_line p) ≡ false
  nobody p past low =
      ⊎_elim
      (λ (h : 0 < length (line t.lines (ready_line p))).
      let a = sound-almost t typed s in
      let x : ℕ = get_or (line t.lines (ready_line p)) 0 0 in
      let c = count-first (line t.lines (ready_line p)) h in
      let home = bit-eq (task_home t.tasks x) (ready_line p) (rw (a.standing.tasks x (ready_line p) (inr (omega arith, omega arith))) at c) in
      let (ready, level) = ready-row (task t.tasks x) (task-stands st t.tasks s.tasks x) p low home in
      absurd (below x p past ready level))
      (λ (h : length (line t.lines (ready_line p)) ≤ 0). le-ltb 0 _ h)
      (lt-or-le 0 (length (line t.lines (ready_line p))))
    where
      below : (x p : ℕ) → levels st ≤ p → (task t.tasks x).mode ≡ 1 → (task t.tasks x).priority ≡ p → ⊥
      below x p past ready level =
          let lt : x < task_count = in_use t.tasks x (λ z. omega arith) in
          ⊎_elim
          (λ (e : x ≡ 0). omega (arith, ((s.tasks x lt).0 e).1.0, levels-some st))
          (λ (n : x ≢ 0). omega (arith, ((row_other st x _ n (s.tasks x lt)).level (used-at _ (omega arith) (omega arith))).1))
          (same? x 0)

  highest : highest_ready most_levels t.lines ≡ highest_ready (levels st) t.lines
  unfolding highest_ready
  highest =
      let f : ℕ → Bool = λ p. anyone t.lines (ready_line p) in
      let h = high_is (levels st) f in
      high_one most_levels f (highest_below most_levels f) (highest_below (levels st) f)
      (high_is most_levels f)
      record {
        high = omega (arith, h.high, levels-under st);
        has = h.has;
        after = λ j low high.
            ⊎_elim (λ (l : j < levels st). h.after j low l) (λ (l : levels st ≤ j). nobody j l high) (lt-or-le j (levels st));
      }

  -- so the front of the highest queue is the same
  pub raised-front : front most_levels t.lines ≡ front (levels st) t.lines
  unfolding front
  raised-front = rw highest

  dispatches : Means (dispatch_rule t.swis t.lines (raised_state st))
  dispatches =
      rw (
        raised-swi-due st t.swis t.lines,
        raised-task-due st t.lines,
        raised-current st,
        raised-levels st typed.state,
        raised-front,
      )
      s.dispatch

  pub raised-sound : Sound (raised t)
  raised-sound =
      let ranges = sound-ranges t s in
      record {
        state = (
          omega (arith, ranges.depth, raised-depth st),
          (
            omega (arith, ranges.swis, raised-swis st),
            (
              omega (arith, ranges.tasks, raised-tasks st),
              (
                omega (arith, ranges.current, raised-current st),
                (rw (raised-current st) (still-ready t s), inr (there st typed.state)),
              ),
            ),
          ),
        );
        heap = s.heap;
        clocks = s.clocks;
        tasks = λ i h. row i (s.tasks i h);
        lines = s.lines;
        members = s.members;
        task_once = s.task_once;
        swi_once = s.swi_once;
        semaphores = s.semaphores;
        events = s.events;
        mailboxes = s.mailboxes;
        swis = s.swis;
        active = s.active;
        dispatch = dispatches;
      }
