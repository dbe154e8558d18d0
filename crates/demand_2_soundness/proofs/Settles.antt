-- Dispatch: from the tables that a call's effect leaves to sound ones.
-- In this order: Swis: the first of the highest posted starts where one is due; tasks: the front of the highest queue; both, and what is left.
use Prim.Native.Nat.{ℕ, suc, ◌-◌, ◌<◌, ◌≤◌}
use mathlib.Core.Path.{◌≡◌, refl, sym, ap, ◌∙◌}
use mathlib.Core.Logic.{◌≢◌, inr, ⊎_elim}
use mathlib.Core.Bool.{true, false, not, ◌&&◌, true≢false, and-eq-true_iff, and-false}
use mathlib.Core.List.{List}
use native.Mathlib.Omega.{arith}
use lib.Dec.{eqb}
use borrow.Author.Tests.{lt-ltb, le-ltb, ltb-true}
use lib.ListN.{length, length-set}
use lib.Seq.{get_or-set_same, get_or-set_other}
use Rattle.basics.specs.Rule.{Means}
use Rattle.basics.proofs.Laws.{lt-or-le, count-first, length_without}
use Rattle.basics.proofs.Finds.{IsHighest, high_is}
use Rattle.rules.specs.Tables.{Typed, task_count, most_levels, levels, ready, task, swi, state, with_state, PRIORITY, DEPTH, SWIS, TASKS, CURRENT, LEVELS}
use Rattle.rules.specs.Tables.{swi_levels, state_width}
use Rattle.rules.specs.Lines.{anyone, front_of, line, posted_line, active_line, ready_line, swi_home, task_home, home_by}
use Rattle.rules.specs.Swis.{SwiQueues, swi_queues, top}
use Rattle.rules.specs.Dispatch.{dispatched, swi_dispatched, swi_due, task_dispatched, task_due, highest_posted, active_level, started, highest_ready, front}
use Rattle.rules.specs.Sound.{Sound, state_rule, dispatch_rule}
use Rattle.rules.specs.Step.{with_posts, with_dispatched}
use Rattle.rules.specs.declared.Tables.{Tables}
use Rattle.rules_laws.proofs.Levels.{levels-under, levels-some, levels-same}
use Rattle.rules_laws.proofs.Calls.{chosen}
use Rattle.rules_laws.proofs.InPlace.{length-snoc}
use Rattle.demand_2_soundness.proofs.Groups.{Settling, Almost, others-change, Ranges}
use Rattle.demand_2_soundness.proofs.Members.{bit-same, bit-eq}
use Rattle.demand_2_soundness.proofs.Standing.{in-ready, members-is, task-once, swi-once}
use Rattle.demand_2_soundness.proofs.Starts.{started-almost, started-active, started-top, started-priority, started-stays}

-- ---- Swis
-- the priority of the highest posted one, and the first one there
abbrev level : List ℕ → ℕ
level ls = highest_posted ls - 1

abbrev next : List ℕ → ℕ
next ls = front_of ls (posted_line (level ls))

level-some : (ws ls : List ℕ) → 0 < length (line ls active_line) → active_level ws ls ≡ suc (swi ws (top ls) PRIORITY)
unfolding active_level
level-some ws ls h = rw (lt-ltb 0 (length (line ls active_line)) h)

pub posted-high : (ls : List ℕ) → IsHighest swi_levels (λ p. anyone ls (posted_line p)) (highest_posted ls)
unfolding highest_posted
posted-high ls = high_is swi_levels (λ p. anyone ls (posted_line p))

-- what a start, or none, leaves
record SwisSettled (t : Tables) (x : SwiQueues) : Type 0 where
  almost : Almost (with_posts t x)
  quiet : swi_due x.swis x.lines t.state ≡ false

module _ (t : Tables) (a : Almost t) where
  module _ (due : swi_due t.swis t.lines t.state ≡ true) where
    p : ℕ
    p = level t.lines

    i : ℕ
    i = next t.lines

    due-above : active_level t.swis t.lines < highest_posted t.lines
    unfolding swi_due
    due-above = ltb-true _ _ ((and-eq-true_iff (eqb (state t.state DEPTH) 0 && not (eqb (state t.state SWIS) 0)) _).0 due).1

    low : p < swi_levels
    unfolding p
    low = omega (arith, (posted-high t.lines).high, due-above)

    home : swi_home t.swis i ≡ posted_line p
    unfolding i p
    home =
        let q : 0 < length (line t.lines (posted_line p)) = ltb-true _ _ ((posted-high t.lines).has (omega (arith, due-above))) in
        bit-eq _ _ (rw (a.standing.swis i p low) at (count-first (line t.lines (posted_line p)) q))

    above : 0 < length (line t.lines active_line) → swi t.swis (top t.lines) PRIORITY < p
    unfolding p
    above h = omega (arith, due-above, level-some t.swis t.lines h)

    after : SwiQueues
    after = started i (posted_line p) (swi_queues t.swis t.lines)

    -- no queue above its priority has a member
    level-after : active_level after.swis after.lines ≡ suc p
    unfolding after
    level-after =
        let n = ap length (started-active t a i p low home) ∙ length-snoc (line t.lines active_line) i in
        level-some after.swis after.lines (omega arith)
        ∙ ap (λ (x : ℕ). suc (swi after.swis x PRIORITY)) (started-top t a i p low home)
        ∙ ap suc (started-priority t a i p low home)

    over : (q : ℕ) → p < q → highest_posted t.lines ≤ q
    unfolding p
    over q h = omega (arith, due-above)

    highest-after : highest_posted after.lines ≤ suc p
    unfolding after
    highest-after =
        ⊎_elim
        (λ (h : suc p < highest_posted after.lines).
        let now = posted-high after.lines in
        let q : ℕ = highest_posted after.lines - 1 in
        let le = now.high in
        let stays = started-stays t a i p low home q (omega arith) (λ (e : q ≡ p). omega arith) in
        let has : anyone t.lines (posted_line q) ≡ true = rw stays at (now.has (omega arith)) in
        absurd (true≢false (sym has ∙ (posted-high t.lines).after q (over q (omega arith)) (omega arith))))
        (λ h. h)
        (lt-or-le (suc p) (highest_posted after.lines))

    quiet-after : swi_due after.swis after.lines t.state ≡ false
    unfolding swi_due
    quiet-after =
        rw (le-ltb (active_level after.swis after.lines) (highest_posted after.lines) (omega (arith, level-after, highest-after)))
        (and-false (eqb (state t.state DEPTH) 0 && not (eqb (state t.state SWIS) 0)))

    started-settled : SwisSettled t (started (next t.lines) (posted_line (level t.lines)) (swi_queues t.swis t.lines))
    unfolding after i p
    started-settled = record { almost = started-almost t a i p low home above; quiet = quiet-after }

  swis-settled : SwisSettled t (swi_dispatched t.state (swi_queues t.swis t.lines))
  unfolding swi_dispatched
  swis-settled =
      chosen (λ (x : SwiQueues). SwisSettled t x) (swi_due t.swis t.lines t.state) _ _
      started-settled
      (λ e. record { almost = a; quiet = e })

  swis-stay : swi_due t.swis t.lines t.state ≡ false → swi_dispatched t.state (swi_queues t.swis t.lines) ≡ swi_queues t.swis t.lines
  unfolding swi_dispatched
  swis-stay e = rw e

-- the state that dispatch leaves
record Stated (ts ws ls st : List ℕ) : Type 0 where
  size : length st ≡ state_width
  state : Means (state_rule ts st)
  dispatch : Means (dispatch_rule ws ls st)

-- ---- tasks: the front of the highest non-empty ready queue is a ready task
module _ (t : Tables) (a : Almost t) where
  ready-high : IsHighest (levels t.state) (λ p. anyone t.lines (ready_line p)) (highest_ready (levels t.state) t.lines)
  unfolding highest_ready
  ready-high = high_is (levels t.state) (λ p. anyone t.lines (ready_line p))

  -- task 0 is always ready
  idle-home : task_home t.tasks 0 ≡ ready_line 0
  unfolding home_by
  idle-home = let r = (a.tasks 0 (omega arith)).0 refl in rw (r.0, r.1.0)

  someone : 0 < highest_ready (levels t.state) t.lines
  someone =
      ⊎_elim (λ h. h)
      (λ (h : highest_ready (levels t.state) t.lines ≤ 0).
      let once = a.standing.tasks 0 (ready_line 0) (inr (omega arith, omega arith)) ∙ bit-same _ _ idle-home in
      let n : 0 < length (line t.lines (ready_line 0)) = omega (arith, once, length_without 0 (line t.lines (ready_line 0))) in
      absurd (true≢false (sym (lt-ltb _ _ n) ∙ ready-high.after 0 h (omega (arith, levels-some t.state)))))
      (lt-or-le 0 (highest_ready (levels t.state) t.lines))

  front-ready : (front (levels t.state) t.lines < task_count) × ((task t.tasks (front (levels t.state) t.lines)).mode ≡ ready)
  unfolding front
  front-ready =
      let p : ℕ = highest_ready (levels t.state) t.lines - 1 in
      let low : p < most_levels = omega (arith, ready-high.high, someone, levels-under t.state) in
      let q : 0 < length (line t.lines (ready_line p)) = ltb-true _ _ (ready-high.has someone) in
      let c = count-first (line t.lines (ready_line p)) q in
      let home = bit-eq _ _ (rw (a.standing.tasks _ (ready_line p) (inr (omega arith, omega arith))) at c) in
      let r = in-ready _ t.tasks a.tasks _ p low home in
      (r.0, r.1)

  -- ---- the state after dispatch
  module _ (r : Ranges t.state) (quiet : swi_due t.swis t.lines t.state ≡ false) where
    another : Stated t.tasks t.swis t.lines (with_state t.state CURRENT (front (levels t.state) t.lines))
    unfolding swi_due
    another =
        let i : ℕ = front (levels t.state) t.lines in
        let st : List ℕ = with_state t.state CURRENT i in
        let same : (f : ℕ) → f ≢ CURRENT → state st f ≡ state t.state f = λ f n. get_or-set_other t.state CURRENT f i 0 n in
        let now : state st CURRENT ≡ i = get_or-set_same t.state CURRENT i 0 (omega (arith, a.typed.state)) in
        let d = same DEPTH (λ e. omega arith) in
        let w = same SWIS (λ e. omega arith) in
        record {
          size = length-set t.state CURRENT i ∙ a.typed.state;
          state = (
            omega (arith, r.depth),
            (
              omega (arith, r.swis),
              (
                omega (arith, r.tasks, same TASKS (λ e. omega arith)),
                (omega (arith, front-ready.0), (rw now front-ready.1, rw (same LEVELS (λ e. omega arith)) r.levels)),
              ),
            ),
          );
          dispatch = (rw (d, w, quiet), λ e. rw (levels-same t.state CURRENT i (λ e. omega arith)) now);
        }

    -- it was ready, or another was due
    same-current : task_due t.lines t.state ≡ false → (task t.tasks (state t.state CURRENT)).mode ≡ ready
        → Stated t.tasks t.swis t.lines t.state
    same-current not-due is =
        record {
          size = a.typed.state;
          state = (r.depth, (r.swis, (r.tasks, (r.current, (is, r.levels)))));
          dispatch = (rw quiet, λ e. absurd (true≢false (sym e ∙ not-due)));
        }

    stated : (task_due t.lines t.state ≡ false → (task t.tasks (state t.state CURRENT)).mode ≡ ready)
        → Stated t.tasks t.swis t.lines (task_dispatched t.lines t.state)
    unfolding task_dispatched
    stated is =
        chosen (λ (st : List ℕ). Stated t.tasks t.swis t.lines st) (task_due t.lines t.state) _ _
        (λ e. another)
        (λ e. same-current e (is e))

dispatched-levels : (ls st : List ℕ) → levels (task_dispatched ls st) ≡ levels st
unfolding task_dispatched
dispatched-levels ls st =
    chosen (λ (su : List ℕ). levels su ≡ levels st) (task_due ls st) _ _ (λ _. levels-same st CURRENT _ (λ e. omega arith)) (λ _. refl)

module _ (t : Tables) (s : Settling t) where
  x : SwiQueues
  x = swi_dispatched t.state (swi_queues t.swis t.lines)

  now-almost : Almost (with_posts t x)
  unfolding x
  now-almost = (swis-settled t s.almost).almost

  current-stays : task_due x.lines t.state ≡ false → (task t.tasks (state t.state CURRENT)).mode ≡ ready
  unfolding x
  current-stays no-task =
      ⊎_elim (λ e. e)
      (λ d.
      let e : x.lines ≡ t.lines = ap (λ (y : SwiQueues). y.lines) (swis-stay t s.almost d.0) in
      absurd (true≢false (sym d.1 ∙ rw e at no-task)))
      s.current

  settled : Stated t.tasks x.swis x.lines (task_dispatched x.lines t.state)
  unfolding x
  settled = stated (with_posts t x) now-almost s.ranges (swis-settled t s.almost).quiet current-stays

  after-dispatch : Almost (with_dispatched t (dispatched t.swis t.lines t.state))
  unfolding dispatched x
  after-dispatch =
      let a = now-almost in
      others-change (with_posts t x) a t.semaphores t.events t.mailboxes t.clocks t.heap _ refl refl refl refl refl
      (settled.size ∙ sym a.typed.state) (dispatched-levels x.lines t.state) a.semaphores a.events a.mailboxes a.clocks a.heap

  pub settled-typed : Typed (with_dispatched t (dispatched t.swis t.lines t.state))
  settled-typed = after-dispatch.typed

  pub settled-sound : Sound (with_dispatched t (dispatched t.swis t.lines t.state))
  unfolding dispatched x
  settled-sound =
      let a = now-almost in
      record {
        state = settled.state;
        heap = a.heap;
        clocks = a.clocks;
        tasks = rw (dispatched-levels (swi_dispatched t.state (swi_queues t.swis t.lines)).lines t.state) a.tasks;
        lines = a.lines;
        members = members-is (with_posts t x) a;
        task_once = task-once (with_posts t x) a;
        swi_once = swi-once (with_posts t x) a;
        semaphores = a.semaphores;
        events = a.events;
        mailboxes = a.mailboxes;
        swis = a.swis;
        active = a.active;
        dispatch = settled.dispatch;
      }
