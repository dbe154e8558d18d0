-- One call and a task's turn: a ready task that does not run, and a task that waits without end at a semaphore in arrival order.
-- In this order: what both have; a ready task; a waiter without end.
use Prim.Native.Nat.{ℕ, ◌+◌, ◌<◌, ◌≤◌}
use mathlib.Core.Path.{◌≡◌, sym, ap, subst, ◌∙◌}
use mathlib.Core.Logic.{◌≢◌, ◌⊎◌, inl, inr, ⊎_elim}
use mathlib.Core.Bool.{Bool, true, false, cond as if, and-false}
use mathlib.Core.List.Sublistᴰ
use mathlib.Core.List.{List, [], Sublistᴰ}
use native.Mathlib.Omega.{arith}
use borrow.Author.Tests.{eq-eqb, ne_eqb, lt-ltb}
use lib.Dec.{eqb, ltb}
use lib.ListN.{length}
use Rattle.basics.specs.Lists.{bit, count, ahead}
use Rattle.basics.proofs.Laws.{same?, length_without, ahead-without}
use Rattle.rules.specs.Tables.{Typed, levels, ready, task_count, semaphore_count, task, current, semaphore, state, USED, KIND, DEPTH}
use Rattle.rules.specs.Lines.{line, anyone, front_of, semaphore_line, active_line, ready_line, home_by, task_home, task_queues, moved, at_back}
use Rattle.rules.specs.Tasks.{blocked, placed_at, reprioritized, set_priority_effect, yield_effect, task_call}
use Rattle.rules.specs.Waits.{readied}
use Rattle.rules.specs.Swis.{top}
use Rattle.rules.specs.Dispatch.{running}
use Rattle.rules.specs.Step.{call_of}
use Rattle.rules.specs.Sound.{Sound, semaphore_rule}
use Rattle.rules.specs.declared.Tables.{Tables}
use Rattle.rules.specs.declared.Task.{Task}
use Rattle.rules.specs.declared.Thread.TheVariants as Threads
use Rattle.runs.specs.Run.{next}
use Rattle.runs.specs.Turn.{BlockedOn, before_at, is_post, ReadyAt, queue_at, Undisturbed, Yields}
use Rattle.demand_1_refusals.proofs.Known.{call_for}
use Rattle.rules_laws.proofs.Levels.{levels-some, levels-under}
use Rattle.demand_2_soundness.proofs.Groups.{OfTasks, Almost}
use Rattle.demand_2_soundness.proofs.Members.{bit-same}
use Rattle.demand_2_soundness.proofs.TaskRows.{task-same, in_use}
use Rattle.demand_2_soundness.proofs.Standing.{sound-almost}
use Rattle.demand_2_soundness.proofs.Moves.{moved-line}
use Rattle.demand_2_soundness.proofs.Waiting.{row_other, used-at, current-under, current-row, current-ready}
use Rattle.demand_3_turns.proofs.Same.{served_line, Unmoved}
use Rattle.demand_3_turns.proofs.Leaves.{Left}
use Rattle.demand_3_turns.proofs.Calls.{call_same}
use Rattle.demand_3_turns.proofs.Ahead.{sub-length, ahead-first, first-ahead, ahead-back}
use Rattle.demand_3_turns.proofs.Made.{Accepted, by_answer, tasks-after, semaphores-after, line_after}
use Rattle.demand_3_turns.proofs.Reach.{Reaches, at_semaphore, at_event, at_mailbox, nobody, reaches, reached-line, not_first}
use Rattle.demand_3_turns.proofs.Wakes.{ServesFirst, foremost-readied, others-stay, foremost-gone}
use Rattle.demand_3_turns.proofs.Posts.{semaphore-wakes}
use Rattle.demand_3_turns.proofs.SameKind.{kind-kept}
use Rattle.rules.specs.declared.Call.{Call}

-- the running thread is a task: the current one
pub running-current : (ls st : List ℕ) (x : ℕ) → running ls st ≡ Threads.Task x → current st ≡ x
unfolding running
running-current ls st x e = go (ltb 0 (state st DEPTH)) (anyone ls active_line) e
  where
    go : (a b : Bool) → if a Threads.Interrupt (if b (Threads.Swi (top ls)) (Threads.Task (current st))) ≡ Threads.Task x → current st ≡ x
    go true b e = absurd (let z : ◌≡◌ {A = ℕ} 0 1 = cc in omega arith)
    go false true e = absurd (let z : ◌≡◌ {A = ℕ} 0 1 = cc in omega arith)
    go false false e = cc

-- ---- a ready task
pub record StaysReady (p i : ℕ) (t : Tables) (q : Call) : Type 0 where
  pub ready : ReadyAt p i (next t q)
  pub order : Sublistᴰ (ahead i (queue_at p (next t q))) (ahead i (queue_at p t))
  pub yielded : (x : ℕ) → Yields x t q → count x (ahead i (queue_at p (next t q))) ≡ 0

module _ (t : Tables) (typed : Typed t) (s : Sound t) (p i : ℕ) (is : ReadyAt p i t) where
  pub low : i < task_count
  low = in_use t.tasks i (λ e. omega (arith, is.0))

  pub ready-level : p < levels t.state
  ready-level =
      let row = s.tasks i low in
      rw (← is.1)
      (⊎_elim
      (λ (e : i ≡ 0). omega (arith, (row.0 e).1.0, levels-some t.state))
      (λ (n : i ≢ 0). ((row_other _ i _ n row).level (used-at _ (omega (arith, is.0)) (omega (arith, is.0)))).1)
      (same? i 0))

  ready-left : (task t.tasks i).left ≡ 0
  ready-left =
      let row = s.tasks i low in
      ⊎_elim (λ (e : i ≡ 0). (row.0 e).1.1.0.1.0) (λ (n : i ≢ 0). ((row_other _ i _ n row).when_ready is.0).1.0) (same? i 0)

  ready-home : task_home t.tasks i ≡ ready_line p
  unfolding home_by
  ready-home = rw (is.0, is.1)

  of-queue : OfTasks (ready_line p)
  of-queue = let h = ready-level in inr (omega arith, omega (arith, levels-under t.state))

  pub in-queue : 0 < count i (queue_at p t)
  in-queue =
      omega (arith, (sound-almost t typed s).standing.tasks i (ready_line p) of-queue, bit-same _ _ ready-home)

  module _ (q : Call) (rests : running t.lines t.state ≢ Threads.Task i) (ok : Accepted t q)
      (keeps : (task (next t q).tasks i).priority ≡ p) where
    -- given another priority it would have it
    set-tasks : q.number ≡ 0x02 → q.a ≡ i → q.b ≢ (task t.tasks i).priority
        → (call_for t q).effect.next.tasks ≡ (moved at_back i (placed_at (task t.tasks i) q.b) (task_queues t.tasks t.lines)).tasks
    unfolding call_of task_call set_priority_effect reprioritized
    set-tasks e a n = rw (e, a, ne_eqb _ _ n, is.0)

    placed-priority : (b : ℕ) → (task (moved at_back i (placed_at (task t.tasks i) b) (task_queues t.tasks t.lines)).tasks i).priority ≡ b
    unfolding moved
    placed-priority b =
        rw (lt-ltb i task_count low) (ap (λ (k : Task). k.priority) (task-same t.tasks i (placed_at (task t.tasks i) b) typed.tasks low))

    kept : q.number ≡ 0x02 → q.a ≡ i → q.b ≡ (task t.tasks i).priority
    kept e a =
        ⊎_elim (λ d. d)
        (λ (n : q.b ≢ (task t.tasks i).priority).
        let now : (task (next t q).tasks i).priority ≡ q.b =
        ap (λ (ts : List ℕ). (task ts i).priority) (tasks-after t q ok ∙ set-tasks e a n) ∙ placed-priority q.b in
        absurd (n (sym now ∙ keeps ∙ sym is.1)))
        (same? q.b (task t.tasks i).priority)

    not-moved : Unmoved t q i
    not-moved =
        let r = reaches t q ok.cases in
        let h = ready-home in
        record {
          used = λ e. omega (arith, is.0);
          rests = rests;
          kept = λ e a. inl (kept e a);
          stays = λ e a. omega (arith, is.0);
          behind =
              not_first t.tasks t.swis t.lines (sound-almost t typed s).standing i q r
              (λ e. ⊎_elim (λ l. omega arith) (λ l. let low = ready-level in omega (arith, levels-under t.state)) (reached-line q r));
          lasts = λ e. omega (arith, ready-left);
        }

    same : Left t i (task_queues (next t q).tasks (next t q).lines)
    same = call_same t typed s q i not-moved

    yield-lines : q.number ≡ 0x03
        → (call_for t q).effect.next.lines ≡ (moved at_back (current t.state) (task t.tasks (current t.state)) (task_queues t.tasks t.lines)).lines
    unfolding call_of task_call yield_effect
    yield-lines e = rw e

    yielder-gone : (x : ℕ) → Yields x t q → count x (ahead i (queue_at p (next t q))) ≡ 0
    yielder-gone x (runs, number, _) =
        let c : current t.state ≡ x = running-current t.lines t.state x runs in
        let n : i ≢ x = λ e. rests (runs ∙ ap Threads.Task (sym e)) in
        let almost = sound-almost t typed s in
        let now =
        line_after t q ok (ready_line p) of-queue
        ∙ ap (λ (ls : List ℕ). line ls (ready_line p)) (yield-lines number)
        ∙ moved-line t almost at_back (current t.state) (task t.tasks (current t.state)) (current-under t s) (current-row t s) (ready_line p) of-queue in
        rw now (rw c (ahead-back i x (queue_at p t) (eqb (ready_line p) (task_home t.tasks x)) n in-queue))

    accepted-stays : StaysReady p i t q
    accepted-stays =
        let place = same.place (ready_line p) (record { tasks = of-queue; kind = λ l. absurd (omega arith) }) in-queue in
        record { ready = (same.row.mode ∙ is.0, keeps); order = place.1; yielded = yielder-gone }

pub ready-stays : (t : Tables) → Typed t → Sound t → (q : Call) → (p i : ℕ) → ReadyAt p i t → Undisturbed p i t q
    → StaysReady p i t q
ready-stays t typed s q p i is (rests, keeps) =
    by_answer t s q
    (λ no.
    record {
      ready = rw no.next is;
      order = rw no.next (Sublistᴰ.refl (ahead i (queue_at p t)));
      yielded = λ x y. absurd (no.code y.2);
    })
    (λ ok. accepted-stays t typed s p i is q rests ok keeps)

-- ---- a waiter without end
pub record Waiter (s i : ℕ) (t : Tables) : Type 0 where
  pub blocked : BlockedOn s i t
  pub endless : (task t.tasks i).left ≡ 0
  pub arrival : semaphore t.semaphores s KIND < 2

-- served: by an accepted post on s, as the first in line
pub record Served (s i : ℕ) (t : Tables) (q : Call) : Type 0 where
  pub post : is_post s t q ≡ true
  pub first : before_at s i t ≡ []
  pub ready : (task (next t q).tasks i).mode ≡ ready
  pub outcome : (task (next t q).tasks i).outcome ≡ 0
  pub value : (task (next t q).tasks i).value ≡ 0

-- what one call leaves of it
abbrev pub Stays : ℕ → ℕ → Tables → Call → Type 0
Stays s i t q = Waiter s i (next t q) × (length (before_at s i (next t q)) + bit (is_post s t q) ≤ length (before_at s i t))

module _ (t : Tables) (typed : Typed t) (sound : Sound t) (s i : ℕ) (w : Waiter s i t) where
  almost : Almost t
  almost = sound-almost t typed sound

  waiter-in : i < task_count
  waiter-in = in_use t.tasks i (λ e. omega (arith, w.blocked.0))

  -- at a semaphore that there is
  object-in : s < semaphore_count
  object-in =
      let row = sound.tasks i waiter-in in
      let n : i ≢ 0 = λ e. omega (arith, (row.0 e).0, w.blocked.0) in
      rw (← w.blocked.1) ((row_other _ i _ n row).when_at_semaphore w.blocked.0).0.0

  waiter-home : task_home t.tasks i ≡ semaphore_line s
  unfolding home_by
  waiter-home = rw w.blocked.0 w.blocked.1

  of-line : OfTasks (semaphore_line s)
  of-line = let h = object-in in inl (omega arith)

  in-line : 0 < count i (line t.lines (semaphore_line s))
  in-line = omega (arith, almost.standing.tasks i (semaphore_line s) of-line, bit-same _ _ waiter-home)

  someone : 0 < length (line t.lines (semaphore_line s))
  someone = omega (arith, in-line, length_without i (line t.lines (semaphore_line s)))

  has-waiters : anyone t.lines (semaphore_line s) ≡ true
  has-waiters = lt-ltb 0 _ someone

  semaphore-used : semaphore t.semaphores s USED ≢ 0
  unfolding semaphore_rule
  semaphore-used z = let (_, (free, _)) = sound.semaphores s object-in in omega (arith, someone, (free z).1.1)

  module _ (q : Call) (ok : Accepted t q) where
    kind-stays : semaphore (next t q).semaphores s KIND < 2
    kind-stays =
        rw (semaphores-after t q ok, kind-kept t s semaphore-used has-waiters _ q.number q.a q.b q.c q.d ok.cases) w.arrival

    -- ---- a post on s serves the first in line
    module _ (number : q.number ≡ 0x23) (at : q.a ≡ s) where
      wakes : ServesFirst t q (semaphore_line s) 0
      wakes = subst (λ (a : ℕ). ServesFirst t q (semaphore_line a) 0) at (semaphore-wakes t q ok number (rw at has-waiters))

      abbrev x : ℕ
      x = front_of t.lines (semaphore_line s)

      is-post : is_post s t q ≡ true
      is-post = rw (eq-eqb _ _ number, eq-eqb _ _ at, eq-eqb _ _ ok.code)

      serves : x ≡ i → Served s i t q
      serves e =
          let row : task (next t q).tasks i ≡ readied (task t.tasks x) 0 0 =
          rw (← e) (foremost-readied t typed sound q ok (semaphore_line s) 0 wakes) in
          record {
            post = is-post;
            first = ahead-first i (line t.lines (semaphore_line s)) someone e;
            ready = ap (λ (k : Task). k.mode) row;
            outcome = ap (λ (k : Task). k.outcome) row;
            value = ap (λ (k : Task). k.value) row;
          }

      passes : x ≢ i → Stays s i t q
      passes n =
          let d : i ≢ x = λ e. n (sym e) in
          let row = others-stay t typed sound q ok (semaphore_line s) 0 wakes i d in
          let gone = foremost-gone t typed sound q ok (semaphore_line s) 0 wakes in
          let before : 0 < count x (before_at s i t) = first-ahead i (line t.lines (semaphore_line s)) someone n in (
            record {
              blocked = rw row w.blocked;
              endless = rw row w.endless;
              arrival = kind-stays;
            },
            rw (gone, ahead-without i x (line t.lines (semaphore_line s)) d, is-post) (omega (arith, before, length_without x (before_at s i t))),
          )

    -- ---- any other call leaves it where it waits
    module _ (other : (q.number ≡ 0x23) → (q.a ≢ s)) where
      no-post : is_post s t q ≡ false
      no-post =
          ⊎_elim
          (λ (e : q.number ≡ 0x23). rw (eq-eqb _ _ e, ne_eqb _ _ (other e)))
          (λ (n : q.number ≢ 0x23). rw (ne_eqb _ _ n))
          (same? q.number 0x23)

      apart : Reaches q → task_home t.tasks i ≢ served_line q
      apart (at_semaphore n l h) e = other n (omega (arith, e, h, waiter-home))
      apart (at_event l h) e = omega (arith, e, h, waiter-home, object-in)
      apart (at_mailbox l h) e = omega (arith, e, h, waiter-home, object-in)
      apart (nobody h) e = omega (arith, e, h, waiter-home, object-in)

      left-waiting : Unmoved t q i
      left-waiting =
          let r = reaches t q ok.cases in
          record {
            used = λ e. omega (arith, w.blocked.0);
            rests = λ e. omega (arith, w.blocked.0, rw (running-current t.lines t.state i e) at (current-ready t sound));
            kept = λ e a. inr (rw w.blocked.0);
            stays = λ e a. omega (arith, w.blocked.0);
            behind = not_first t.tasks t.swis t.lines almost.standing i q r (apart r);
            lasts = λ e. omega (arith, w.endless);
          }

      waits-on : Stays s i t q
      waits-on =
          let same = call_same t typed sound q i left-waiting in
          let place = same.place (semaphore_line s) (record { tasks = of-line; kind = λ l. w.arrival }) in-line in (
            record {
              blocked = (same.row.mode ∙ w.blocked.0, same.row.object ∙ w.blocked.1);
              endless = same.row.endless w.endless;
              arrival = kind-stays;
            },
            rw no-post (omega (arith, sub-length place.1)),
          )

pub waiter-stays : (t : Tables) → Typed t → Sound t → (q : Call) → (s i : ℕ) → Waiter s i t
    → Stays s i t q ⊎ Served s i t q
waiter-stays t typed sound q s i w =
    by_answer t sound q
    (λ no. inl (rw no.next w, rw (no.next, ne_eqb _ _ no.code, and-false) (omega arith)))
    (λ ok.
    ⊎_elim
    (λ (e : q.number ≡ 0x23).
    ⊎_elim
    (λ (d : q.a ≡ s).
    ⊎_elim (λ h. inr (serves t typed sound s i w q ok e d h)) (λ h. inl (passes t typed sound s i w q ok e d h))
    (same? (front_of t.lines (semaphore_line s)) i))
    (λ (n : q.a ≢ s). inl (waits-on t typed sound s i w q ok (λ _. n)))
    (same? q.a s))
    (λ (n : q.number ≢ 0x23). inl (waits-on t typed sound s i w q ok (λ e. absurd (n e))))
    (same? q.number 0x23))
