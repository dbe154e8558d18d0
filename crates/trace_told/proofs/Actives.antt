-- The active Swis between a call's effect and dispatch: as many as before, and one fewer after call 17.
-- In this order: what stays of the active Swis; a Swi is posted; calls 10 to 18; and every call.
use Prim.Native.Nat.{ℕ, ◌+◌, ◌-◌, ◌≤◌, ◌<◌}
use mathlib.Core.Path.{◌≡◌, refl, sym, ap, ◌∙◌}
use mathlib.Core.Logic.{◌≢◌}
use mathlib.Core.Bool.{Bool, true, ◌&&◌, cond as if, and-eq-true_iff}
use mathlib.Core.List.{List}
use native.Mathlib.Omega.{arith}
use borrow.Author.Tests.{ne_eqb, eqb-true, ltb-true, leb-true, not-false}
use lib.Dec.{eqb, ltb, leb}
use lib.ListN.{length}
use lib.Seq.{length-take-le}
use Rattle.basics.specs.Lists.{bit}
use Rattle.basics.specs.Rule.{Means}
use Rattle.rules.specs.Tables.{Typed, swi_count, task_count, clock_count, swi, task, clock, state, levels, PRIORITY, TRIGGER, POSTED, CURRENT, swi_levels}
use Rattle.rules.specs.Lines.{line, out_of, TaskQueues, task_queues, at_back, posted_line, active_line}
use Rattle.rules.specs.Answer.{Cases, Effect, CallRule, called, code_of, unknown, range_size}
use Rattle.rules.specs.Dispatch.{context}
use Rattle.rules.specs.Sound.{Sound, tasks_rule}
use Rattle.rules.specs.Step.{in_range, over, call_of, with_queued, with_posts, with_semaphores, with_events, with_mailboxes, with_clocks, with_heap, with_ticked}
use Rattle.rules.specs.Swis.{SwiQueues, swi_queues, posted, triggered, top}
use Rattle.rules.specs.Swis as Swis
use Rattle.rules.specs.Tick as Tick
use Rattle.rules.specs.Tick.{ClockTables}
use Rattle.rules.specs.Waits.{wait_tables}
use Rattle.rules.specs.declared.Tables.{Tables}
use Rattle.rules_laws.proofs.Lines.{left-same, entered-other}
use Rattle.rules_laws.proofs.Calls.{chosen}
use Rattle.demand_2_soundness.proofs.Codes.{accepted-is, unknown-refused}
use Rattle.demand_2_soundness.proofs.Actives.{last-leaves}
use Rattle.demand_2_soundness.proofs.Aside.{woken-aside}
use Rattle.demand_2_soundness.proofs.Groups.{NeverWaits}
use Rattle.demand_2_soundness.proofs.Standing.{sound-almost, task-0-never-waits}
use Rattle.demand_2_soundness.proofs.Ticking.{rising-keeps, with_clocked, clocks-tick, Ready, task-ticks}
use Rattle.demand_2_soundness.proofs.OfSwis.{context-S}
use Rattle.demand_2_soundness.proofs.SwiTables.{swi-other, priority-below}
use Rattle.demand_2_soundness.proofs.Waiting.{still-ready}
use Rattle.demand_2_soundness.proofs.Quiet.{tasks-quiet, semaphores-quiet, events-quiet, mailboxes-quiet}

-- as many are active as before a call with this number, and one fewer after call 17
pub record Active (number : ℕ) (ls ms : List ℕ) : Type 0 where
  pub many : length (line ms active_line) + bit (eqb number 0x17) ≡ length (line ls active_line)

same-active : {number : ℕ} {ls ms : List ℕ} → number ≢ 0x17 → line ms active_line ≡ line ls active_line → Active number ls ms
same-active {number} n e = record { many = rw (ne_eqb number 0x17 n, e) (omega arith) }

-- a call leaves them so, if it is accepted
pub record Leaves {A : Type 0} (lines_of : A → List ℕ) (number : ℕ) (ls : List ℕ) (c : CallRule A) : Type 0 where
  pub active : code_of c.cases ≡ 0 → Active number ls (lines_of c.effect.next)

module _ {A : Type 0} {lines_of : A → List ℕ} {number : ℕ} {ls : List ℕ} where
  does : {c : Cases} {e : Effect A} → (code_of c ≡ 0 → Active number ls (lines_of e.next)) → Leaves lines_of number ls (called c e)
  does h = record { active = h }

  -- a call with another number than 17 that leaves the active ones alone
  alone : (k : ℕ) {c : Cases} {e : Effect A} → eqb number k ≡ true → k ≢ 0x17 → line (lines_of e.next) active_line ≡ line ls active_line
      → Leaves lines_of number ls (called c e)
  alone k is n e = does (λ _. same-active (λ z. n (sym (eqb-true number k is) ∙ z)) e)

  numbered : (b : Bool) {x y : CallRule A} → (b ≡ true → Leaves lines_of number ls x) → Leaves lines_of number ls y → Leaves lines_of number ls (if b x y)
  numbered b {x} {y} p q = chosen (λ (c : CallRule A). Leaves lines_of number ls c) b x y p (λ _. q)

  nothing : (x : A) → Leaves lines_of number ls (unknown x)
  nothing x = record { active = λ z. absurd (unknown-refused x z) }

-- ---- a Swi is posted: its line is another
record Low (ls : List ℕ) (p : SwiQueues) : Type 0 where
  low : (x : ℕ) → swi p.swis x PRIORITY < swi_levels
  same : line p.lines active_line ≡ line ls active_line

module _ (ls : List ℕ) (p : SwiQueues) (k : Low ls p) where
  low-triggered : (x v : ℕ) → Low ls (triggered x v p)
  low-triggered x v = record { low = λ y. rw (swi-other p.swis x TRIGGER v y PRIORITY (λ e. omega arith)) (k.low y); same = k.same }

  low-posted : (x : ℕ) → Low ls (posted x p)
  unfolding posted
  low-posted x =
      chosen (λ (q : SwiQueues). Low ls q) (ltb x swi_count && eqb (swi p.swis x POSTED) 0) _ _
      (λ _.
      let j = posted_line (swi p.swis x PRIORITY) in
      record {
        low = λ y. rw (swi-other p.swis x POSTED 1 y PRIORITY (λ e. omega arith)) (k.low y);
        same = entered-other p.lines j x at_back active_line (λ (e : active_line ≡ j). omega (arith, k.low x)) ∙ k.same;
      })
      (λ _. k)

-- ---- the calls 10 to 18
abbrev of_posts : SwiQueues → List ℕ
of_posts p = p.lines

module _ (t : Tables) (typed : Typed t) (s : Sound t) where
  before : Low t.lines (swi_queues t.swis t.lines)
  before = record { low = priority-below t.swis t.lines s.swis; same = refl }

  -- the top active one ends
  one_fewer : 0 < length (line t.lines active_line)
      → length (line (out_of active_line (top t.lines) t.lines) active_line) + 1 ≡ length (line t.lines active_line)
  unfolding top
  one_fewer some =
      let xs = line t.lines active_line in
      let gone = left-same t.lines active_line (top t.lines) (omega arith) typed.lines in
      let front = last-leaves (λ x. swi t.swis x PRIORITY) xs s.active.1 some in
      omega (arith, ap length (gone ∙ front), length-take-le (length xs - 1) xs (omega arith))

  module _ (number a b c d : ℕ) where
    abbrev who : ℕ
    who = context t.lines t.state

    changed : (v : ℕ) (zero : Bool)
        → line (if zero (posted a (triggered a v (swi_queues t.swis t.lines))) (triggered a v (swi_queues t.swis t.lines))).lines active_line
        ≡ line t.lines active_line
    changed v zero =
        let now = low-triggered t.lines (swi_queues t.swis t.lines) before a v in
        (chosen (λ (p : SwiQueues). Low t.lines p) zero _ _ (λ _. low-posted t.lines _ now a) (λ _. now)).same

    swis-active : Leaves of_posts number t.lines (Swis.swi_call (swi_queues t.swis t.lines) t.clocks t.state who number a b c d)
    unfolding Swis.swi_call Swis.create_effect Swis.delete_effect Swis.post_effect Swis.change_effect Swis.zero_effect Swis.end_effect Swis.taken_effect Swis.end_cases
    swis-active =
        numbered (eqb number 0x10) (λ e. alone 0x10 e (λ z. omega arith) refl)
        (numbered (eqb number 0x11) (λ e. alone 0x11 e (λ z. omega arith) refl)
        (numbered (eqb number 0x12) (λ e. alone 0x12 e (λ z. omega arith) (low-posted t.lines _ before a).same)
        (numbered (eqb number 0x13) (λ e. alone 0x13 e (λ z. omega arith) (changed _ true))
        (numbered (eqb number 0x14) (λ e. alone 0x14 e (λ z. omega arith) (let v = Swis.one_down (swi t.swis a TRIGGER) in changed v (eqb v 0)))
        (numbered (eqb number 0x15) (λ e. alone 0x15 e (λ z. omega arith) (changed _ true))
        (numbered (eqb number 0x16) (λ e. alone 0x16 e (λ z. omega arith) (let v = Swis.cleared (swi t.swis a TRIGGER) b in changed v (eqb v 0)))
        (numbered (eqb number 0x17) (λ e. does (ends e))
        (numbered (eqb number 0x18) (λ e. alone 0x18 e (λ z. omega arith) refl) (nothing _)))))))))
      where
        ends : eqb number 0x17 ≡ true → code_of (Swis.end_cases t.state who a b c d) ≡ 0
            → Active number t.lines (out_of active_line (top t.lines) t.lines)
        ends e z =
            let ok = accepted-is (Swis.end_cases t.state who a b c d) z in
            let some = context-S t.lines t.state (eqb-true _ _ (not-false _ ok.at2)) in
            record { many = rw e (one_fewer some) }

    -- ---- the calls 74 to 78
    clocks-same : line (Tick.clocks_ticked t.clocks t.swis t.lines).lines active_line ≡ line t.lines active_line
    unfolding Tick.clock_tick
    clocks-same =
        (rising-keeps (λ (x : ClockTables). Low t.lines (swi_queues x.swis x.lines)) Tick.clock_tick (Tick.clock_tables t.clocks t.swis t.lines) clock_count
        (λ x n h so_far.
        chosen (λ (q : SwiQueues). Low t.lines q) (Tick.aged (clock x.clocks n)).fired _ _
        (λ _. low-posted t.lines (swi_queues x.swis x.lines) so_far (clock x.clocks n).swi)
        (λ _. so_far))
        before).same

    task-same : (q : TaskQueues) (i : ℕ) → Means (tasks_rule (levels t.state) q.tasks) → line (Tick.task_tick q i).lines active_line ≡ line q.lines active_line
    unfolding Tick.task_tick
    task-same q i rows =
        chosen (λ (y : TaskQueues). line y.lines active_line ≡ line q.lines active_line) (eqb (task q.tasks i).left 0) _ _
        (λ _. refl)
        (λ _.
        chosen (λ (y : TaskQueues). line y.lines active_line ≡ line q.lines active_line) (eqb (task q.tasks i).left 1) _ _
        (λ _. woken-aside q t.state rows i _ 0 active_line (omega arith) (omega arith))
        (λ _. refl))

    ticked-same : line (Tick.ticked (Tick.tick_tables t.tasks t.lines t.swis t.clocks t.state)).lines active_line ≡ line t.lines active_line
    unfolding Tick.ticked
    ticked-same =
        let u = with_clocked t (Tick.clocks_ticked t.clocks t.swis t.lines) in
        let almost = clocks-tick t (sound-almost t typed s) in
        let i = state t.state CURRENT in
        (rising-keeps (λ (q : TaskQueues). Ready u i q × (line q.lines active_line ≡ line u.lines active_line)) Tick.task_tick (task_queues u.tasks u.lines) task_count
        (λ q n h so_far. (task-ticks u i q n h so_far.0, task-same q n so_far.0.0.tasks ∙ so_far.1))
        ((almost, still-ready t s), refl)).1
        ∙ clocks-same

    switches-active : Leaves (λ (x : Tick.TickTables). x.lines) number t.lines
        (Tick.switch_call (Tick.tick_tables t.tasks t.lines t.swis t.clocks t.state) who number a b c d)
    unfolding Tick.switch_call
    switches-active =
        numbered (eqb number 0x74) (λ e. alone 0x74 e (λ z. omega arith) refl)
        (numbered (eqb number 0x75) (λ e. alone 0x75 e (λ z. omega arith) refl)
        (numbered (eqb number 0x76) (λ e. alone 0x76 e (λ z. omega arith) ticked-same)
        (numbered (eqb number 0x77) (λ e. alone 0x77 e (λ z. omega arith) refl)
        (numbered (eqb number 0x78) (λ e. alone 0x78 e (λ z. omega arith) refl) (nothing _)))))

    -- ---- the calls of a kind whose range has no 17 leave the active ones alone
    within : (from : ℕ) → in_range number from ≡ true → (from ≤ number) × (number < from + range_size)
    within from e = let both = (and-eq-true_iff (leb from number) (ltb number (from + range_size))).0 e in (leb-true _ _ both.0, ltb-true _ _ both.1)

    abbrev Kind : CallRule Tables → Type 0
    Kind c = Leaves (λ (u : Tables). u.lines) number t.lines c

    of-kind : {A : Type 0} {lines_of : A → List ℕ} (put : A → Tables) (c : CallRule A) → ((x : A) → (put x).lines ≡ lines_of x)
        → Leaves lines_of number t.lines c → Kind (over put c)
    of-kind put c e h = record { active = λ z. rw (e c.effect.next) (h.active z) }

    other-kind : {A : Type 0} (put : A → Tables) (c : CallRule A) → number ≢ 0x17
        → (code_of c.cases ≡ 0 → line (put c.effect.next).lines active_line ≡ line t.lines active_line) → Kind (over put c)
    other-kind put c n e = record { active = λ z. same-active n (e z) }

    never : NeverWaits 0 t.lines
    never = task-0-never-waits t s

    pub effect-active : Leaves (λ (u : Tables). u.lines) number t.lines (call_of t who number a b c d)
    unfolding call_of
    effect-active =
        numbered (in_range number 0x00) (λ e. other-kind (with_queued t) _ (λ z. omega (arith, (within 0x00 e).1))
        (λ z. ((tasks-quiet (task_queues t.tasks t.lines) t.state s.tasks t.state who number a b c d).leaves z).swis active_line (omega arith) (omega arith)))
        (numbered (in_range number 0x10) (λ e. of-kind (with_posts t) _ (λ x. refl) swis-active)
        (numbered (in_range number 0x20) (λ e. other-kind (with_semaphores t) _ (λ z. omega (arith, (within 0x20 e).0))
        (λ z. ((semaphores-quiet (wait_tables t.tasks t.lines t.semaphores) t.state s.tasks never t.state who number a b c d).leaves z).swis active_line (omega arith) (omega arith)))
        (numbered (in_range number 0x30) (λ e. other-kind (with_events t) _ (λ z. omega (arith, (within 0x30 e).0))
        (λ z. ((events-quiet (wait_tables t.tasks t.lines t.events) t.state s.tasks never t.state who number a b c d).leaves z).swis active_line (omega arith) (omega arith)))
        (numbered (in_range number 0x40) (λ e. other-kind (with_mailboxes t) _ (λ z. omega (arith, (within 0x40 e).0))
        (λ z. ((mailboxes-quiet (wait_tables t.tasks t.lines t.mailboxes) t.state s.tasks never t.state who number a b c d).leaves z).swis active_line (omega arith) (omega arith)))
        (numbered (in_range number 0x50) (λ e. other-kind (with_clocks t) _ (λ z. omega (arith, (within 0x50 e).0)) (λ z. refl))
        (numbered (in_range number 0x60) (λ e. other-kind (with_heap t) _ (λ z. omega (arith, (within 0x60 e).0)) (λ z. refl))
        (numbered (in_range number 0x70) (λ e. of-kind (with_ticked t) _ (λ x. refl) switches-active) (nothing t))))))))
