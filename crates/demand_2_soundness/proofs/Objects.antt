-- What the calls of semaphores, events and mailboxes share: tests taken apart, free numbers, who waits in an object's line and is served, and the
-- tables after a change of one object.
use Prim.Native.Nat.{ℕ, ◌<◌}
use mathlib.Core.Path.{◌≡◌, refl, ◌∙◌}
use mathlib.Core.Logic.{◌≢◌, inl, inr}
use mathlib.Core.Bool.{Bool, true, false, ◌&&◌, true≢false, false≢true, and-true}
use mathlib.Core.List.{List}
use native.Mathlib.Omega.{arith}
use borrow.Author.Tests.{ne_eqb, lt-ltb, le-ltb, eqb-true, eqb-false, not-false}
use lib.Dec.{eqb}
use lib.ListN.{length, get_or}
use Rattle.basics.specs.Lists.{without}
use Rattle.basics.specs.Find.{first_below}
use Rattle.basics.specs.Rule.{Means}
use Rattle.basics.proofs.Finds.{IsFirst, first-below-is}
use Rattle.rules.specs.Answer.{T}
use Rattle.rules.specs.Tables.{Typed, tables, task_count, ready, terminated, task, current, levels}
use Rattle.rules.specs.Lines.{posted_line, event_line, mailbox_line, line, anyone, ready_line, front_of, home_by, home_of, task_home, task_queues, moved, at_back}
use Rattle.rules.specs.Waits.{outside, idle, switch_off, readied, woken}
use Rattle.rules.specs.Events.{waiter_match}
use Rattle.rules.specs.Mailboxes.{waits_first}
use Rattle.rules.specs.Dispatch.{context}
use Rattle.rules.specs.Sound.{Sound, task_rule, semaphores_rule, events_rule, mailboxes_rule}
use Rattle.rules.specs.Step.{with_queued}
use Rattle.rules.specs.declared.Tables.{Tables}
use Rattle.rules.specs.declared.Task.{Task}
use Rattle.rules_laws.proofs.Rows.{by-range}
use Rattle.demand_2_soundness.proofs.Groups.{OfTasks, Almost, others-change, Settling}
use Rattle.demand_2_soundness.proofs.Members.{bit-eq, count_at}
use Rattle.demand_2_soundness.proofs.TaskRows.{Stands, is_ready, is_at_semaphore, is_at_event, is_at_mailbox, is_nowhere, home_out, task-stands}
use Rattle.demand_2_soundness.proofs.Standing.{sound-almost}
use Rattle.demand_2_soundness.proofs.Waiting.{both, sound-ranges, still-ready, not-idle, waits-settle, woken-row, wakes-settle}
use Rattle.demand_2_soundness.proofs.Moves.{Welcome, moved-line}

-- ---- tests
pub other-fails : (a b : Bool) → (a && b) ≡ false → a ≡ true → b ≡ false
other-fails true b e h = e
other-fails false b e h = absurd (false≢true h)

-- "a limit other than 0 outside a task"
pub in-task : (x limit : ℕ) → outside x limit ≡ false → limit ≢ 0 → x ≡ T
unfolding outside
in-task x limit e n = eqb-true x T (not-false _ (rw (ne_eqb limit 0 n, and-true) at e))

-- somebody waits at an event whose waiter matches, and at a mailbox whose first one is in this mode
pub match-waits : (ts ls : List ℕ) (a bits : ℕ) → eqb (waiter_match ts ls a bits) 0 ≡ false → anyone ls (event_line a) ≡ true
unfolding waiter_match
match-waits ts ls a bits e =
    by-range 0 (length (line ls (event_line a))) (lt-ltb 0 (length (line ls (event_line a))))
    (λ h. absurd (true≢false (rw (le-ltb 0 (length (line ls (event_line a))) h) at e)))

pub first-waits : (ts ls : List ℕ) (a mode : ℕ) → waits_first ts ls a mode ≡ true → anyone ls (mailbox_line a) ≡ true
unfolding waits_first
first-waits ts ls a mode e = (both _ _ e).0

-- ---- rows
-- a free number: below the end, and not in use
pub free-is : (n : ℕ) (f : ℕ → Bool) → eqb (first_below n f) n ≡ false → (first_below n f < n) × (f (first_below n f) ≡ true)
free-is n f e =
    let r : IsFirst 0 n f (first_below n f) = first-below-is n f in
    let l : first_below n f < n = omega (arith, r.high, eqb-false (first_below n f) n e) in
    (l, r.has l)

-- ---- who waits in line j
module _ (t : Tables) (a : Almost t) (j : ℕ) (ours : OfTasks j) (k : ℕ) (h : k < length (line t.lines j)) where
  pub member-home : task_home t.tasks (get_or (line t.lines j) k 0) ≡ j
  member-home =
      let x : ℕ = get_or (line t.lines j) k 0 in
      bit-eq (task_home t.tasks x) j (omega (arith, a.standing.tasks x j ours, count_at (line t.lines j) k h))

waiter-mode : (k : Task) → Stands k → home_of k < posted_line 0 → (ready < k.mode) × (k.mode < terminated)
waiter-mode k (is_ready m l e) h = absurd (omega arith)
waiter-mode k (is_at_semaphore m l e) h = omega arith
waiter-mode k (is_at_event m l e) h = omega arith
waiter-mode k (is_at_mailbox (inl m) l e) h = omega arith
waiter-mode k (is_at_mailbox (inr m) l e) h = omega arith
waiter-mode k (is_nowhere e) h = absurd (omega arith)

-- the first of an object's line is a task that waits
module _ (t : Tables) (a : Almost t) (j : ℕ) (low : j < posted_line 0) (some : 0 < length (line t.lines j)) where
  pub first-task : front_of t.lines j < task_count
  first-task =
      by-range (front_of t.lines j) task_count (λ p. p)
      (λ p. absurd (omega (arith, member-home t a j (inl low) 0 some, home_out t.tasks (front_of t.lines j) p)))

  pub first-blocked : (ready < (task t.tasks (front_of t.lines j)).mode) × ((task t.tasks (front_of t.lines j)).mode < terminated)
  first-blocked =
      waiter-mode (task t.tasks (front_of t.lines j)) (task-stands _ t.tasks a.tasks (front_of t.lines j))
      (omega (arith, member-home t a j (inl low) 0 some))

  -- once it is served the line has lost it
  pub first-leaves : (v : ℕ)
      → line (woken (front_of t.lines j) 0 v (task_queues t.tasks t.lines)).lines j ≡ without (front_of t.lines j) (line t.lines j)
  unfolding home_by
  first-leaves v =
      let i : ℕ = front_of t.lines j in
      let k : Task = readied (task t.tasks i) 0 v in
      let row : Means (task_rule (levels t.state) i k) =
      woken-row t a i first-task first-blocked.0 first-blocked.1 0 v (omega arith) (λ e. absurd (omega arith)) in
      moved-line t a at_back i k first-task row j (inl low)
      ∙ rw (ne_eqb j (ready_line k.priority) (λ (e : j ≡ ready_line k.priority). omega arith))

-- ---- from sound tables: the first of a line is served, or a wait begins
module _ (t : Tables) (typed : Typed t) (s : Sound t) where
  pub first-wakes : (j : ℕ) → j < posted_line 0 → 0 < length (line t.lines j) → (v : ℕ)
      → Settling (with_queued t (woken (front_of t.lines j) 0 v (task_queues t.tasks t.lines)))
  first-wakes j low some v =
      let a : Almost t = sound-almost t typed s in
      let (from, to) = first-blocked t a j low some in
      wakes-settle t a (front_of t.lines j) (first-task t a j low some) from to 0 v (omega arith) (λ e. absurd (omega arith)) (sound-ranges t s)
      (still-ready t s)

  -- a wait begins, and none of its cases holds
  pub begins : (limit : ℕ) → limit ≢ 0 → outside (context t.lines t.state) limit ≡ false
      → (w : Bool) → w ≡ true → (w && idle t.state) ≡ false → (w && switch_off t.state) ≡ false
      → (k : Task) → (current t.state ≢ 0 → Means (task_rule (levels t.state) (current t.state) k)) → Welcome t (current t.state) k
      → (place : List ℕ → ℕ)
      → Settling (with_queued t (moved place (current t.state) k (task_queues t.tasks t.lines)))
  begins limit n out w now busy off k row welcome place =
      waits-settle t typed s (in-task (context t.lines t.state) limit out n) (other-fails w (switch_off t.state) off now) k
      (row (not-idle t s (other-fails w (idle t.state) busy now))) welcome place

-- ---- the objects change, and neither a task nor a line
pub objects-change : (t : Tables) → Settling t → (ss es ms : List ℕ)
    → length ss ≡ length t.semaphores → length es ≡ length t.events → length ms ≡ length t.mailboxes
    → Means (semaphores_rule ss t.lines) → Means (events_rule t.tasks es t.lines) → Means (mailboxes_rule t.tasks ms t.lines)
    → Settling (tables t.tasks t.lines ss es ms t.swis t.clocks t.heap t.state)
objects-change t s ss es ms sl el ml sr er mr =
    let a = s.almost in
    record {
      almost = others-change t a ss es ms t.clocks t.heap t.state sl el ml refl refl refl refl sr er mr a.clocks a.heap;
      ranges = s.ranges;
      current = s.current;
    }
