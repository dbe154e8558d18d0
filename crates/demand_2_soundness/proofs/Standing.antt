-- Where each task and each posted Swi stands: from the rules of sound tables, and back to them.
use Prim.Native.Nat.{ℕ, ◌-◌, ◌<◌, ◌≤◌}
use mathlib.Core.Path.{◌≡◌, refl, sym, ◌∙◌}
use mathlib.Core.Logic.{◌⊎◌, ◌≢◌, inl, inr, ⊎_elim}
use mathlib.Core.Bool.{true, false}
use mathlib.Core.List.{List}
use native.Mathlib.Omega.{arith}
use lib.Dec.{eqb}
use lib.ListN.{length}
use borrow.Author.Tests.{eq-eqb, ne_eqb, lt-ltb, le-ltb, le-leb, lt-leb, ltb-true}
use Rattle.basics.specs.Lists.{bit, count}
use Rattle.basics.specs.Rule.{Means, ◌is◌, every}
use Rattle.basics.proofs.Laws.{same?, lt-or-le, count-first}
use Rattle.rules.specs.Tables.{Typed, task_count, swi_count, swi_width, ready, task, swi, most_levels, levels, PRIORITY, POSTED, swi_levels}
use Rattle.rules.specs.Lines.{line_count, nowhere, ready_line, posted_line, active_line, line, anyone, front_of, home_by, task_home, swi_home}
use Rattle.rules.specs.Sound.{Sound, is_posted, home_in, members_rule, once_rule, tasks_rule, swi_rule}
use Rattle.rules.specs.declared.Tables.{Tables}
use Rattle.rules_laws.proofs.Rows.{by-range, field_out}
use Rattle.demand_2_soundness.proofs.Groups.{OfTasks, NeverWaits, Standing, Almost}
use Rattle.demand_2_soundness.proofs.Members.{bit-same, bit-other, bit-eq, every-at, every-make}
use Rattle.demand_2_soundness.proofs.TaskRows.{home_out, task-stands, stands-in, ready-row}

-- ---- a line and a home for each number: whoever stands in the line has it as home, and below n each stands once at home
module _ (home : ℕ → ℕ) (ls : List ℕ) (j : ℕ) where
  pub stands-once : (n : ℕ) → j < line_count → ((x : ℕ) → n ≤ x → home x ≢ j) → Means (every (line ls j) (λ x. home x is j)) → Means (once_rule n home ls)
      → (x : ℕ) → count x (line ls j) ≡ bit (eqb (home x) j)
  stands-once n h far all once x =
      ⊎_elim
      (λ (e : home x ≡ j).
      let low : x < n = ⊎_elim (λ (l : x < n). l) (λ (l : n ≤ x). absurd (far x l e)) (lt-or-le x n) in
      let one : count x (line ls j) ≡ 1 = rw e at (once x low (rw e h)) in
      one ∙ sym (bit-same (home x) j e))
      (λ (d : home x ≢ j).
      let out : 0 < count x (line ls j) → ⊥ = λ m. d (every-at (line ls j) (λ y. home y is j) all x m) in
      let z : count x (line ls j) ≡ 0 = omega arith in
      z ∙ sym (bit-other (home x) j d))
      (same? (home x) j)

  pub stands-all : ((x : ℕ) → count x (line ls j) ≡ bit (eqb (home x) j)) → Means (every (line ls j) (λ x. home x is j))
  stands-all st = every-make (line ls j) (λ x. home x is j) (λ x h. bit-eq (home x) j (rw (st x) at h))

-- ---- the lines of tasks, and of posted Swis
pub of-tasks : (j : ℕ) → OfTasks j → (j < line_count) × (is_posted j ≡ false) × (j ≢ active_line)
of-tasks j (inl l) = (omega arith, rw (lt-leb (posted_line 0) j l), omega arith)
of-tasks j (inr (a, b)) = (b, rw (le-leb (posted_line 0) j (omega arith), le-ltb j active_line (omega arith)), omega arith)

pub posted-line-is : (p : ℕ) → p < swi_levels → is_posted (posted_line p) ≡ true
posted-line-is p l = rw (le-leb (posted_line 0) (posted_line p) (omega arith), lt-ltb (posted_line p) active_line (omega arith))

-- ---- the home of a Swi
module _ (ws : List ℕ) (x : ℕ) where
  pub home-posted : swi ws x POSTED ≡ 1 → swi_home ws x ≡ posted_line (swi ws x PRIORITY)
  unfolding swi_home
  home-posted e = rw (eq-eqb (swi ws x POSTED) 1 e)

  pub home-unposted : swi ws x POSTED ≡ 0 → swi_home ws x ≡ nowhere
  unfolding swi_home
  home-unposted e = rw (ne_eqb (swi ws x POSTED) 1 (λ d. omega arith))

  pub home-kept : (vs : List ℕ) → swi vs x POSTED ≡ swi ws x POSTED → swi vs x PRIORITY ≡ swi ws x PRIORITY → swi_home vs x ≡ swi_home ws x
  unfolding swi_home
  home-kept vs e d = rw (e, d)

-- who is no Swi is posted nowhere; who is one, at its priority or nowhere
pub swi-out : (ws : List ℕ) (x : ℕ) → swi_count ≤ x → swi_home ws x ≡ nowhere
swi-out ws x h = home-unposted ws x (field_out swi_width swi_count ws x POSTED h)

swi-stands : (ws : List ℕ) (i : ℕ) → (swi_home ws i ≡ posted_line (swi ws i PRIORITY)) ⊎ (swi_home ws i ≡ nowhere)
unfolding swi_home
swi-stands ws i =
    ⊎_elim
    (λ (e : swi ws i POSTED ≡ 1). inl (home-posted ws i e))
    (λ (n : swi ws i POSTED ≢ 1). inr (rw (ne_eqb (swi ws i POSTED) 1 n)))
    (same? (swi ws i POSTED) 1)

-- ---- from the rules
module _ (ts ws ls : List ℕ) (members : Means (members_rule ts ws ls)) where
  task-members : (j : ℕ) → OfTasks j → Means (every (line ls j) (λ x. task_home ts x is j))
  task-members j o = let (h, posted, n) = of-tasks j o in rw posted at (members j h n)

  swi-members : (p : ℕ) → p < swi_levels → Means (every (line ls (posted_line p)) (λ x. swi_home ws x is posted_line p))
  swi-members p l = rw (posted-line-is p l) at (members (posted_line p) (omega arith) (λ e. omega arith))

  sound-standing : Means (once_rule task_count (task_home ts) ls) → Means (once_rule swi_count (swi_home ws) ls) → Standing ts ws ls
  sound-standing tasks swis =
      record {
        tasks = λ x j o.
            stands-once (task_home ts) ls j task_count (of-tasks j o).0
            (λ y g e. absurd (omega (arith, home_out ts y g, (of-tasks j o).0)))
            (task-members j o) tasks x;
        swis = λ x p l.
            stands-once (swi_home ws) ls (posted_line p) swi_count (omega arith)
            (λ y g e. absurd (omega (arith, swi-out ws y g)))
            (swi-members p l) swis x;
      }

pub sound-almost : (t : Tables) → Typed t → Sound t → Almost t
sound-almost t typed s =
    record {
      typed = typed;
      heap = s.heap;
      clocks = s.clocks;
      tasks = s.tasks;
      lines = s.lines;
      standing = sound-standing t.tasks t.swis t.lines s.members s.task_once s.swi_once;
      semaphores = s.semaphores;
      events = s.events;
      mailboxes = s.mailboxes;
      swis = s.swis;
      active = s.active;
    }

-- a task's line is one of tasks, or it stands nowhere
pub home-of-tasks : (st : List ℕ) (ts : List ℕ) → Means (tasks_rule (levels st) ts) → (i : ℕ) → OfTasks (task_home ts i) ⊎ (task_home ts i ≡ nowhere)
home-of-tasks st ts rule i = stands-in (task ts i) (task-stands _ ts rule i)

-- who stands in a ready queue is ready, and a task of that priority
pub in-ready : (st : List ℕ) (ts : List ℕ) → Means (tasks_rule (levels st) ts) → (x p : ℕ) → p < most_levels → task_home ts x ≡ ready_line p
    → (x < task_count) × ((task ts x).mode ≡ ready) × ((task ts x).priority ≡ p)
in-ready st ts rule x p l e =
    let row = ready-row (task ts x) (task-stands _ ts rule x) p l e in
    (by-range x task_count (λ h. h) (λ h. absurd (omega (arith, home_out ts x h))), row.0, row.1)

-- and back
module _ (t : Tables) (a : Almost t) where
  pub members-is : Means (members_rule t.tasks t.swis t.lines)
  members-is j h n =
      ⊎_elim
      (λ (l : j < posted_line 0). of-task (inl l))
      (λ (g : posted_line 0 ≤ j).
      ⊎_elim
      (λ (l : j < active_line). let e : posted_line (j - posted_line 0) ≡ j = omega arith in rw e at (of-swi (j - posted_line 0) (omega arith)))
      (λ (l : active_line ≤ j). of-task (inr (omega arith, h)))
      (lt-or-le j active_line))
      (lt-or-le j (posted_line 0))
    where
      of-task : OfTasks j → Means (every (line t.lines j) (λ x. home_in t.tasks t.swis j x is j))
      of-task o = rw (of-tasks j o).1 (stands-all (task_home t.tasks) t.lines j (λ x. a.standing.tasks x j o))

      of-swi : (p : ℕ) → p < swi_levels → Means (every (line t.lines (posted_line p)) (λ x. home_in t.tasks t.swis (posted_line p) x is posted_line p))
      of-swi p l = rw (posted-line-is p l) (stands-all (swi_home t.swis) t.lines (posted_line p) (λ x. a.standing.swis x p l))

  pub task-once : Means (once_rule task_count (task_home t.tasks) t.lines)
  task-once i l h =
      ⊎_elim
      (λ (o : OfTasks (task_home t.tasks i)). a.standing.tasks i (task_home t.tasks i) o ∙ bit-same (task_home t.tasks i) (task_home t.tasks i) refl)
      (λ (e : task_home t.tasks i ≡ nowhere). absurd (omega arith))
      (home-of-tasks _ t.tasks a.tasks i)

  pub swi-once : Means (once_rule swi_count (swi_home t.swis) t.lines)
  unfolding swi_rule
  swi-once i l h =
      ⊎_elim
      (λ (e : swi_home t.swis i ≡ posted_line (swi t.swis i PRIORITY)).
      let (_, (_, (low, _))) = a.swis i l in
      rw e (a.standing.swis i (swi t.swis i PRIORITY) low ∙ bit-same (swi_home t.swis i) (posted_line (swi t.swis i PRIORITY)) e))
      (λ (e : swi_home t.swis i ≡ nowhere). absurd (omega arith))
      (swi-stands t.swis i)

-- No. 8: "task 0 never waits, so 0 is free for that": it is ready at priority 0, so its line is that queue, and it stands in no line of waiters
pub task-0-never-waits : (t : Tables) → Sound t → NeverWaits 0 t.lines
unfolding home_by
task-0-never-waits t s j waiters =
    let (mode, (priority, _)) = (s.tasks 0 (omega arith)).0 refl in
    let home : task_home t.tasks 0 ≡ ready_line 0 = rw (mode, priority) in
    (sound-standing t.tasks t.swis t.lines s.members s.task_once s.swi_once).tasks 0 j (inl waiters)
    ∙ bit-other (task_home t.tasks 0) j (λ e. omega (arith, home, e, waiters))

-- so whoever is first in such a line is another
pub first-not : (i : ℕ) (ls : List ℕ) → NeverWaits i ls → (j : ℕ) → j < posted_line 0 → anyone ls j ≡ true → front_of ls j ≢ i
first-not i ls never j waiters some e =
    let there : 0 < count (front_of ls j) (line ls j) = count-first (line ls j) (ltb-true 0 (length (line ls j)) some) in
    omega (arith, never j waiters, rw e at there)
