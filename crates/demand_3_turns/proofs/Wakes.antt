-- An accepted call that wakes the first in line j, as a post at any of the three kinds does: its value is that task, who is ready afterwards and gone
-- from the line, and every other task's row stays. The effect moves one task (`demand_2_soundness/proofs/Moves`), and dispatch changes no row.
use Prim.Native.Nat.{ℕ, ◌<◌, ◌≤◌}
use mathlib.Core.Path.{◌≡◌, refl, ap, ◌∙◌}
use mathlib.Core.Logic.{◌≢◌, inl}
use mathlib.Core.Bool.{true}
use mathlib.Core.List.{List, [], ◌∷◌}
use native.Mathlib.Omega.{arith}
use lib.Dec.{eqb}
use lib.ListN.{length, get_or}
use borrow.Author.Tests.{eq-eqb, ltb-true}
use Rattle.basics.specs.Lists.{count, without}
use Rattle.basics.specs.Rule.{Means}
use Rattle.basics.proofs.Laws.{without-absent}
use Rattle.rules.specs.Answer.{done}
use Rattle.rules.specs.Tables.{Typed, task_count, task, levels}
use Rattle.rules.specs.Lines.{line, anyone, front_of, posted_line, task_queues, task_home, at_back}
use Rattle.rules.specs.Waits.{readied, woken}
use Rattle.rules.specs.Sound.{Sound, task_rule}
use Rattle.rules.specs.declared.Answer.{Answer}
use Rattle.rules.specs.declared.Tables.{Tables}
use Rattle.runs.specs.Run.{made, next}
use Rattle.demand_1_refusals.proofs.Known.{call_for}
use Rattle.demand_2_soundness.proofs.Groups.{Almost}
use Rattle.demand_2_soundness.proofs.Members.{bit_le}
use Rattle.demand_2_soundness.proofs.Moves.{moved_row, moved-rows}
use Rattle.demand_2_soundness.proofs.Objects.{member-home, first-task, first-blocked, first-leaves}
use Rattle.demand_2_soundness.proofs.Standing.{sound-almost}
use Rattle.demand_2_soundness.proofs.Waiting.{waiter-other, woken-row}
use Rattle.demand_3_turns.proofs.Made.{Accepted, tasks-after, line_after}
use Rattle.rules.specs.declared.Call.{Call}

-- the call's effect is to serve the first in line j, a line of waiters, with value v: `Waits.wakes_first`
pub record ServesFirst (t : Tables) (q : Call) (j v : ℕ) : Type 0 where
  pub waiters : j < posted_line 0
  pub some : anyone t.lines j ≡ true
  pub outcome : (call_for t q).effect.answer.outcome ≡ done
  pub value : (call_for t q).effect.answer.value ≡ front_of t.lines j
  pub tasks : (call_for t q).effect.next.tasks ≡ (woken (front_of t.lines j) done v (task_queues t.tasks t.lines)).tasks
  pub lines : (call_for t q).effect.next.lines ≡ (woken (front_of t.lines j) done v (task_queues t.tasks t.lines)).lines

-- a list whose first member stands in it only once: that member, then the list without it
first-apart : (xs : List ℕ) → 0 < length xs → count (get_or xs 0 0) xs ≤ 1 → xs ≡ get_or xs 0 0 ∷ without (get_or xs 0 0) xs
unfolding count without
first-apart [] some once = absurd (omega arith)
first-apart (x ∷ xs) some once =
    let none : count x xs ≡ 0 = omega (arith, rw (eq-eqb x x refl) at once) in
    rw (eq-eqb x x refl, without-absent x xs none)

module _ (t : Tables) (typed : Typed t) (sound : Sound t) (q : Call) (ok : Accepted t q) (j v : ℕ) (w : ServesFirst t q j v) where
  abbrev pub foremost : ℕ
  foremost = front_of t.lines j

  pub wake-done : (made t q).answer.outcome ≡ done
  wake-done = ap (λ (r : Answer). r.outcome) ok.answer ∙ w.outcome

  pub foremost-named : (made t q).answer.value ≡ foremost
  foremost-named = ap (λ (r : Answer). r.value) ok.answer ∙ w.value

  almost : Almost t
  almost = sound-almost t typed sound

  someone : 0 < length (line t.lines j)
  someone = ltb-true _ _ w.some

  foremost-in : foremost < task_count
  foremost-in = first-task t almost j w.waiters someone

  pub foremost-home : task_home t.tasks foremost ≡ j
  foremost-home = member-home t almost j (inl w.waiters) 0 someone

  pub foremost-not-0 : foremost ≢ 0
  foremost-not-0 = let (low, high) = first-blocked t almost j w.waiters someone in waiter-other t almost foremost foremost-in low high

  foremost-row : Means (task_rule (levels t.state) foremost (readied (task t.tasks foremost) done v))
  foremost-row =
      let (low, high) = first-blocked t almost j w.waiters someone in
      woken-row t almost foremost foremost-in low high done v (omega arith) (λ e. absurd (omega arith))

  pub foremost-readied : task (next t q).tasks foremost ≡ readied (task t.tasks foremost) done v
  foremost-readied =
      ap (λ (ts : List ℕ). task ts foremost) (tasks-after t q ok ∙ w.tasks)
      ∙ moved_row t almost at_back foremost (readied (task t.tasks foremost) done v) foremost-in foremost-row

  pub others-stay : (i : ℕ) → i ≢ foremost → task (next t q).tasks i ≡ task t.tasks i
  others-stay i other =
      ap (λ (ts : List ℕ). task ts i) (tasks-after t q ok ∙ w.tasks)
      ∙ moved-rows t almost at_back foremost (readied (task t.tasks foremost) done v) foremost-in foremost-row i other

  pub foremost-gone : line (next t q).lines j ≡ without foremost (line t.lines j)
  foremost-gone =
      line_after t q ok j (inl w.waiters)
      ∙ ap (λ (ls : List ℕ). line ls j) w.lines
      ∙ first-leaves t almost j w.waiters someone v

  -- the line was that task, and then those who are left
  pub foremost-first : line t.lines j ≡ foremost ∷ line (next t q).lines j
  foremost-first =
      let once : count foremost (line t.lines j) ≤ 1 =
      rw (almost.standing.tasks foremost j (inl w.waiters)) (bit_le (eqb (task_home t.tasks foremost) j)) in
      rw foremost-gone (first-apart (line t.lines j) someone once)
