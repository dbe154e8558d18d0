-- The parts of dispatch that are done after a call on sound tables do all that the whole rule would.
use Prim.Native.Nat.{ℕ}
use mathlib.Core.Path.{◌≡◌, refl, sym, ap, subst}
use mathlib.Core.Bool.{Bool, true, false, cond as if}
use mathlib.Core.List.{List}
use borrow.Author.Tests.{eqb-true}
use lib.Dec.{eqb}
use Rattle.rules.specs.Answer.{Effect, with_answer, CallRule, code_of, refused, answered}
use Rattle.rules.specs.Lines.{task_queues}
use Rattle.rules.specs.Waits.{WaitTables, wait_tables}
use Rattle.rules.specs.Dispatch.{DispatchTables, dispatch_tables, dispatched}
use Rattle.rules.specs.Sound.{Sound}
use Rattle.rules.specs.Step.{in_range, call_of, settled}
use Rattle.rules.specs.declared.Answer.{Answer}
use Rattle.rules.specs.declared.Tables.{Tables}
use Rattle.demand_2_soundness.proofs.Groups.{SwisStay}
use Rattle.demand_2_soundness.proofs.Chosen.{chosen}
use Rattle.demand_2_soundness.proofs.Nothing.{tasks-left, nothing_left_lem}
use Rattle.demand_2_soundness.proofs.Standing.{task-0-never-waits}
use Rattle.demand_2_soundness.proofs.Quiet.{Leaves, tasks-quiet, semaphores-quiet, events-quiet, mailboxes-quiet}
use Rattle.dispatch_after.specs.Settle.{tasks_only, both_parts, left_by, parts_settled, settled_after}
use Rattle.dispatch_after.specs.declared.Parts.{Parts}

-- after an accepted call: the parts that `left` names for its outcome and value are enough
record Settles (left : ℕ → ℕ → Parts) (c : CallRule Tables) : Type 0 where
  rule : code_of c.cases ≡ 0
      → parts_settled (left c.effect.answer.outcome c.effect.answer.value) c.effect.next.swis c.effect.next.lines c.effect.next.state
      ≡ dispatched c.effect.next.swis c.effect.next.lines c.effect.next.state

ranged : (b : Bool) {p q : ℕ → ℕ → Parts} {x y : CallRule Tables} → Settles p x → Settles q y → Settles (λ o v. if b (p o v) (q o v)) (if b x y)
ranged true s r = s
ranged false s r = r

-- both parts are the rule
whole : {c : CallRule Tables} → Settles (λ o v. both_parts) c
unfolding parts_settled dispatched
whole = record { rule = λ _. refl }

module _ (t : Tables) (s : Sound t) where
  -- no Swi is due where their lines are as they were, and no task where all lines are
  of-tasks : (moves : Bool) (ls : List ℕ) → SwisStay t.lines ls → (moves ≡ false → ls ≡ t.lines)
      → parts_settled (tasks_only moves) t.swis ls t.state ≡ dispatched t.swis ls t.state
  unfolding parts_settled
  of-tasks true ls same none = sym (tasks-left t s ls same)
  of-tasks false ls same none = rw (none refl) (sym (nothing_left_lem t s))

  of-kind : {A : Type 0} {lines_of : A → List ℕ} {moves : ℕ → ℕ → Bool} {e : Effect A} → Leaves lines_of t.lines moves e
      → parts_settled (tasks_only (moves e.answer.outcome e.answer.value)) t.swis (lines_of e.next) t.state
      ≡ dispatched t.swis (lines_of e.next) t.state
  of-kind l = of-tasks _ _ l.swis l.none

  nothing : parts_settled (tasks_only false) t.swis t.lines t.state ≡ dispatched t.swis t.lines t.state
  nothing = of-tasks false t.lines (λ j low high. refl) (λ _. refl)

  module _ (x number a b c d : ℕ) where
    settles : Settles (λ o v. left_by number o v) (call_of t x number a b c d)
    unfolding call_of left_by
    settles =
        let waits : List ℕ → WaitTables = wait_tables t.tasks t.lines in
        let never = task-0-never-waits t s in
        ranged (in_range number 0x00)
        (record { rule = λ z. of-kind ((tasks-quiet (task_queues t.tasks t.lines) t.state s.tasks t.state x number a b c d).leaves z) })
        (ranged (in_range number 0x10) whole
        (ranged (in_range number 0x20)
        (record { rule = λ z. of-kind ((semaphores-quiet (waits t.semaphores) t.state s.tasks never t.state x number a b c d).leaves z) })
        (ranged (in_range number 0x30)
        (record { rule = λ z. of-kind ((events-quiet (waits t.events) t.state s.tasks never t.state x number a b c d).leaves z) })
        (ranged (in_range number 0x40)
        (record { rule = λ z. of-kind ((mailboxes-quiet (waits t.mailboxes) t.state s.tasks never t.state x number a b c d).leaves z) })
        (ranged (in_range number 0x50) (record { rule = λ _. nothing })
        (ranged (in_range number 0x60) (record { rule = λ _. nothing }) whole))))))

    -- after any call: nothing after a refusal
    abbrev Same : Effect Tables → Type 0
    Same e =
        settled_after number e.answer e.next.swis e.next.lines e.next.state
        ≡ settled e.answer.code e.next.swis e.next.lines e.next.state

    pub settles-is : {r : Answer} {u : Tables} → with_answer r u ≡ answered t (call_of t x number a b c d)
        → settled_after number r u.swis u.lines u.state ≡ settled r.code u.swis u.lines u.state
    unfolding settled_after
    settles-is q =
        let k : CallRule Tables = call_of t x number a b c d in
        let u : Tables = k.effect.next in
        subst Same (sym q)
        (chosen Same (eqb (code_of k.cases) 0) k.effect (refused (code_of k.cases) t)
        (λ e.
        ap (λ (y : DispatchTables). if (eqb k.effect.answer.code 0) y (dispatch_tables u.swis u.lines u.state))
        (settles.rule (eqb-true (code_of k.cases) 0 e)))
        (λ e. rw e))
