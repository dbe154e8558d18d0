-- The dispatch rule on sound tables has nothing left to do. Where a call then leaves the Swis, their lines and the state as they are, no Swi is
-- due after it either: the tasks' part of the rule is all of it.
use Prim.Native.Nat.{ℕ}
use mathlib.Core.Path.{◌≡◌, refl, sym, ap, ◌∙◌}
use mathlib.Core.List.{List}
use lib.ListN.{set}
use lib.Seq.{set-get_or}
use Rattle.rules.specs.Tables.{CURRENT}
use Rattle.rules.specs.Dispatch.{swi_dispatched, task_due, task_dispatched, dispatched, dispatch_tables}
use Rattle.rules.specs.Sound.{Sound}
use Rattle.rules.specs.declared.Tables.{Tables}
use Rattle.rules_laws.proofs.Calls.{chosen}
use Rattle.demand_2_soundness.proofs.Groups.{SwisStay}
use Rattle.demand_2_soundness.proofs.Waiting.{swi-not-due, swi-due-same}

module _ (t : Tables) (s : Sound t) where
  no-task : task_dispatched t.lines t.state ≡ t.state
  unfolding task_dispatched
  no-task =
      chosen (λ (st : List ℕ). st ≡ t.state) (task_due t.lines t.state) _ _
      (λ e. ap (set t.state CURRENT) (sym (s.dispatch.1 e)) ∙ set-get_or t.state CURRENT 0)
      (λ _. refl)

  pub tasks-left : (ls : List ℕ) → SwisStay t.lines ls
      → dispatched t.swis ls t.state ≡ dispatch_tables t.swis ls (task_dispatched ls t.state)
  unfolding dispatched swi_dispatched
  tasks-left ls same = rw (swi-due-same t.swis t.lines ls t.state same ∙ swi-not-due t s)

  pub nothing_left_lem : dispatched t.swis t.lines t.state ≡ dispatch_tables t.swis t.lines t.state
  nothing_left_lem = tasks-left t.lines (λ j low high. refl) ∙ rw no-task
