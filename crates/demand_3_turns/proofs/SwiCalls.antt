-- Calls 10 to 18 leave each task its row and its place.
use Prim.Native.Nat.{ℕ}
use mathlib.Core.List.{List}
use lib.Dec.{eqb}
use Rattle.rules.specs.Lines.{TaskQueues, task_queues}
use Rattle.rules.specs.Sound.{Sound}
use Rattle.rules.specs.Swis.{SwiQueues, swi_queues, posted, triggered, top, create_effect, delete_effect, post_effect, change_effect, zero_effect, end_effect}
use Rattle.rules.specs.Swis.{taken_effect, swi_call}
use Rattle.rules.specs.Dispatch.{context}
use Rattle.rules.specs.declared.Tables.{Tables}
use Rattle.rules_laws.proofs.Calls.{chosen}
use Rattle.demand_2_soundness.proofs.SwiTables.{priority-below}
use Rattle.demand_3_turns.proofs.Same.{Arrival}
use Rattle.demand_3_turns.proofs.Steps.{in_lines}
use Rattle.demand_3_turns.proofs.SwiLines.{Aside, aside-refl, ended-aside, Posting, triggered-aside, posted-aside}
use Rattle.demand_3_turns.proofs.Leaves.{Left, Leaves, by_number, unknown-leaves, stay}
use Rattle.rules.specs.declared.Call.{Call}

-- the lines of tasks stay
pub aside-leaves : (t : Tables) (i : ℕ) (ms : List ℕ) → Aside t.lines ms → Left t i (task_queues t.tasks ms)
aside-leaves t i ms k = in_lines i (Arrival t) t.tasks t.lines ms k.full (λ j r. k.same j r.tasks)

pub posting-starts : (t : Tables) → Sound t → Posting t.lines (swi_queues t.swis t.lines)
posting-starts t s = record { low = priority-below t.swis t.lines s.swis; aside = aside-refl t.lines }

module _ (t : Tables) (s : Sound t) (q : Call) (i : ℕ) where
  abbrev tp : SwiQueues
  tp = swi_queues t.swis t.lines

  abbrev put : SwiQueues → TaskQueues
  put p = task_queues t.tasks p.lines

  set : (v : ℕ) → Posting t.lines (triggered q.a v tp)
  set v = triggered-aside t.lines tp (posting-starts t s) q.a v

  posted-leaves : (p : SwiQueues) → Posting t.lines p → Left t i (put (posted q.a p))
  posted-leaves p k = aside-leaves t i (posted q.a p).lines (posted-aside t.lines p k q.a).aside

  zero-leaves : (v : ℕ) → Left t i (put (zero_effect tp q.a v).next)
  unfolding zero_effect
  zero-leaves v =
      chosen (λ (p : SwiQueues). Left t i (put p)) (eqb v 0) _ _ (λ _. posted-leaves (triggered q.a v tp) (set v)) (λ _. stay t i)

  pub swis-leave : Leaves t i put (swi_call tp t.clocks t.state (context t.lines t.state) q.number q.a q.b q.c q.d)
  unfolding swi_call create_effect delete_effect post_effect change_effect end_effect taken_effect
  swis-leave =
      by_number t i put q.number 0x10 _ _ (λ _ _. stay t i)
      (by_number t i put q.number 0x11 _ _ (λ _ _. stay t i)
      (by_number t i put q.number 0x12 _ _ (λ _ _. posted-leaves tp (posting-starts t s))
      (by_number t i put q.number 0x13 _ _ (λ _ _. posted-leaves _ (set _))
      (by_number t i put q.number 0x14 _ _ (λ _ _. zero-leaves _)
      (by_number t i put q.number 0x15 _ _ (λ _ _. posted-leaves _ (set _))
      (by_number t i put q.number 0x16 _ _ (λ _ _. zero-leaves _)
      (by_number t i put q.number 0x17 _ _ (λ _ _. aside-leaves t i _ (ended-aside t.lines (top t.lines)))
      (by_number t i put q.number 0x18 _ _ (λ _ _. stay t i) (unknown-leaves t i put tp)))))))))
