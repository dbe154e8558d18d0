-- One law for every call, accepted or not: who is not moved keeps its turn.
use Prim.Native.Nat.{ℕ}
use mathlib.Core.Bool.{cond as if}
use borrow.Author.Tests.{eqb-true}
use lib.Dec.{eqb}
use Rattle.rules.specs.Answer.{CallRule, code_of, Effect, answered}
use Rattle.rules.specs.Tables.{Typed}
use Rattle.rules.specs.Lines.{TaskQueues, task_queues}
use Rattle.rules.specs.Dispatch.{context, DispatchTables}
use Rattle.rules.specs.Sound.{Sound, sound}
use Rattle.rules.specs.Step.{in_range, call_of, finished, step, call}
use Rattle.rules.specs.declared.Tables.{Tables}
use Rattle.rules.specs.declared.Step.{Step}
use Rattle.rules_laws.proofs.Calls.{chosen}
use Rattle.runs.specs.Run.{next}
use Rattle.demand_3_turns.proofs.Same.{Unmoved, Arrival}
use Rattle.demand_3_turns.proofs.Steps.{in-trans, in_lines}
use Rattle.demand_3_turns.proofs.SwiLines.{Aside, aside-refl, dispatched-aside}
use Rattle.demand_3_turns.proofs.Leaves.{Left, Leaves, stay}
use Rattle.demand_3_turns.proofs.TaskCalls.{tasks-leave}
use Rattle.demand_3_turns.proofs.SemaphoreCalls.{semaphores-leave}
use Rattle.demand_3_turns.proofs.EventCalls.{events-leave}
use Rattle.demand_3_turns.proofs.MailboxCalls.{mailboxes-leave}
use Rattle.demand_3_turns.proofs.SwiCalls.{swis-leave}
use Rattle.demand_3_turns.proofs.Ticks.{switches-leave}
use Rattle.rules.specs.declared.Call.{Call}

abbrev rows : Tables → TaskQueues
rows t = task_queues t.tasks t.lines

-- dispatch leaves the lines of tasks
finished-aside : (n : ℕ) (r : Effect Tables) → Aside r.next.lines (finished n r).tables.lines
unfolding finished
finished-aside n r =
    chosen (λ (x : DispatchTables). Aside r.next.lines x.lines) (eqb r.answer.code 0) _ _
    (λ _. dispatched-aside r.next.swis r.next.lines r.next.state)
    (λ _. aside-refl r.next.lines)

finished-leaves : (n : ℕ) (t : Tables) (i : ℕ) (r : Effect Tables) → Left t i (rows r.next) → Left t i (rows (finished n r).tables)
unfolding finished
finished-leaves n t i r k =
    in-trans i (Arrival t) _ (rows r.next) _ k
    (in_lines i (Arrival t) r.next.tasks r.next.lines _ (finished-aside n r).full (λ j a. (finished-aside n r).same j a.tasks))

module _ (t : Tables) (typed : Typed t) (s : Sound t) (q : Call) (i : ℕ) (u : Unmoved t q i) where
  -- an accepted call, by its kind
  kind-leaves : Leaves t i rows (call_of t (context t.lines t.state) q.number q.a q.b q.c q.d)
  unfolding call_of
  kind-leaves =
      either 0x00 _ _ (tasks-leave t typed q i u)
      (either 0x10 _ _ (swis-leave t s q i)
      (either 0x20 _ _ (semaphores-leave t typed q i u)
      (either 0x30 _ _ (events-leave t typed q i u)
      (either 0x40 _ _ (mailboxes-leave t typed q i u)
      (either 0x50 _ _ (λ _. stay t i)
      (either 0x60 _ _ (λ _. stay t i)
      (either 0x70 _ _ (switches-leave t typed s q i u) (λ _. stay t i))))))))
    where
      either : (from : ℕ) (c d : CallRule Tables) → Leaves t i rows c → Leaves t i rows d → Leaves t i rows (if (in_range q.number from) c d)
      either from c d p r = chosen (λ (e : CallRule Tables). Leaves t i rows e) (in_range q.number from) c d (λ _. p) (λ _. r)

  answered-leaves : (c : CallRule Tables) → Leaves t i rows c → Left t i (rows (answered t c).next)
  answered-leaves c k =
      chosen (λ (r : Effect Tables). Left t i (rows r.next)) (eqb (code_of c.cases) 0) _ _
      (λ e. k (eqb-true (code_of c.cases) 0 e))
      (λ _. stay t i)

  pub call_same : Left t i (task_queues (next t q).tasks (next t q).lines)
  unfolding call step
  call_same =
      chosen (λ (x : Step). Left t i (rows x.tables)) (sound t) _ _
      (λ _. finished-leaves q.number t i _ (answered-leaves _ kind-leaves))
      (λ _. stay t i)
