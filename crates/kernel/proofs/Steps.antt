-- A whole call: its kind's call, the parts of dispatch that can have something to do, the running thread, and the table that a refusal names; on sound
-- tables it is 01's step, since the parts that are left out would do nothing.
use mathlib.Core.Path.{◌≡◌, refl, ap, ◌∙◌}
use Rattle.rules.specs.Answer.{Effect, with_answer, answered, named}
use Rattle.rules.specs.Dispatch.{running, context, DispatchTables}
use Rattle.rules.specs.Sound.{Sound}
use Rattle.rules.specs.Step.{call_of, with_dispatched, step_of, finished, step}
use Rattle.dispatch_after.specs.Settle.{settled_after}
use Rattle.dispatch_after.proofs.Settles.{settles-is}
use Rattle.rules.specs.declared.Call.{Call}
use Rattle.rules.specs.declared.Answer.{Answer}
use Rattle.rules.specs.declared.Tables.{Tables}
use Rattle.rules.specs.declared.Thread.{Thread}
use Rattle.kernel.specs.Quick.{quick_finished, quick_step}

module _ (t : Tables) (q : Call) where
  -- ---- the parts of a call, one after the other
  pub quick-is : {r said : Answer} {u : Tables} {y : DispatchTables} {who : Thread}
      → with_answer r u ≡ answered t (call_of t (context t.lines t.state) q.number q.a q.b q.c q.d)
      → y ≡ settled_after q.number r u.swis u.lines u.state → who ≡ running y.lines y.state → said ≡ named q.number r
      → step_of (with_dispatched u y) said who ≡ quick_step t q
  unfolding quick_step quick_finished
  quick-is {r} {said} {u} {y} {who} e s w v =
      ap (λ (x : Answer). step_of (with_dispatched u y) x who) v
      ∙ ap (step_of (with_dispatched u y) (named q.number r)) w
      ∙ ap (λ (z : DispatchTables). step_of (with_dispatched u z) (named q.number r) (running z.lines z.state)) s
      ∙ ap (quick_finished q.number) e

  -- ---- on sound tables
  pub quick-is-step : Sound t → quick_step t q ≡ step t q.number q.a q.b q.c q.d
  unfolding quick_step quick_finished step finished
  quick-is-step sound =
      let r : Effect Tables = answered t (call_of t (context t.lines t.state) q.number q.a q.b q.c q.d) in
      ap (λ (z : DispatchTables). step_of (with_dispatched r.next z) (named q.number r.answer) (running z.lines z.state))
      (settles-is t sound (context t.lines t.state) q.number q.a q.b q.c q.d refl)
