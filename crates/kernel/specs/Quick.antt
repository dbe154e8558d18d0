-- `step` on any tables: the call, and of the dispatch after it the parts that the call's number and its answer say can have something to do
-- (dispatch_after/specs/Settle). On sound tables that is 01's whole rule, and so 01's step (`kernel/proofs/Steps.quick-is-step`).
use Rattle.std.specs.Prelude.{ℕ}
use Rattle.rules.specs.Answer.{Effect, answered, named}
use Rattle.rules.specs.Dispatch.{running, context, DispatchTables}
use Rattle.rules.specs.Step.{call_of, with_dispatched, step_of}
use Rattle.dispatch_after.specs.Settle.{settled_after}
use Rattle.rules.specs.declared.Call.{Call}
use Rattle.rules.specs.declared.Tables.{Tables}
use Rattle.rules.specs.declared.Step.{Step}

unfoldable pub quick_finished : ℕ → Effect Tables → Step
quick_finished number r =
    let x : DispatchTables = settled_after number r.answer r.next.swis r.next.lines r.next.state in
    step_of (with_dispatched r.next x) (named number r.answer) (running x.lines x.state)

unfoldable pub quick_step : Tables → Call → Step
quick_step t q = quick_finished q.number (answered t (call_of t (context t.lines t.state) q.number q.a q.b q.c q.d))
