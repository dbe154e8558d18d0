-- `put_if_ran_out` meets its contract: a clock that runs out is told as it is now.
use Rattle.trace_changes.proofs.Steps.{told-no}
use Rattle.trace_objects.proofs.put_if_ran_out.Goals as goal

pub returns : goal.returns
returns c =
    told-no (rw c.clock.ensures at c.runs_out.ensures) _ c.if-runs_out.false
