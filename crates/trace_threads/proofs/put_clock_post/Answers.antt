-- `put_clock_post` meets its contract: of a clock that runs on nothing is told.
use Rattle.trace_changes.specs.Changes.{clock_post}
use Rattle.trace_changes.proofs.Steps.{told-no}
use Rattle.trace_threads.proofs.put_clock_post.Goals as goal

pub returns : goal.returns
unfolding clock_post
returns c =
    told-no (rw c.clock-k.ensures at c.runs_out.ensures) _ c.if-runs_out.false
