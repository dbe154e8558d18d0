-- `put_started` meets its contract: where no Swi was started nothing is told.
use Rattle.trace_changes.specs.Changes.{started_swi}
use Rattle.trace_changes.proofs.Steps.{told-no}
use Rattle.trace_threads.proofs.put_started.Goals as goal

pub returns : goal.returns
unfolding started_swi
returns c = told-no c.is_started.ensures _ c.if-is_started.false
