-- `put_waiting` meets its contract: how many, and then who.
use Rattle.trace_changes.specs.Changes.{waiting}
use Rattle.trace_changes.proofs.Telling.{tells_more}
use Rattle.trace_put.proofs.put_waiting.Goals as goal

pub returns : goal.returns
unfolding waiting
returns c =
    tells_more _ _ (rw c.len.ensures at c.put-p.ensures) c.put_line.ensures
