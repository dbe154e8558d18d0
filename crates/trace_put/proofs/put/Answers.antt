-- `put` meets its contract: a number told alone is its column.
use Rattle.trace_changes.proofs.Telling.{tells-one}
use Rattle.trace_put.proofs.put.Goals as goal

pub returns : goal.returns
returns c = tells-one c.args.n c.put_column.ensures
