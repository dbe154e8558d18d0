-- `step_in` meets its contract: a log has fewer than 2^64 bytes, so the position after a record does not go round
use Rattle.std.proofs.Common.{arith}
use Rattle.call_log.proofs.Records.{step_is}
use Rattle.call_log.proofs.reader.step_in.Goals as goal

pub returns : goal.returns
returns c =
    step_is c.args.version c.args.log.now c.args.at (omega arith) (omega arith) c.read_in-found.ensures c.move_to-next.ensures
