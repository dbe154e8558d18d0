-- the tables of a log that begins are safe
use Rattle.desk_reads.proofs.Beginning.{begun-safe}
use Rattle.trace.proofs.read_part.Goals as goal

pub invariant_of-t : goal.invariant_of-t
invariant_of-t c = rw c.begin.ensures (begun-safe _ _ c.t.inside.tables c.t.invariant)
