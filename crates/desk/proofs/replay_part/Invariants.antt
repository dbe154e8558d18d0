-- `desk::replay_part` meets its contract: a log that begins sets the levels and leaves safe tables; the text so far and what is still to come is all, each
-- read comes nearer to the end and keeps the tables safe; what the records of all bytes leave is what the turn's definition says, their text fits, and
-- the rest is in front.
use Rattle.std.proofs.Common.{◌+◌, ◌-◌, not, eqb, length}
use Rattle.basics.specs.Lists.{bit}
use Rattle.desk.proofs.Going.{Sofar}
use Rattle.desk.proofs.replay_part.Given as goal

abbrev pub invariant-loop-ran : goal.invariant-loop-ran
invariant-loop-ran l =
    Sofar (eqb l.more 0) l.log l.p.offset l.p.count l.initial.t l.initial.out
    l.t l.out l.ran

abbrev pub decreases-loop-ran : goal.decreases-loop-ran
decreases-loop-ran l =
    length l.log - l.ran.at + bit (not l.ran.ended)
