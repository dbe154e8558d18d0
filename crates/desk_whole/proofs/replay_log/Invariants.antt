-- `desk_whole::replay_log` meets its contract: the texts so far, and what is written for the rest of the log, are the text of the whole log; each turn takes
-- from the rest, and the one for which nothing came ends the replay.
use Prim.Native.Nat.{◌+◌}
use mathlib.Core.Bool.{not}
use lib.ListN.{length}
use Rattle.basics.specs.Lists.{bit}
use Rattle.desk_whole.proofs.Parts.{Sofar}
use Rattle.desk_whole.proofs.replay_log.Given as goal

abbrev pub invariant-loop-p : goal.invariant-loop-p
invariant-loop-p l = Sofar l.log l.initial.out l.t l.part l.text l.p l.rest l.at l.out

abbrev pub decreases-loop-p : goal.decreases-loop-p
decreases-loop-p l = length l.rest + bit (not l.p.ended)
