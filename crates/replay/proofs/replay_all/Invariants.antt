use Rattle.rules.specs.Fresh.{fresh}
use Rattle.replay.proofs.Turns.{Sofar}
use Rattle.replay.proofs.replay_all.Given as goal

-- `replay_all` meets its contract: what is handed from turn to turn is what the reads so far leave, from fresh tables on,
-- and the tables are safe by their type.
abbrev pub invariant-loop : goal.invariant-loop
invariant-loop g l = Sofar fresh l.t l.part l.out l.p
