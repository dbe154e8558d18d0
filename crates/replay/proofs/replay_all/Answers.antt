-- What is handed from turn to turn is what the reads so far leave, from fresh tables on, and the tables with it.
use Rattle.rules.specs.Fresh.{fresh}
use Rattle.entries.proofs.Starts.{few-fresh}
use Rattle.replay.proofs.Turns.{sofar-none, sofar-next, sofar-tables}
use Rattle.replay.proofs.replay_all.Goals as goal

pub loop-init : goal.loop-init
loop-init g c = sofar-none fresh _ _ (few-fresh c.fresh.ensures.value) c.begun-p.ensures

pub loop-preserved : goal.loop-preserved
loop-preserved g c =
    sofar-next fresh c.loop.invariant c.if-p.false c.read_part-read.result c.read_part-read.ensures c.turn-p.ensures

pub returns : goal.returns
returns g c = rw c.t.view_is (sofar-tables fresh c.loop.invariant (rw c.t.view_is at c.t.invariant.sound))
