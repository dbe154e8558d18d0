-- the words so far are told
use Rattle.trace_changes.proofs.Telling.{tells_none, list_next, list_end}
use Rattle.trace_put.proofs.put_words.Goals as goal

pub loop-x-init : goal.loop-x-init
loop-x-init c = tells_none _ _

pub loop-x-preserved : goal.loop-x-preserved
loop-x-preserved c = list_next c.args.words.now c.loop-x.x-index c.loop-x-test.true c.loop-x.invariant c.put-p.ensures

pub returns : goal.returns
returns c = list_end c.args.words.now c.loop-x.x-index c.loop-x-test.false c.loop-x.invariant
