-- the numbers so far are told
use Rattle.trace_changes.proofs.Telling.{each_none, each_next, each-end}
use Rattle.trace_put.proofs.put_each.Goals as goal

pub loop-i-init : goal.loop-i-init
loop-i-init g c = λ tell h. each_none tell

pub loop-i-preserved : goal.loop-i-preserved
loop-i-preserved g c = λ tell h. each_next tell c.loop-i.i (c.loop-i.invariant tell h) (h _ _ _ _ _ c.loop-i-test.true c.step-p.ensures)

pub returns : goal.returns
returns g c = λ tell h. each-end tell c.loop-i.i (c.loop-i.invariant tell h) c.args.n c.loop-i.auto.i-end c.loop-i-test.false
