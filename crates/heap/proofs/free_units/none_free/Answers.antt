-- `none_free` meets its contract: after k turns it tells whether the first k units are taken, after sixteen that is the answer; past the last sixteen it is false.
use Rattle.heap.proofs.Runs.{none-past, taken_none, taken_more, taken-all}
use Rattle.heap.proofs.free_units.none_free.Goals as goal

pub returns-then-u-gt240 : goal.returns-then-u-gt240
returns-then-u-gt240 c = none-past _ _ c.if-u-gt240.true

pub loop-k-init : goal.loop-k-init
loop-k-init c = taken_none _ _ c.if-u-gt240.false

pub loop-k-preserved : goal.loop-k-preserved
loop-k-preserved c = taken_more _ _ _ c.loop-k.invariant c.loop-k-test.true

pub returns : goal.returns
returns c = taken-all _ _ _ c.loop-k.invariant c.loop-k-test.false
