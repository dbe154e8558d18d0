-- `adjacent` meets its contract: all units passed are the entry, so they are counted up to the first that is not, or to the end.
use Rattle.heap.proofs.Runs.{counted-past, counted_none, counted-more, counted-ends, counted-all}
use Rattle.std.proofs.Common.{◌≡◌, ◌∙◌, arith, rules}
use Rattle.heap.proofs.free_units.adjacent.Goals as goal

pub returns-then-u-ge-HEAP_UNITS : goal.returns-then-u-ge-HEAP_UNITS
returns-then-u-ge-HEAP_UNITS c = counted-past _ _ _ _ c.if-u-ge-HEAP_UNITS.true

pub loop-k-init : goal.loop-k-init
loop-k-init c = counted_none _ _ _ _

pub returns-then-heap-u : goal.returns-then-heap-u
returns-then-heap-u c = counted-ends _ _ _ _ _ c.loop-k.invariant (search rules) c.if-heap-u.true

pub loop-k-preserved : goal.loop-k-preserved
loop-k-preserved c = counted-more _ _ _ _ _ c.loop-k.invariant (search rules) c.if-heap-u.false

pub returns : goal.returns
returns c =
    let all : c.min-most.result ≡ c.loop-k.k = omega arith in
    all ∙ counted-all _ _ _ _ _ c.loop-k.invariant (search rules) (search rules)
