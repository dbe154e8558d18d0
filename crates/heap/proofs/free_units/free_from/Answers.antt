-- `free_from` meets its contract: from the end back all units are free, to the first that is not.
use Rattle.std.proofs.Common.{◌≡◌, ◌+◌, ◌-◌, ◌∙◌, arith}
use Rattle.heap.proofs.Runs.{from_start, from-here, from_on, from-none}
use Rattle.heap.proofs.free_units.free_from.Goals as goal

pub loop-p-init : goal.loop-p-init
loop-p-init c = from_start _ _ c.min-p.ensures

pub returns-then-heap-p-ne-FREE : goal.returns-then-heap-p-ne-FREE
returns-then-heap-p-ne-FREE c =
    let back : c.loop-p.p - 1 + 1 ≡ c.loop-p.p = omega arith in
    back ∙ from-here _ _ _ _ c.loop-p.invariant c.loop-p-test.true c.if-heap-p-ne-FREE.true

pub loop-p-preserved : goal.loop-p-preserved
loop-p-preserved c =
    from_on _ _ _ _ c.loop-p.invariant c.loop-p-test.true c.if-heap-p-ne-FREE.false

pub returns : goal.returns
returns c = from-none _ _ _ _ c.loop-p.invariant c.loop-p-test.false
