-- `next_free` meets its contract: no unit passed is free, so the first that is free is found, or none is.
use mathlib.Core.Path.{sym, ◌∙◌}
use Rattle.heap.proofs.Runs.{free-here, free_on, free-end}
use Rattle.heap.proofs.free_units.next_free.Goals as goal

pub returns-then-heap-u-eq-FREE : goal.returns-then-heap-u-eq-FREE
returns-then-heap-u-eq-FREE c =
    sym (free-here _ _ c.loop-u-test.true c.if-heap-u-eq-FREE.true) ∙ c.loop-u.invariant

pub loop-u-preserved : goal.loop-u-preserved
loop-u-preserved c =
    free_on _ _ c.loop-u-test.true c.if-heap-u-eq-FREE.false ∙ c.loop-u.invariant

pub returns : goal.returns
returns c = sym (free-end _ _ c.loop-u-test.false) ∙ c.loop-u.invariant
