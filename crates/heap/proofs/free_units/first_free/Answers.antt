-- `first_free` meets its contract: no unit passed is free; four are tried a turn, and the last few one by one.
use mathlib.Core.Path.{sym, ◌∙◌}
use Rattle.heap.proofs.Runs.{free-here, past-1, past-2, past-3, past-4}
use Rattle.std.proofs.Common.{rules}
use Rattle.heap.proofs.free_units.first_free.Goals as goal

pub returns-then-heap-u-eq-FREE : goal.returns-then-heap-u-eq-FREE
returns-then-heap-u-eq-FREE c = sym (free-here _ _ (search rules) c.if-heap-u-eq-FREE.true) ∙ c.loop-u.invariant

pub returns-then-heap-u-eq-FREE-2 : goal.returns-then-heap-u-eq-FREE-2
returns-then-heap-u-eq-FREE-2 c =
    sym (free-here _ _ (search rules) c.if-heap-u-eq-FREE-2.true) ∙ past-1 _ _ c.loop-u-test.true c.if-heap-u-eq-FREE.false ∙ c.loop-u.invariant

pub returns-then-heap-u-eq-FREE-3 : goal.returns-then-heap-u-eq-FREE-3
returns-then-heap-u-eq-FREE-3 c =
    sym (free-here _ _ (search rules) c.if-heap-u-eq-FREE-3.true)
    ∙ past-2 _ _ c.loop-u-test.true c.if-heap-u-eq-FREE.false c.if-heap-u-eq-FREE-2.false
    ∙ c.loop-u.invariant

pub returns-then-heap-u-eq-FREE-4 : goal.returns-then-heap-u-eq-FREE-4
returns-then-heap-u-eq-FREE-4 c =
    sym (free-here _ _ (search rules) c.if-heap-u-eq-FREE-4.true)
    ∙ past-3 _ _ c.loop-u-test.true c.if-heap-u-eq-FREE.false c.if-heap-u-eq-FREE-2.false c.if-heap-u-eq-FREE-3.false
    ∙ c.loop-u.invariant

pub loop-u-preserved : goal.loop-u-preserved
loop-u-preserved c =
    past-4 _ _ c.loop-u-test.true c.if-heap-u-eq-FREE.false c.if-heap-u-eq-FREE-2.false c.if-heap-u-eq-FREE-3.false c.if-heap-u-eq-FREE-4.false ∙ c.loop-u.invariant
