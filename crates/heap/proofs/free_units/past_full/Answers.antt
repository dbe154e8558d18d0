-- `past_full` meets its contract: sixteen units that are all taken hold no free one, so the first free one from behind them is the same.
use mathlib.Core.Path.{sym, ◌∙◌}
use native.Mathlib.Omega.{arith}
use Rattle.heap.proofs.Runs.{none-low, free-on16}
use Rattle.heap.proofs.free_units.past_full.Goals as goal

pub overflow_add-u : goal.overflow_add-u
overflow_add-u c = omega (arith, none-low _ _ (sym c.none_free.ensures ∙ c.loop-u-test.true))

pub loop-u-smaller : goal.loop-u-smaller
loop-u-smaller c = omega (arith, none-low _ _ (sym c.none_free.ensures ∙ c.loop-u-test.true))

pub loop-u-preserved : goal.loop-u-preserved
loop-u-preserved c = free-on16 _ _ (sym c.none_free.ensures ∙ c.loop-u-test.true) ∙ c.loop-u.invariant
