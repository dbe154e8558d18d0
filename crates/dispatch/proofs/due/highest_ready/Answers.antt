-- `highest_ready` meets its contract: with 32 levels the highest of the upper sixteen, or, where nobody is ready there, of the lower ones
use native.Mathlib.Omega.{arith}
use Rattle.dispatch.proofs.Halves.{of-few, of-upper, of-lower}
use Rattle.dispatch.proofs.due.highest_ready.Goals as goal

pub returns-then-state-ne-MOST_LEVELS : goal.returns-then-state-ne-MOST_LEVELS
returns-then-state-ne-MOST_LEVELS c =
    (of-few c.args.state.now c.args.lines.now c.if-state-ne-MOST_LEVELS.true c.highest_from.ensures.0, omega (arith, c.highest_from.ensures.1))

pub returns-then-upper-ne0 : goal.returns-then-upper-ne0
returns-then-upper-ne0 c =
    (of-upper c.args.state.now c.args.lines.now c.if-state-ne-MOST_LEVELS.false c.highest_from-upper.ensures.0 c.if-upper-ne0.true, omega (arith, c.highest_from-upper.ensures.1))

pub returns : goal.returns
returns c = (
  of-lower c.args.state.now c.args.lines.now c.if-state-ne-MOST_LEVELS.false c.highest_from-upper.ensures.0 c.if-upper-ne0.false c.highest_from-2.ensures.0,
  omega (arith, c.highest_from-2.ensures.1),
)
