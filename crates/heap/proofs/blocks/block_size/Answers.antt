use native.Mathlib.Omega.{arith}
use Rattle.heap.proofs.Runs.{counted-most}
use Rattle.heap.proofs.BlockUnits.{alone, followed}
use Rattle.heap.proofs.blocks.block_size.Goals as goal

pub returns-then-u-ge-LAST_UNIT : goal.returns-then-u-ge-LAST_UNIT
returns-then-u-ge-LAST_UNIT c = alone _ _ c.if-u-ge-LAST_UNIT.true

pub overflow_add-result : goal.overflow_add-result
overflow_add-result c = omega (arith, counted-most _ _ _ _ c.adjacent.ensures)

pub returns : goal.returns
returns c = followed _ _ c.if-u-ge-LAST_UNIT.false c.adjacent.ensures
