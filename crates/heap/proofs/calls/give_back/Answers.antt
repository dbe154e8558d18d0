-- `give_back` meets its contract: the codes in order, then the units of the block are free again.
use mathlib.Core.Path.{refl, ◌∙◌}
use borrow.Author.Tests.{eq-eqb}
use Rattle.rules.specs.Answer.{first_given}
use Rattle.rules.specs.Heap.{give_cases}
use Rattle.heap.proofs.BlockUnits.{give-is, block-is}
use Rattle.heap.proofs.calls.give_back.Goals as goal

pub returns : goal.returns
unfolding first_given give_cases
returns c =
    let t = rw (c.is_block.ensures, c.unused.ensures) at c.if-is_block-unused.false in
    let n = c.units.ensures ∙ block-is _ _ _ _ t in
    record {
      leaves = rw (eq-eqb _ 0 c.if-x-ne-T.false, t) (give-is _ _ n c.mark.ensures c.accepted.ensures);
      tells = rw (eq-eqb _ 0 c.if-x-ne-T.false, t) refl;
    }
