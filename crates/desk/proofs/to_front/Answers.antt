-- `to_front` meets its contract: the bytes are copied, or there are none.
use Rattle.std.proofs.Common.{◌∙◌}
use Rattle.desk.proofs.Moved.{moved_none, moved}
use Rattle.desk.proofs.to_front.Goals as goal

pub returns-then-end-at : goal.returns-then-end-at
returns-then-end-at c = moved_none c.args.part.now c.args.at c.args.n c.min-end.ensures c.if-end-at.true

pub returns : goal.returns
returns c =
    let e = moved c.args.part.now c.args.at c.args.n c.min-end.ensures c.if-end-at.false in (c.copy_within.ensures.after ∙ e.0, e.1)
