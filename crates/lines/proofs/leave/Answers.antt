-- `leave` meets its contract: of those passed, all but x stand again from the front on; at the end that is the line without x.
use mathlib.Core.Path.{sym, ◌∙◌}
use native.Mathlib.Omega.{arith}
use Prim.Native.Nat.{◌<◌, ◌*◌}
use lib.ListN.{length}
use Rattle.rules.specs.Lines.{line_most, line_width}
use Rattle.rules.specs.Rows.{listed}
use Rattle.rules_laws.proofs.Listed.{listed_le}
use Rattle.rules_laws.proofs.InPlace.{kept-none, kept_read, turn-kept, turn-left}
use Rattle.lines.proofs.InLine.{listed-len, left_is, left-past}
use Rattle.lines.proofs.leave.Goals as goal
use Rattle.lines.proofs.leave.Goals.{then-y-x, else-y-x}

pub loop-k-init : goal.loop-k-init
loop-k-init c =
    let e = listed-len _ _ c.if-j-lt-LINE_COUNT.true c.len-n.ensures in
    (omega (arith, e, listed_le line_most c.args.lines.now (c.args.j * line_width)), kept-none _ _ _ _)

pub loop-k-preserved : goal.loop-k-preserved
loop-k-preserved c =
    let l = c.loop-k in
    let t : l.k < length (listed line_most c.args.lines.now (c.args.j * line_width)) =
    omega (arith, listed-len _ _ c.if-j-lt-LINE_COUNT.true c.len-n.ensures) in
    let r = kept_read _ _ _ _ _ l.invariant.1 t in (
      l.invariant.0,
      elim c.if-y-x.branch [
        | then-y-x w ↦ turn-kept _ _ _ _ _ l.invariant.1 t r w.if-y-x.true w.m-is w.wide.ensures.0 w.lines-is
        | else-y-x w ↦ turn-left _ _ _ _ _ l.invariant.1 t (sym r ∙ w.if-y-x.false) w.m-is w.lines-is
      ],
    )

pub returns-after-loop-k : goal.returns-after-loop-k
returns-after-loop-k c =
    left_is _ _ c.if-j-lt-LINE_COUNT.true _ _ c.loop-k.invariant.1 (omega (arith, listed-len _ _ c.if-j-lt-LINE_COUNT.true c.len-n.ensures))

pub returns-else-j-lt-LINE_COUNT : goal.returns-else-j-lt-LINE_COUNT
returns-else-j-lt-LINE_COUNT c = left-past _ _ _ c.if-j-lt-LINE_COUNT.false
