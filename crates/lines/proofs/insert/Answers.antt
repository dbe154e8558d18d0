-- `insert` meets its contract: those from the place on are shifted back one by one, each carried to the next; a full line and no line stay.
use mathlib.Core.Path.{◌≡◌, refl, ◌∙◌}
use native.Mathlib.Omega.{arith}
use Rattle.rules_laws.proofs.InPlace.{shifted_none, shifted-more}
use Rattle.lines.proofs.InLine.{room-length, insert-is, full_is, entered-past}
use Rattle.lines.proofs.insert.Goals as goal

pub loop-k-init : goal.loop-k-init
loop-k-init c =
    let e = c.wide-end.ensures.0 ∙ room-length _ _ c.if-j-lt-LINE_COUNT.true refl c.if-n-lt-LINE_MOST_U8.true in
    shifted_none _ _ _ _ _ e c.least-k.ensures

pub loop-k-preserved : goal.loop-k-preserved
loop-k-preserved c =
    let e = c.wide-end.ensures.0 ∙ room-length _ _ c.if-j-lt-LINE_COUNT.true refl c.if-n-lt-LINE_MOST_U8.true in
    shifted-more _ _ _ _ _ _ c.loop-k.invariant (omega (arith, e, c.loop-k-test.true)) refl refl

pub returns-after-loop-k : goal.returns-after-loop-k
returns-after-loop-k c =
    let last : c.wide-end.result ≡ c.loop-k.k = omega (arith, c.least-k.ensures, c.loop-k-test.false) in
    rw last (insert-is _ _ c.if-j-lt-LINE_COUNT.true refl c.if-n-lt-LINE_MOST_U8.true _ _ _ _ c.loop-k.invariant (omega arith))

pub returns-else-n-lt-LINE_MOST_U8 : goal.returns-else-n-lt-LINE_MOST_U8
returns-else-n-lt-LINE_MOST_U8 c = full_is _ _ c.if-j-lt-LINE_COUNT.true refl _ _ c.if-n-lt-LINE_MOST_U8.false

pub returns-else-j-lt-LINE_COUNT : goal.returns-else-j-lt-LINE_COUNT
returns-else-j-lt-LINE_COUNT c = entered-past _ _ _ _ c.if-j-lt-LINE_COUNT.false
