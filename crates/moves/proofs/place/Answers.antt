-- `place` meets its contract: those passed are of no lower priority than p, so the first who is of lower priority is found, or nobody is.
use mathlib.Core.Path.{◌≡◌, sym, ◌∙◌}
use native.Mathlib.Omega.{arith}
use Rattle.basics.proofs.Laws.{found, passed, ended}
use Rattle.moves.proofs.Steps.{lower, not_lower}
use Rattle.moves.proofs.place.Goals as goal

pub returns-then-task_word-p : goal.returns-then-task_word-p
returns-then-task_word-p c =
    let at = lower _ _ (c.wide.ensures.0 ∙ c.member-m.ensures) c.task_word.ensures c.if-task_word-p.true in
    sym (found _ _ _ c.loop-k.invariant (omega arith) at)

pub loop-k-preserved : goal.loop-k-preserved
loop-k-preserved c =
    let on = not_lower _ _ (c.wide.ensures.0 ∙ c.member-m.ensures) c.task_word.ensures c.if-task_word-p.false in
    passed _ _ _ c.loop-k.invariant (omega arith) on

pub returns : goal.returns
returns c =
    let last : c.len-n.result ≡ c.loop-k.k = omega arith in
    rw last (sym (ended _ _ _ c.loop-k.invariant (omega arith)))
