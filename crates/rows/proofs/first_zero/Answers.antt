-- `first_zero` meets its contract: no row passed has a 0 there, so the first that has is found, or none has.
use Rattle.std.proofs.Common.{arith}
use Rattle.basics.proofs.Finds.{first-starts, first_goes, first-here, first-none}
use borrow.Author.Tests.{eq-eqb, ne_eqb}
use mathlib.Core.Path.{sym, ◌∙◌}
use Rattle.rows.proofs.first_zero.Goals as goal

pub loop-i-init : goal.loop-i-init
loop-i-init c = first-starts _ _

pub returns-then-word-eq0-clause-first : goal.returns-then-word-eq0-clause-first
returns-then-word-eq0-clause-first c =
    first-here _ _ _ _ (omega arith) (eq-eqb _ _ (sym c.word.ensures ∙ c.if-word-eq0.true)) c.loop-i.invariant

pub loop-i-preserved : goal.loop-i-preserved
loop-i-preserved c =
    first_goes _ _ _ _ (omega arith) (ne_eqb _ _ (λ z. c.if-word-eq0.false (c.word.ensures ∙ z))) c.loop-i.invariant

pub returns-clause-first : goal.returns-clause-first
returns-clause-first c = c.wide.ensures.0 ∙ first-none _ _ _ _ (omega arith) (omega arith) c.loop-i.invariant
