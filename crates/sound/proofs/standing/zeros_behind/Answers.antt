-- `zeros_behind` meets its contract: the places that are looked at are those behind the members
use mathlib.Core.Path.{◌∙◌}
use borrow.Author.Tests.{lt-ltb}
use Rattle.rules.specs.Lines.{line_most, line_width}
use Rattle.std.proofs.Common.{rules, ◌+◌, ◌*◌, eqb, get_or}
use Rattle.sound.proofs.StandingLoops.{zeros-behind}
use Rattle.sound.proofs.standing.zeros_behind.Goals as goal

pub returns-then-j-lt-LINE_COUNT : goal.returns-then-j-lt-LINE_COUNT
returns-then-j-lt-LINE_COUNT c =
    rw (lt-ltb _ _ c.if-j-lt-LINE_COUNT.true)
    (zeros-behind line_most _ _ (c.least-n.ensures ∙ rw c.wide.ensures.0)
    (c.each_from.ensures (λ k. eqb (get_or c.args.lines.now (c.args.j * line_width + 1 + k) 0) 0) (λ k o l b p. search rules)))
