-- `len` meets its contract: a line's first byte is how many stand in it, and no more than may stand there; where there is no such line nobody does.
use Rattle.rules.specs.Lines.{line_most}
use mathlib.Core.Path.{◌∙◌, ap}
use Prim.Native.Nat.{ℕ, min}
use Rattle.lines.proofs.InLine.{len-in, len_out}
use Rattle.lines.proofs.len.Goals as goal

pub returns-then-j-lt-LINE_COUNT : goal.returns-then-j-lt-LINE_COUNT
returns-then-j-lt-LINE_COUNT c =
    len-in c.args.lines.now c.args.j c.if-j-lt-LINE_COUNT.true (c.least.ensures ∙ ap (λ (n : ℕ). min n line_most) c.wide.ensures.0)

pub returns : goal.returns
returns c = len_out _ _ c.if-j-lt-LINE_COUNT.false
