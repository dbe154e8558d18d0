-- `is_started` meets its contract: the lengths that it compares are those of the definition.
use mathlib.Core.Path.{◌∙◌}
use native.Mathlib.Omega.{arith}
use lib.Dec.{eqb}
use Rattle.rules.specs.Lines.{active_line}
use Rattle.trace_changes.specs.Changes.{is_started}
use Rattle.rules_laws.proofs.Lines.{line-le}
use Rattle.trace_changes.proofs.Steps.{bit-most, bit-is}
use Rattle.trace_threads.proofs.is_started.Goals as goal

pub overflow_add-result : goal.overflow_add-result
overflow_add-result c =
    omega (arith, c.len-2.ensures, line-le c.args.lines.now active_line, c.from-ended.ensures ∙ bit-is _, bit-most (eqb c.args.made.asked.number 0x17))

pub returns : goal.returns
unfolding is_started
returns c =
    rw (c.len.ensures, c.len-2.ensures, c.from-ended.ensures, bit-is)
