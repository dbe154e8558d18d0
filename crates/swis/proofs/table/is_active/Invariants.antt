-- `is_active` meets its contract: of those passed none is i, so one who is i is found, or nobody in the line is.
use Rattle.rules.specs.Lines.{line, active_line}
use Rattle.basics.specs.Lists.{count}
use Rattle.std.proofs.Common.{◌≡◌, take}
use Rattle.swis.proofs.table.is_active.Given as goal

abbrev pub invariant-loop-k : goal.invariant-loop-k
invariant-loop-k l = count l.i (take l.k (line l.lines active_line)) ≡ 0
