-- `leave` meets its contract: of those passed, all but x stand again from the front on; at the end that is the line without x.
use Rattle.rules.specs.Lines.{line_most, line_width}
use Prim.Native.Nat.{◌*◌, ◌≤◌}
use Rattle.rules_laws.proofs.InPlace.{Kept}
use Rattle.lines.proofs.leave.Given as goal

abbrev pub invariant-loop-k : goal.invariant-loop-k
invariant-loop-k l = (l.n ≤ line_most) × Kept line_most l.initial.lines (l.j * line_width) l.x l.k l.m l.lines
