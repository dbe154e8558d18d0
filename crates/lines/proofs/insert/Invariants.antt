-- `insert` meets its contract: those from the place on are shifted back one by one, each carried to the next; a full line and no line stay.
use Rattle.rules.specs.Lines.{line_most, line_width}
use Prim.Native.Nat.{◌*◌}
use Rattle.rules_laws.proofs.InPlace.{Shifted}
use Rattle.lines.proofs.insert.Given as goal

abbrev pub invariant-loop-k : goal.invariant-loop-k
invariant-loop-k l = Shifted line_most l.initial.lines (l.j * line_width) l.place l.x l.carry l.k l.lines
