-- `place` meets its contract: those passed are of no lower priority than p, so the first who is of lower priority is found, or nobody is.
use Prim.Native.Nat.{◌+◌}
use mathlib.Core.Path.{◌≡◌}
use lib.ListN.{drop}
use Rattle.rules.specs.Lines.{line, is_lower}
use Rattle.basics.specs.Lists.{first_where}
use Rattle.moves.proofs.place.Given as goal

abbrev pub invariant-loop-k : goal.invariant-loop-k
invariant-loop-k l =
    first_where (is_lower l.tasks l.p) (line l.lines l.j) ≡ l.k + first_where (is_lower l.tasks l.p) (drop l.k (line l.lines l.j))
