-- `times` meets its contract: each turn counts one more of those in the line
use Prim.Native.Nat.{◌≤◌}
use Rattle.rules.specs.Lines.{line, line_most}
use Rattle.sound.proofs.StandingLoops.{Counted}
use Rattle.sound.proofs.standing.times.Given as goal

abbrev pub invariant-loop-k : goal.invariant-loop-k
invariant-loop-k l = (l.k-end ≤ line_most) × Counted l.x (line l.lines l.j) l.k-end l.m l.k
