-- `times` meets its contract: each turn counts one more of those in the line
use native.Mathlib.Omega.{arith}
use Rattle.rules_laws.proofs.Lines.{line-le}
use Rattle.sound.proofs.StandingLoops.{counted_none, counted-more}
use Rattle.sound.proofs.standing.times.Goals as goal

pub loop-k-init : goal.loop-k-init
loop-k-init c = (omega (arith, c.len-k-end.ensures, line-le c.args.lines.now c.args.j), counted_none _ _ c.len-k-end.ensures)

pub loop-k-preserved : goal.loop-k-preserved
loop-k-preserved c = (
  c.loop-k.invariant.0,
  counted-more _ _ c.loop-k.k c.loop-k.invariant.1 c.loop-k-test.true
      (rw (c.wide.ensures.0, c.member.ensures) at c.from-m.ensures),
)
