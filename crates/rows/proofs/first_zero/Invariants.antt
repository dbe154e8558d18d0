-- `first_zero` meets its contract: no row passed has a 0 there, so the first that has is found, or none has.
use Rattle.std.proofs.Common.{eqb}
use Rattle.basics.specs.Find.{first_below}
use Rattle.basics.proofs.Finds.{Passed}
use Rattle.rules.specs.Rows.{field}
use Rattle.rows.proofs.first_zero.Given as goal

abbrev pub invariant-loop-i : goal.invariant-loop-i
invariant-loop-i l =
    Passed l.n (λ i. eqb (field l.w l.n l.t i l.f) 0) (first_below l.n (λ i. eqb (field l.w l.n l.t i l.f) 0)) l.i
