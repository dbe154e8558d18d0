-- `is_named` meets its contract: no clock passed is by Swi i, so one that is by it is found, or none is.
use Rattle.swis.proofs.Steps.{not_by}
use Rattle.basics.specs.Find.{all_below}
use Rattle.std.proofs.Common.{◌≡◌, true}
use Rattle.swis.proofs.table.is_named.Given as goal

abbrev pub invariant-loop-n : goal.invariant-loop-n
invariant-loop-n l = all_below l.n (not_by l.clocks l.i) ≡ true
