-- `clocks_still` meets its contract: the ticks left of the clocks passed, put together, are 0 where each is.
use Rattle.std.proofs.Common.{◌≡◌, ℕ, eqb, List}
use Rattle.rules.specs.Tables.{clock}
use Rattle.switches.specs.Still.{still}
use Rattle.switches.proofs.ticking.clocks_still.Given as goal

abbrev pub ticks : List ℕ → ℕ → ℕ
ticks cs n = (clock cs n).left

abbrev pub invariant-loop-n : goal.invariant-loop-n
invariant-loop-n l = eqb l.left 0 ≡ still l.n (ticks l.clocks)
