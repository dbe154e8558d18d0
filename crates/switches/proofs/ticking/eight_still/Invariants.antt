-- `eight_still` meets its contract: the ticks left of the tasks passed, put together, are 0 where each is.
use Rattle.std.proofs.Common.{◌≡◌, ℕ, ◌+◌, ◌*◌, eqb, List}
use Rattle.rules.specs.Tables.{task}
use Rattle.switches.specs.Still.{still}
use Rattle.switches.proofs.ticking.eight_still.Given as goal

abbrev pub ticks : List ℕ → ℕ → ℕ → ℕ
ticks ts g k = (task ts (g * 8 + k)).left

abbrev pub invariant-loop-k : goal.invariant-loop-k
invariant-loop-k l = eqb l.left 0 ≡ still l.k (ticks l.tasks l.g)
