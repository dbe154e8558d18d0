-- the numbers so far are told
use Rattle.std.proofs.Common.{ℕ, List}
use Rattle.trace_changes.specs.Numbers.{PutNumbers, TellsBelow, each_below}
use Rattle.trace_put.proofs.put_each.Given as goal

abbrev pub invariant-loop-i : goal.invariant-loop-i
invariant-loop-i g l = (tell : ℕ → List ℕ) → TellsBelow l.n (goal.F-post g l.step) tell → PutNumbers l.initial.out l.at (each_below l.i tell) l.out l.p
