-- `pace_sums::as_calls` meets its contract: after k turns the words of the first k records stand one behind the other.
use Rattle.std.proofs.Common.{◌≡◌}
use lib.Seq.{sets}
use Rattle.pace_sums.specs.Pace.{call_words}
use Rattle.pace_sums.proofs.as_calls.Given as goal

abbrev pub invariant-loop-k : goal.invariant-loop-k
invariant-loop-k l = l.calls ≡ sets l.initial.calls 0 (call_words l.k l.log)
