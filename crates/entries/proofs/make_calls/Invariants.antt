-- Each turn of the loop makes the call in front of those that are left (`call_lists/proofs/Making`); when none is left all are made.
use Rattle.call_lists.proofs.Making.{Making}
use Rattle.entries.proofs.make_calls.Given as goal

abbrev pub invariant-loop-i : goal.invariant-loop-i
invariant-loop-i l = Making l.calls l.initial.t l.initial.answers l.i l.t l.answers
