-- Each turn of the loop makes the call in front of those that are left (`call_lists/proofs/Making`); when none is left all are made.
use native.Mathlib.Omega.{arith}
use Rattle.call_lists.proofs.Making.{one_more, list-made}
use Rattle.entries.proofs.make_calls.Goals as goal

pub loop-i-preserved : goal.loop-i-preserved
loop-i-preserved c =
    one_more _ _ _ _ _ _ c.loop-i.invariant (omega (arith, c.loop-i-test.true)) _
    c.call_at.ensures c.step-said.ensures.stepped c.put_answer.ensures

pub returns : goal.returns
returns c =
    list-made _ _ _ _ _ _ c.loop-i.invariant (omega (arith, c.loop-i-test.false))
