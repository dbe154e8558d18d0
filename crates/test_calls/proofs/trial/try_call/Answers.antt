-- `try_call` meets its contract: both entries leave what they promise, and that is compared.
use Rattle.test_calls.proofs.Trials.{both_ways}
use Rattle.test_calls.proofs.trial.try_call.Goals as goal

pub returns : goal.returns
returns c =
    both_ways _ _ _ c.call-step.ensures c.call-left.ensures c.agrees-agrees.ensures
