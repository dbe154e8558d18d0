-- `kernel::step` meets its contract: its parts one after the other, with the table that a refusal names, are `quick_step`, and on sound tables that is
-- 01's step, which keeps them sound.
use mathlib.Core.Path.{ap, ◌∙◌}
use Rattle.rules.specs.Answer.{with_answer}
use Rattle.rules.specs.declared.Answer.{Answer}
use Rattle.kernel.proofs.Steps.{quick-is}
use Rattle.kernel.proofs.Keeping.{stepped}
use Rattle.kernel.proofs.step.Goals as goal

pub returns : goal.returns
returns c =
    let e = quick-is _ c.args.asked (ap (λ (x : Answer). with_answer x c.any_call.new.t) c.answer_to-answer.ensures ∙ c.any_call.ensures.leaves) c.settle.ensures c.running-thread.ensures c.named-said.ensures in
    record { quick = e; stepped = stepped _ c.args.asked c.typed.ensures c.words.ensures e }
