-- `same_front` meets its contract: the test of each is that of the definition.
use Rattle.std.proofs.Common.{rules}
use borrow.Author.Tests.{tests}
use Rattle.trace_changes.proofs.Steps.{all_over}
use Rattle.trace_put.proofs.same_front.Goals as goal

pub returns : goal.returns
returns c = all_over c.args.n _ _ _ _ c.all.ensures.ran (λ k b q h. search (rules, tests))
