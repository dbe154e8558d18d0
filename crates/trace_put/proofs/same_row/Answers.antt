-- `same_row` meets its contract: the test of each word is that of the definition.
use Rattle.std.proofs.Common.{rules}
use borrow.Author.Tests.{tests}
use Rattle.trace_changes.specs.Changes.{same_row}
use Rattle.trace_changes.proofs.Steps.{all_over}
use Rattle.trace_put.proofs.same_row.Goals as goal

pub returns : goal.returns
unfolding same_row
returns c = all_over _ _ _ _ _ c.all.ensures.ran (λ f b q k. search (rules, tests))
