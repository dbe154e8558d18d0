-- `posted_below` meets its contract: the test of each clock is that of the definition.
use Rattle.std.proofs.Common.{rules}
use borrow.Author.Tests.{tests}
use Rattle.trace_changes.specs.Changes.{posted_below}
use Rattle.trace_changes.proofs.Steps.{any_over}
use Rattle.trace_threads.proofs.posted_below.Goals as goal

pub returns : goal.returns
unfolding posted_below
returns c = any_over c.args.c _ _ _ _ c.any.ensures.ran (λ n b q h. search (rules, tests))
