-- `put_posts` meets its contract: of a refused call nothing is told.
use borrow.Author.Tests.{ne_eqb}
use Rattle.trace_changes.specs.Changes.{posts_made}
use Rattle.trace_changes.proofs.Telling.{tells_none}
use Rattle.trace_threads.proofs.put_posts.Goals as goal

pub returns-then-answer-ne0 : goal.returns-then-answer-ne0
unfolding posts_made
returns-then-answer-ne0 c = rw (ne_eqb _ 0 c.if-answer-ne0.true) (tells_none _ _)
