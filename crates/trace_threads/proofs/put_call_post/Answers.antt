-- `put_call_post` meets its contract: of a call that posts nothing, nothing is told.
use Rattle.trace_changes.specs.Changes.{call_post}
use Rattle.trace_changes.proofs.Steps.{told-no}
use Rattle.trace_threads.proofs.put_call_post.Goals as goal

pub returns : goal.returns
unfolding call_post
returns c = told-no c.call_posts.ensures _ c.if-call_posts.false
