-- `put_mailbox_if_changed` meets its contract: a mailbox that is the same is not told.
use Rattle.trace_changes.proofs.Steps.{told_same}
use Rattle.trace_objects.proofs.put_mailbox_if_changed.Goals as goal

pub returns-then-same_mailbox : goal.returns-then-same_mailbox
returns-then-same_mailbox c = told_same c.same_mailbox.ensures _ c.if-same_mailbox.true
