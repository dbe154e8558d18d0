-- `put_mailbox` meets its contract: number, capacity, messages and waiters, one after the other.
use Rattle.trace_changes.specs.Changes.{mailbox_numbers}
use Rattle.trace_changes.proofs.Telling.{tells_more}
use Rattle.trace_objects.proofs.put_mailbox.Goals as goal

pub returns : goal.returns
unfolding mailbox_numbers
returns c =
    tells_more _ _ c.put-capacity.ensures
    (tells_more _ _ (rw c.mailbox.ensures at c.put-count.ensures)
    (tells_more _ _ (rw c.count.ensures at c.put-first.ensures)
    (tells_more _ _ c.put_messages-waiters.ensures c.put_waiting.ensures)))
