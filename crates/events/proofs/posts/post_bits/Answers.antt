-- `post_bits` meets its contract: bits that match the waiter's masks are taken and the waiter woken, whatever the table of events is.
use Rattle.moves.proofs.Served.{is-other}
use Rattle.rules.specs.Events.{posted_bits}
use Rattle.events.proofs.posts.post_bits.Goals as goal

pub returns : goal.returns
unfolding posted_bits
returns c =
    rw (is-other 0 c.waiter_match-m.ensures c.if-m-eq0.false, ← c.waiter_match-m.ensures, ← c.set_event-2.ensures) (c.wake_first.ensures _)
