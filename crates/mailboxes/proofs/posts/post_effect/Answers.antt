-- `post_effect` meets its contract: where a reader waits first, it is woken with the word, whatever the table of mailboxes is.
use mathlib.Core.Path.{sym, ◌∙◌}
use Rattle.rules.specs.Mailboxes.{post_effect}
use Rattle.mailboxes.proofs.posts.post_effect.Goals as goal

pub returns-then-waits_first : goal.returns-then-waits_first
unfolding post_effect
returns-then-waits_first c = rw (sym c.waits_first.ensures ∙ c.if-waits_first.true) (c.wake_first.ensures _)
