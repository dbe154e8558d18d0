-- `post_effect` meets its contract: where somebody waits, the first is woken, whatever the table of semaphores is.
use mathlib.Core.Path.{sym, ◌∙◌}
use Rattle.rules.specs.Semaphores.{post_effect}
use Rattle.semaphores.proofs.posts.post_effect.Goals as goal

pub returns-then-anyone : goal.returns-then-anyone
unfolding post_effect
returns-then-anyone c = rw (sym c.anyone.ensures ∙ c.if-anyone.true) (c.wake_first.ensures _)
