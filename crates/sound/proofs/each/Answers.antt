-- `each` meets its contract: from 0 on is all
use mathlib.Core.Path.{◌∙◌}
use native.Mathlib.Nat.{sub-zero}
use Rattle.sound.proofs.StandingLoops.{all-from0}
use Rattle.sound.proofs.each.Goals as goal

pub returns : goal.returns
returns g c = λ f h. c.each_from.ensures f (λ k o l. h k l) ∙ rw (sub-zero, all-from0 f)
