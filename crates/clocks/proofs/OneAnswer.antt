-- A lent clock can be aged in one way only: its record and the answer are each one equation.
use mathlib.Core.Path.{◌≡◌}
use mathlib.Core.Bool.{Bool}
use Rattle.basics.proofs.OneAnswer.{two-answers}
use Rattle.rules.specs.Tick.{aged}
use Rattle.rules.specs.declared.Clock.{Clock}

pub age-one-answer : (k : Clock) {c d : Clock} {r s : Bool}
    → (c ≡ (aged k).clock) × (r ≡ (aged k).fired) → (d ≡ (aged k).clock) × (s ≡ (aged k).fired) → (c ≡ d) × (r ≡ s)
age-one-answer k = two-answers (aged k).clock (aged k).fired
