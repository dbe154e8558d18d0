-- A test that tells whether something is so can answer in one way only.
use mathlib.Core.Path.{◌≡◌, refl, sym}
use mathlib.Core.Bool.{Bool, true, false}
use Rattle.test_same.specs.Tells.{Tells}

pub tells-one : (a b : Bool) {P : Type 0} → Tells a P → Tells b P → a ≡ b
tells-one true true p q = refl
tells-one true false p q = sym (q.all (p.only refl))
tells-one false true p q = p.all (q.only refl)
tells-one false false p q = refl
