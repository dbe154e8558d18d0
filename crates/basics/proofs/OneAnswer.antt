-- Two answers that one promise allows are equal: a promise is an equation with a definition, or two of them.
use mathlib.Core.Path.{◌≡◌, sym, ◌∙◌}

pub one_answer : {A : Type 0} (definition : A) {r s : A} → r ≡ definition → s ≡ definition → r ≡ s
one_answer definition p q = p ∙ sym q

-- an answer, and what is lent
pub two-answers : {A B : Type 0} (x : A) (y : B) {r s : A} {u v : B} → (r ≡ x) × (u ≡ y) → (s ≡ x) × (v ≡ y) → (r ≡ s) × (u ≡ v)
two-answers x y p q = (one_answer x p.0 q.0, one_answer y p.1 q.1)
