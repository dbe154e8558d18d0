-- What a test tells of several facts at once, and of another fact that is the same.
use mathlib.Core.Path.{◌≡◌}
use mathlib.Core.Bool.{Bool, true, ◌&&◌, and-eq-true_iff}
use Rattle.test_same.specs.Tells.{Tells}

pub said-as : {a : Bool} {P Q : Type 0} → (P → Q) → (Q → P) → Tells a P → Tells a Q
said-as f g t = record { only = λ e. f (t.only e); all = λ q. t.all (g q) }

pub both : {a b : Bool} {P Q : Type 0} → Tells a P → Tells b Q → Tells (a && b) (P × Q)
both {a} {b} p q = record {
  only = λ e. let h = (and-eq-true_iff a b).0 e in (p.only h.0, q.only h.1);
  all = λ h. (and-eq-true_iff a b).1 (p.all h.0, q.all h.1);
}
