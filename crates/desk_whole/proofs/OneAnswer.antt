-- Two answers that `Printed` allows are equal: the buffer, and how many bytes were put.
use Prim.Native.Nat.{ℕ}
use mathlib.Core.Path.{◌≡◌, sym, ◌∙◌}
use mathlib.Core.List.{List}
use Rattle.desk_whole.specs.Printed.{Printed}

pub printed-one-answer : {w xs ys zs : List ℕ} {r q : ℕ} → Printed w xs ys r → Printed w xs zs q → (ys ≡ zs) × (r ≡ q)
printed-one-answer p s = (p.bytes ∙ sym s.bytes, p.count ∙ sym s.count)
