-- Two answers that `Put` allows are equal: the buffer and the end of the text. And two that `FrontOf` allows: the bytes and the place,
-- which with their number is what a slice is.
use Prim.Native.Nat.{ℕ}
use mathlib.Core.Path.{◌≡◌, sym, ◌∙◌}
use mathlib.Core.List.{List}
use denote.Ref.{Bor}
use Rattle.text.specs.Part.{FrontOf}
use Rattle.text.specs.Put.{PutIn}

pub put-one-answer : {size : ℕ} {xs : List ℕ} {at : ℕ} {t ys zs : List ℕ} {r q : ℕ} → PutIn size xs at t ys r → PutIn size xs at t zs q
    → (ys ≡ zs) × (r ≡ q)
put-one-answer p s = (p.bytes ∙ sym s.bytes, p.end ∙ sym s.end)

pub front-one-answer : {text : Bor (List ℕ)} {n : ℕ} {r s : Bor (List ℕ)} → FrontOf text n r → FrontOf text n s → (r.now ≡ s.now) × (r.ref_ptr ≡ s.ref_ptr)
front-one-answer p q = (p.bytes ∙ sym q.bytes, p.place ∙ sym q.place)
