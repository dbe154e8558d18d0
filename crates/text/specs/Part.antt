-- A part of a text: which bytes it has, and where it lies.
use Rattle.std.specs.Prelude.{ℕ, ◌≡◌, List, take}
use Rattle.std.specs.Borrow.{Bor}

-- r is the front of a text, its first n bytes or all: it has these bytes, and it lies where the text lies, so it is that part of it and no copy
pub record FrontOf (text : Bor (List ℕ)) (n : ℕ) (r : Bor (List ℕ)) : Type 0 where
  pub bytes : r.now ≡ take n text.now
  pub place : r.ref_ptr ≡ text.ref_ptr
