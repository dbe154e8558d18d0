-- A text written into a buffer.
use Rattle.std.specs.Prelude.{ℕ, ◌+◌, ◌-◌, ◌≡◌, List, length, take}
use Rattle.std.proofs.lemmas.List.Edits.{sets}

-- what fits of a text from a place on, in a buffer of so many bytes; what would stand past the buffer's end is left off
unfoldable pub fitting : ℕ → ℕ → List ℕ → List ℕ
fitting size at t = take (size - at) t

-- the text at a place of buffer xs gives buffer ys, and it ends at r: every other byte is as it was
pub record PutIn (size : ℕ) (xs : List ℕ) (at : ℕ) (t : List ℕ) (ys : List ℕ) (r : ℕ) : Type 0 where
  pub bytes : ys ≡ sets xs at (fitting size at t)
  pub end : r ≡ at + length (fitting size at t)

-- the buffer of a text has 16,384 bytes
abbrev pub Put : List ℕ → ℕ → List ℕ → List ℕ → ℕ → Type 0
Put xs at t ys r = PutIn 16384 xs at t ys r
