-- Demand 2, "Log records are read by exactly its layout": what stands at a position of a log, by its bytes.
use Rattle.std.specs.Prelude.{ℕ, ◌+◌, ◌*◌, ◌<◌, ◌≤◌, ◌≡◌, ◌≢◌, ◌⊎◌, ◌↔◌, List, ◌∷◌, ◌++◌, length, drop, get_or}
use Rattle.rules.specs.Log.{version_of, read_at, argument_bytes, handed_out, argument, move_to}
use Rattle.rules.specs.declared.Read.{Read}
use Rattle.rules.specs.declared.Read.TheVariants.{Record, End, Cut, Length, Version}

-- the two bytes of the length are left, and they are 00 12
abbrev pub LengthAt : List ℕ → ℕ → Type 0
LengthAt s at = (at + 2 ≤ length s) × (get_or s at 0 ≡ 0x00) × (get_or s (at + 1) 0 ≡ 0x12)

-- "A record is 20 bytes: length 00 12, big-endian, counting what follows; version 01; call number; four arguments of four big-endian bytes."
-- No. 14: the version is the first record's, and it is 01 or 02
pub record RecordAt (s : List ℕ) (at number : ℕ) (arguments : List ℕ) : Type 0 where
  pub rest : List ℕ
  pub bytes : drop at s ≡ 0x00 ∷ 0x12 ∷ version_of s ∷ number ∷ (arguments ++ rest)
  pub version : (version_of s ≡ 0x01) ⊎ (version_of s ≡ 0x02)
  pub sixteen : length arguments ≡ 16

-- No. 14: "a record whose version differs from the first record's, or is neither 1 nor 2, is the fault `version`"
abbrev pub OtherVersion : List ℕ → ℕ → Type 0
OtherVersion s v = (v ≢ version_of s) ⊎ ((v ≢ 0x01) × (v ≢ 0x02))

-- "None left is the end, a position past the log `cut`". "Faults, first found first: exactly 1 byte left, `cut`; length not 18, `length`; fewer
-- than 18 after it, `cut`; version not 1, `version`; each with the record's byte offset from 0."; the last but one as No. 14 amends it
abbrev pub StandsAt : List ℕ → ℕ → Read → Type 0
StandsAt s at (Record number start) = (start ≡ at + 4) × RecordAt s at number (argument_bytes s start)
StandsAt s at End = length s ≡ at
StandsAt s at (Cut n) = (n ≡ at) × ((length s < at) ⊎ (length s ≡ at + 1) ⊎ (LengthAt s at × (length s < at + 20)))
StandsAt s at (Length n) = (n ≡ at) × (at + 2 ≤ length s) × (LengthAt s at → ⊥)
StandsAt s at (Version n) = (n ≡ at) × (at + 20 ≤ length s) × LengthAt s at × OtherVersion s (get_or s (at + 2) 0)

-- the demand: an answer is given exactly where it stands
abbrev pub LogLayout : Type 0
LogLayout = (s : List ℕ) (at : ℕ) (r : Read) → (read_at s at ≡ r) ↔ StandsAt s at r

-- "it hands out each record's sixteen argument bytes as that part of the log"
abbrev pub HandsOut : Type 0
HandsOut = (s : List ℕ) (at number : ℕ) (arguments : List ℕ) → RecordAt s at number arguments → handed_out s (at + 4) ≡ arguments

-- "four arguments of four big-endian bytes"
abbrev pub BigEndian : Type 0
BigEndian =
    (bytes : List ℕ) (n : ℕ)
    → argument bytes n
    ≡ get_or bytes (n * 4) 0 * 16777216 + get_or bytes (n * 4 + 1) 0 * 65536 + get_or bytes (n * 4 + 2) 0 * 256 + get_or bytes (n * 4 + 3) 0

-- "only a good record moves it": by its twenty bytes, and what is no record leaves it
abbrev pub OnlyRecordsMove : Type 0
OnlyRecordsMove =
    (s : List ℕ) (at : ℕ)
    → ((number start : ℕ) → read_at s at ≡ Record number start → move_to (read_at s at) at ≡ at + 20)
    × (((number start : ℕ) → read_at s at ≢ Record number start) → move_to (read_at s at) at ≡ at)
