-- A log and its version 1 twin read alike: the same faults at the same places, and records of the same call and the same argument bytes.
use Prim.Native.Nat.{ℕ, min, ◌+◌, ◌-◌, ◌*◌, ◌%◌, ◌<◌, ◌≤◌}
use mathlib.Core.Path.{◌≡◌, refl, ap}
use mathlib.Core.Logic.{◌≢◌, ⊎_elim}
use mathlib.Core.List.{List}
use native.Mathlib.Omega.{arith}
use borrow.Author.Tests.{ne_eqb}
use lib.Dec.{eqb}
use lib.ListN.{length, get_or, take, drop, length-take, length-drop}
use lib.Seq.{ext_get_or, get_or-take, get_or-drop}
use Rattle.basics.proofs.Laws.{same?}
use Rattle.rules.specs.Tables.{word_end}
use Rattle.rules.specs.Log.{version_of, read_in, read_at, argument_bytes, argument, record_bytes, arguments_length, version_byte, number_byte, first_argument}
use Rattle.log_twins.specs.Twin.{Bytes, Twins}
use Rattle.rules.specs.Answer.{asked, Words}

-- ---- an argument is a word
part-byte : (s : List ℕ) → Bytes s → (start i : ℕ) → i < arguments_length → get_or (argument_bytes s start) i 0 < 256
unfolding argument_bytes
part-byte s bytes start i h = rw (get_or-take arguments_length (drop start s) i 0 h, get_or-drop start s i 0) (bytes (start + i))

module _ (s : List ℕ) (bytes : Bytes s) (start : ℕ) where
  argument-word : (n : ℕ) → n < 4 → argument (argument_bytes s start) n < word_end
  argument-word n h =
      omega (
        arith,
        part-byte s bytes start (n * 4) (omega arith),
        part-byte s bytes start (n * 4 + 1) (omega arith),
        part-byte s bytes start (n * 4 + 2) (omega arith),
        part-byte s bytes start (n * 4 + 2 + 1) (omega arith),
      )

  -- argument n of the record
  abbrev word : ℕ → ℕ
  word n = argument (argument_bytes s start) n

  pub record-words : (number : ℕ) → Words (asked number (word 0) (word 1) (word 2) (word 3))
  record-words number =
      record {
        a = argument-word 0 (omega arith);
        b = argument-word 1 (omega arith);
        c = argument-word 2 (omega arith);
        d = argument-word 3 (omega arith);
      }

-- ---- two logs that are twins
module _ (s w : List ℕ) (twins : Twins s w) where
  -- without a first record's version they are one log
  pub short-same : length s ≤ 2 → w ≡ s
  short-same h = ext_get_or 0 w s twins.long (λ i low. twins.others i (λ e. omega (arith, twins.long)))

  -- a version is the log's own where its twin's is
  version-same : (i : ℕ) → i % record_bytes ≡ version_byte → eqb (get_or w i 0) 1 ≡ eqb (get_or s i 0) 2
  version-same i e =
      ⊎_elim
      (λ (two : get_or s i 0 ≡ 2). rw (two, (twins.versions i e).0 two))
      (λ (other : get_or s i 0 ≢ 2). rw (ne_eqb (get_or s i 0) 2 other) (ne_eqb (get_or w i 0) 1 (λ one. other ((twins.versions i e).1 one))))
      (same? (get_or s i 0) 2)

  module _ (some : 2 < length s) where
    pub version-two : version_of s ≡ 2
    version-two = twins.begins some

    pub version-one : version_of w ≡ 1
    version-one = (twins.versions version_byte refl).0 version-two

    module _ (at : ℕ) (begins : at % record_bytes ≡ 0) where
      pub read_alike : read_at w at ≡ read_at s at
      unfolding read_in
      read_alike =
          rw (
            version-two,
            version-one,
            version-same (at + version_byte) (omega arith),
            twins.long,
            twins.others at (λ e. omega arith),
            twins.others (at + 1) (λ e. omega arith),
            twins.others (at + number_byte) (λ e. omega arith),
          )

      pub arguments-same : argument_bytes w (at + first_argument) ≡ argument_bytes s (at + first_argument)
      unfolding argument_bytes
      arguments-same =
          let n = ap (λ (k : ℕ). min arguments_length (k - (at + first_argument))) twins.long in
          let ws = drop (at + first_argument) w in
          let ss = drop (at + first_argument) s in
          ext_get_or 0 (take arguments_length ws) (take arguments_length ss)
          (rw (length-take arguments_length ws, length-take arguments_length ss, length-drop (at + first_argument) w, length-drop (at + first_argument) s) n)
          (λ i h.
          let low : i < arguments_length = omega (arith, length-take arguments_length ws) in
          rw (get_or-take arguments_length ws i 0 low, get_or-take arguments_length ss i 0 low)
          (rw (get_or-drop (at + first_argument) w i 0, get_or-drop (at + first_argument) s i 0)
          (twins.others (at + first_argument + i) (λ e. omega arith))))
