-- 01, 'The call log', and No. 14: what stands at a position of a log, and a record's arguments.
use Rattle.std.specs.Prelude.{ℕ, ◌+◌, ◌-◌, ◌*◌, Bool, ◌&&◌, ◌||◌, cond as if, List, [], length, get_or, take, drop, ltb, eqb}
use Rattle.rules.specs.Tables.{few_levels, most_levels}
use Rattle.rules.specs.declared.Read.{Read}
use Rattle.rules.specs.declared.Read.TheVariants.{Record, End, Cut, Length, Version}

-- two bytes, and four, big-endian
abbrev pub half_at : List ℕ → ℕ → ℕ
half_at s at = get_or s at 0 * 256 + get_or s (at + 1) 0

abbrev pub word_at : List ℕ → ℕ → ℕ
word_at s at = half_at s at * 65536 + half_at s (at + 2)

-- ---- the bytes of a record: "length 00 12, big-endian, counting what follows; version 01; call number; four arguments of four big-endian bytes"
abbrev pub length_bytes : ℕ
length_bytes = 2

abbrev pub version_byte : ℕ
version_byte = 2

abbrev pub number_byte : ℕ
number_byte = 3

abbrev pub first_argument : ℕ
first_argument = 4

abbrev pub word_bytes : ℕ
word_bytes = 4

abbrev pub arguments_length : ℕ
arguments_length = 4 * word_bytes

abbrev pub record_bytes : ℕ
record_bytes = first_argument + arguments_length

abbrev pub record_length : ℕ
record_length = record_bytes - length_bytes

-- No. 14: "The first record decides for the whole log": by its version, the third byte of the log whatever stands around it; 0 where there is none
abbrev pub version_of : List ℕ → ℕ
version_of s = get_or s version_byte 0

-- the log's editions
abbrev pub first_edition : ℕ
first_edition = 1

abbrev pub second_edition : ℕ
second_edition = 2

-- No. 14: "Log version 2 has the same layout and means 32 levels; a version 1 log replays with 16 as today."; a log of another version has no record
abbrev pub levels_for : ℕ → ℕ
levels_for v = if (eqb v second_edition) most_levels few_levels

-- No. 14: "neither 1 nor 2" is no version
abbrev pub is_version : ℕ → Bool
is_version v = eqb v first_edition || eqb v second_edition

-- "A record is 20 bytes: length 00 12, big-endian, counting what follows; version 01; call number; four arguments of four big-endian bytes."
-- "None left is the end, a position past the log `cut`". "Faults, first found first: exactly 1 byte left, `cut`; length not 18, `length`; fewer
-- than 18 after it, `cut`; version not 1, `version`; each with the record's byte offset from 0."
-- Amended by No. 14: "a record whose version differs from the first record's, or is neither 1 nor 2, is the fault `version`"; v is the first record's.
unfoldable pub read_in : ℕ → List ℕ → ℕ → Read
read_in v s at =
    if (ltb (length s) at) (Cut at)
    (if (eqb (length s) at) End
    (if (eqb (length s - at) 1) (Cut at)
    (if (eqb (half_at s at) record_length)
    (if (ltb (length s - at) record_bytes) (Cut at)
    (if (is_version v && eqb (get_or s (at + version_byte) 0) v) (Record (get_or s (at + number_byte) 0) (at + first_argument)) (Version at)))
    (Length at))))

-- what stands at a position of a whole log
abbrev pub read_at : List ℕ → ℕ → Read
read_at s at = read_in (version_of s) s at

-- "it hands out each record's sixteen argument bytes as that part of the log"
unfoldable pub argument_bytes : List ℕ → ℕ → List ℕ
argument_bytes s start = take arguments_length (drop start s)

-- what the reader hands out from `start` on: the sixteen bytes, or an empty part where they are not there
unfoldable pub handed_out : List ℕ → ℕ → List ℕ
handed_out s start = if (ltb (length s) (start + arguments_length)) [] (argument_bytes s start)

-- argument n of the four
abbrev pub argument : List ℕ → ℕ → ℕ
argument bytes n = word_at bytes (n * word_bytes)

-- "only a good record moves it"
unfoldable pub move_to : Read → ℕ → ℕ
move_to (Record number start) at = start + arguments_length
move_to End at = at
move_to (Cut n) at = at
move_to (Length n) at = at
move_to (Version n) at = at
