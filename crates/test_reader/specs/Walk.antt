-- What a reader that reads a log three times finds and hands out.
use Rattle.std.specs.Prelude.{ℕ, Bool, false, ◌&&◌, List, eqb, length}
use Rattle.rules.specs.Log.{read_at, handed_out, argument, move_to}
use Rattle.rules.specs.declared.Read.{Read}
use Rattle.rules.specs.declared.Read.TheVariants.{Record, End, Cut, Length, Version}
use Rattle.test_reader.specs.declared.Arguments.{Arguments}
use Rattle.test_reader.specs.declared.Walked.{Walked}

-- where the arguments of what was found start; 0 for what is no record
abbrev pub start_of : Read → ℕ
start_of (Record number start) = start
start_of End = 0
start_of (Cut n) = 0
start_of (Length n) = 0
start_of (Version n) = 0

-- how many bytes were handed out, and the four arguments in them
abbrev pub arguments_in : List ℕ → Arguments
arguments_in bytes =
    record { len = length bytes; a = argument bytes 0; b = argument bytes 1; c = argument bytes 2; d = argument bytes 3 }

-- of a log, by its first three reads: what is handed out after the first two, and the position in the end
abbrev pub walked_by : List ℕ → Read → Read → Read → ℕ → Walked
walked_by s first second third at =
    record {
      first = first;
      one = arguments_in (handed_out s (start_of first));
      second = second;
      two = arguments_in (handed_out s (start_of second));
      third = third;
      at = at;
    }

-- each read is made where the one before it left the position
unfoldable pub walked : List ℕ → Walked
walked s =
    let first = read_at s 0 in
    let second = read_at s (move_to first 0) in
    let third = read_at s (move_to second (move_to first 0)) in
    walked_by s first second third (move_to third (move_to second (move_to first 0)))

-- ---- what the program expects
abbrev pub is_record : Read → ℕ → ℕ → Bool
is_record (Record number start) n s = eqb number n && eqb start s
is_record End n s = false
is_record (Cut k) n s = false
is_record (Length k) n s = false
is_record (Version k) n s = false

abbrev pub is_version : Read → ℕ → Bool
is_version (Record number start) n = false
is_version End n = false
is_version (Cut k) n = false
is_version (Length k) n = false
is_version (Version k) n = eqb k n

abbrev pub are_in : Arguments → ℕ → ℕ → Bool
are_in r a b = (((eqb r.len 16 && eqb r.a a) && eqb r.b b) && eqb r.c 0) && eqb r.d 0
