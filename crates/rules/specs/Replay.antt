-- 01, 'The call log': "Replay starts fresh and stops at a fault." No. 14: with the levels that the log's version means.
use Rattle.std.specs.Prelude.{ℕ, zero, suc, ◌+◌, ◌/◌, List, [], ◌∷◌, length}
use Rattle.rules.specs.Fresh.{fresh_with}
use Rattle.rules.specs.Step.{call}
use Rattle.rules.specs.Log.{arguments_length, record_bytes, version_of, levels_for, read_at, argument_bytes, argument}
use Rattle.rules.specs.Text.{line_text, word_text, text_of, end_word, cut_word, length_word, version_word}
use Rattle.rules.specs.declared.Tables.{Tables}
use Rattle.rules.specs.declared.Step.{Step}
use Rattle.rules.specs.declared.Read.{Read}
use Rattle.rules.specs.declared.Read.TheVariants.{Record, End, Cut, Length, Version}

-- the call of a record, by its sixteen argument bytes
abbrev pub record_call : Tables → ℕ → List ℕ → Step
record_call t number bytes = call t number (argument bytes 0) (argument bytes 1) (argument bytes 2) (argument bytes 3)

-- the line of record n, and those after it
abbrev pub line_first : ℕ → Step → (Tables → List (List ℕ)) → List (List ℕ)
line_first n s rest = line_text n s.answer s.thread ∷ rest s.tables

-- what is printed for what stands at a position, after n records; "A fault's last line is as `cut 40`. An empty log prints `end 0`."
abbrev pub lines_for : Read → List ℕ → ℕ → Tables → (ℕ → Tables → List (List ℕ)) → List (List ℕ)
lines_for (Record number start) s n t rest = line_first (suc n) (record_call t number (argument_bytes s start)) (rest (start + arguments_length))
lines_for End s n t rest = word_text end_word n ∷ []
lines_for (Cut o) s n t rest = word_text cut_word o ∷ []
lines_for (Length o) s n t rest = word_text length_word o ∷ []
lines_for (Version o) s n t rest = word_text version_word o ∷ []

-- the lines from a position on, after n records: at most k of them
unfoldable pub lines_from : ℕ → List ℕ → ℕ → ℕ → Tables → List (List ℕ)
lines_from zero s at n t = []
lines_from (suc k) s at n t = lines_for (read_at s at) s n t (λ next u. lines_from k s next (suc n) u)

-- a log of this many bytes has no more records than a twentieth of it, and one line more ends it
unfoldable pub replay_lines : List ℕ → List (List ℕ)
replay_lines s = lines_from (suc (length s / record_bytes)) s 0 0 (fresh_with (levels_for (version_of s)))

unfoldable pub replay_text : List ℕ → List ℕ
replay_text s = text_of (replay_lines s)
