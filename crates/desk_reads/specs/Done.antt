-- What one read of a part leaves behind: where the replay is, the text in its buffer and the lent tables at exit.
use Rattle.std.specs.Prelude.{◌≡◌, ℕ, ◌+◌, Bool, true, false, List, ◌++◌, length}
use Rattle.rules.specs.Log.{argument_bytes}
use Rattle.rules.specs.Text.{line_text, line_feed}
use Rattle.rules.specs.Replay.{record_call}
use Rattle.rules.specs.declared.Read.{Read}
use Rattle.rules.specs.declared.Read.TheVariants.{Record, End, Cut, Length, Version}
use Rattle.rules.specs.declared.Step.{Step}
use Rattle.rules.specs.declared.Tables.{Tables}
use Rattle.text.specs.Put.{Put}
use Rattle.desk_parts.specs.Part.{kept, last_text}
use Rattle.desk_reads.specs.declared.PartPlace.{PartPlace}

-- where the replay of a part is: the place of the next read, how many records there were, how long the text is, and whether it has ended
abbrev pub place_at : ℕ → ℕ → ℕ → Bool → PartPlace
place_at at count len ended = record { at = at; count = count; len = len; ended = ended }

-- what one read of a part leaves: its line, the tables, the place after it, how many records there were, and whether the replay has ended
pub record ReadResult : Type 0 where
  pub text : List ℕ
  pub tables : Tables
  pub at : ℕ
  pub count : ℕ
  pub ended : Bool

-- the line of record n, and its tables
abbrev pub record_result : ℕ → Step → ℕ → ReadResult
record_result n s next =
    record { text = line_text n s.answer s.thread ++ line_feed; tables = s.tables; at = next; count = n; ended = false }

-- the last line
abbrev pub last_result : Read → List ℕ → ℕ → ℕ → Tables → ReadResult
last_result f s o n t = record { text = last_text f o n; tables = t; at = length s; count = n; ended = true }

-- by what stands in part s, which starts at offset o, after n records
unfoldable pub read_result : Read → List ℕ → ℕ → ℕ → Tables → ReadResult
read_result (Record number start) s o n t = record_result (kept (n + 1)) (record_call t number (argument_bytes s start)) (start + 16)
read_result End s o n t = last_result End s o n t
read_result (Cut k) s o n t = last_result (Cut k) s o n t
read_result (Length k) s o n t = last_result (Length k) s o n t
read_result (Version k) s o n t = last_result (Version k) s o n t

-- the read left l: tables t, and its line at a place of buffer xs, which is now ys
pub record ReadLeaves (l : ReadResult) (t : Tables) (xs : List ℕ) (len : ℕ) (ys : List ℕ) (r : PartPlace) : Type 0 where
  pub line : Put xs len l.text ys r.len
  pub tables : t ≡ l.tables
  pub at : r.at ≡ l.at
  pub count : r.count ≡ l.count
  pub ended : r.ended ≡ l.ended
