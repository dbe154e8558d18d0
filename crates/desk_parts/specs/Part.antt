-- The replay of one part of a log, and of a log that comes part by part.
use Rattle.std.specs.Prelude.{ℕ, zero, suc, ◌+◌, ◌-◌, ◌/◌, ◌%◌, ◌^◌, Bool, true, false, ◌&&◌, ◌||◌, cond as if, List, [], ◌∷◌, ◌++◌, leb, eqb, length, drop}
use Rattle.rules.specs.Fresh.{fresh}
use Rattle.rules.specs.Tables.{StateRow, most_levels, tables, raised_state, levels}
use Rattle.rules.specs.Log.{version_of, first_edition, second_edition, read_in, argument_bytes, record_bytes, arguments_length}
use Rattle.rules.specs.Text.{line_text, line_feed, word_text, end_word, cut_word, length_word, version_word}
use Rattle.rules.specs.Replay.{record_call}
use Rattle.rules.specs.declared.Read.{Read}
use Rattle.rules.specs.declared.Read.TheVariants.{Record, End, Cut, Length, Version}
use Rattle.rules.specs.declared.Step.{Step}
use Rattle.rules.specs.declared.Tables.{Tables}

-- record numbers and offsets are kept in 64 bits
abbrev pub kept : ℕ → ℕ
kept n = n % 2 ^ 64

-- what a part leaves: its text, the bytes that wait for those after them, their offset in the log, how many records there were, the tables, and
-- whether the replay has ended
pub record ReplayState : Type 0 where
  pub text : List ℕ
  pub rest : List ℕ
  pub offset : ℕ
  pub count : ℕ
  pub tables : Tables
  pub ended : Bool

-- a text, and then what is left by what follows it
abbrev pub text_before : List ℕ → ReplayState → ReplayState
text_before t l = record { text = t ++ l.text; rest = l.rest; offset = l.offset; count = l.count; tables = l.tables; ended = l.ended }

-- the line of record n, and its tables for what follows
abbrev pub line_before : ℕ → Step → (Tables → ReplayState) → ReplayState
line_before n s rest = text_before (line_text n s.answer s.thread ++ line_feed) (rest s.tables)

-- at place `at` of a part s that starts at offset o, after n records: the bytes there wait
abbrev pub waiting : List ℕ → ℕ → ℕ → ℕ → Tables → ReplayState
waiting s o at n t = record { text = []; rest = drop at s; offset = kept (o + at); count = n; tables = t; ended = false }

-- the last line; a record has none
unfoldable pub last_text : Read → ℕ → ℕ → List ℕ
last_text (Record number start) o n = []
last_text End o n = word_text end_word n ++ line_feed
last_text (Cut k) o n = word_text cut_word (kept (o + k)) ++ line_feed
last_text (Length k) o n = word_text length_word (kept (o + k)) ++ line_feed
last_text (Version k) o n = word_text version_word (kept (o + k)) ++ line_feed

-- the replay has ended, and nothing waits
abbrev pub over : Read → List ℕ → ℕ → ℕ → Tables → ReplayState
over f s o n t = record { text = last_text f o n; rest = []; offset = kept (o + length s); count = n; tables = t; ended = true }

-- by what stands there
abbrev pub part_for : Read → List ℕ → ℕ → ℕ → ℕ → Tables → (ℕ → ℕ → Tables → ReplayState) → ReplayState
part_for (Record number start) s o at n t rest =
    line_before (kept (n + 1)) (record_call t number (argument_bytes s start)) (rest (start + arguments_length) (kept (n + 1)))
part_for End s o at n t rest = over End s o n t
part_for (Cut k) s o at n t rest = over (Cut k) s o n t
part_for (Length k) s o at n t rest = over (Length k) s o n t
part_for (Version k) s o at n t rest = over (Version k) s o n t

-- No. 14: "The first record decides for the whole log": the version that a record must have, by the tables' levels. Before the first record `begun` has
-- set them by its version, and no call changes them. Where that is neither 1 nor 2 they are 16; the first record has another version than 1 then, and
-- is the fault.
unfoldable pub version_by : StateRow → ℕ
version_by st = if (eqb (levels st) most_levels) second_edition first_edition

-- a record needs twenty bytes; where nothing follows the part, what is there is looked at
abbrev pub readable : Bool → List ℕ → ℕ → Bool
readable last s at = last || leb record_bytes (length s - at)

-- of at most k records
unfoldable pub part_from : ℕ → Bool → List ℕ → ℕ → ℕ → ℕ → Tables → ReplayState
part_from zero last s o at n t = waiting s o at n t
part_from (suc k) last s o at n t =
    if (readable last s at) (part_for (read_in (version_by t.state) s at) s o at n t (λ next m u. part_from k last s o next m u)) (waiting s o at n t)

-- a part whole: it has no more records than this
unfoldable pub part_of : Bool → List ℕ → ℕ → ℕ → Tables → ReplayState
part_of last s o n t = part_from (suc (length s / record_bytes)) last s o 0 n t

-- No. 14: "Log version 2 .. means 32 levels": the state after n records, with bytes s to come. As long as n is 0, s is the log's beginning: if its third byte
-- is there and is 2, the tables get 32 levels. Else they stay.
unfoldable pub begun_state : ℕ → List ℕ → StateRow → List ℕ
begun_state n s st = if (eqb n 0 && eqb (version_of s) second_edition) (raised_state st) st

abbrev pub begun : ℕ → List ℕ → Tables → Tables
begun n s t =
    tables t.tasks t.lines t.semaphores t.events t.mailboxes t.swis t.clocks t.heap (begun_state n s t.state)

-- ---- part by part: the bytes that waited, and those that came
abbrev pub turn : Bool → List ℕ → ReplayState → ReplayState
turn last came l =
    let s : List ℕ = l.rest ++ came in
    part_of last s l.offset l.count (begun l.count s l.tables)

-- a replay that begins with tables t: nothing is read yet
abbrev pub begins : Tables → ReplayState
begins t = record { text = []; rest = []; offset = 0; count = 0; tables = t; ended = false }

-- "Replay starts fresh": with 16 levels, until the log's version is there
abbrev pub start : ReplayState
start = begins fresh

-- all that is written for a log that comes in these parts, until it has ended
unfoldable pub written : List (List ℕ) → ReplayState → List ℕ
written [] l = (turn true [] l).text
written (c ∷ cs) l = let m : ReplayState = turn false c l in m.text ++ if m.ended [] (written cs m)

-- what is left by reads that brought these bytes, one after the other, until it has ended; a read that brings none says that nothing follows
unfoldable pub after_reads : List (List ℕ) → ReplayState → ReplayState
after_reads [] l = l
after_reads (c ∷ cs) l = let m : ReplayState = turn (eqb (length c) 0) c l in if m.ended m (after_reads cs m)
