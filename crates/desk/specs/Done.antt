-- What the code of a replay leaves behind: the answer, the text in its buffer and the lent tables at exit.
use Rattle.std.specs.Prelude.{◌≡◌, ℕ, ◌+◌, List, length, take, drop}
use Rattle.std.proofs.lemmas.List.Edits.{sets}
use Rattle.rules.specs.declared.Tables.{Tables}
use Rattle.desk_parts.specs.Part.{kept, ReplayState}
use Rattle.desk_reads.specs.declared.PartPlace.{PartPlace}
use Rattle.desk.specs.declared.Progress.{Progress}

-- what a replay has come to where records of a part at an offset stopped, with so many bytes that wait
abbrev pub come_to : ℕ → PartPlace → ℕ → Progress
come_to o r held = record { held = held; offset = kept (o + r.at); count = r.count; len = r.len; ended = r.ended }

-- ---- what is handed from turn to turn
-- tables t, the bytes that wait in front of part ps, the text in front of buffer xs, and p, as one value
abbrev pub replay_state : Tables → List ℕ → List ℕ → Progress → ReplayState
replay_state t ps xs p =
    record { text = take p.len xs; rest = take p.held ps; offset = p.offset; count = p.count; tables = t; ended = p.ended }

-- what l says beside its tables and its bytes
abbrev pub progress_of : ReplayState → Progress
progress_of l = record { held = length l.rest; offset = l.offset; count = l.count; len = length l.text; ended = l.ended }

-- the bytes that came: so many of part ps behind those that waited
abbrev pub behind : List ℕ → Progress → ℕ → List ℕ
behind ps p more = take more (drop p.held ps)

-- a turn left l: tables t, the bytes that wait in front of part ps, which is now qs, the text in front of buffer xs, which is now ys; every
-- other byte is as it was, and what the next turn is handed is l
pub record TurnLeaves (l : ReplayState) (t : Tables) (ps qs xs ys : List ℕ) (r : Progress) : Type 0 where
  pub tables : t ≡ l.tables
  pub part : qs ≡ sets ps 0 l.rest
  pub text : ys ≡ sets xs 0 l.text
  pub progress : r ≡ progress_of l
  pub left : replay_state t qs ys r ≡ l
