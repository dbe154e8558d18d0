-- What is handed from turn to turn, whatever is read and whether or not it can be written.
use Rattle.std.specs.Prelude.{ℕ, ◌-◌, min, ◌≡◌, ◌⊎◌, Bool, true, false, List, eqb, Option, Some, None, length, take}
use Rattle.rules.specs.Sound.{Sound}
use Rattle.rules.specs.declared.Tables.{Tables}
use Rattle.desk_parts.specs.Part.{ReplayState, turn, begins, after_reads}
use Rattle.desk.specs.declared.Progress.{Progress}

-- what a read brought: so many bytes, or nothing where it failed
abbrev pub Came : Type 0
Came = Option ℕ

abbrev pub more : Came → ℕ
more (Some k) = k
more None = 0

abbrev pub failed : Came → Bool
failed (Some k) = false
failed None = true

-- what a read brought that answered a and had room for n bytes: where it answered a number of bytes these, or as many as have room; no number is a read that failed, and brought none
abbrev pub came_by : Option ℕ → ℕ → Came
came_by (Some k) n = Some (min k n)
came_by None n = None

-- a read behind the first bytes of part ps, which is now qs: those stay, and what came is what a read's answer says, with the room behind them
pub record Behind (held : ℕ) (ps qs : List ℕ) (r : Came) : Type 0 where
  pub waits : take held qs ≡ take held ps
  pub answer : Option ℕ
  pub came : r ≡ came_by answer (length qs - held)

-- a replay that is stopped has ended, and all else is as it was
abbrev pub stopped : Progress → Progress
stopped p = record { held = p.held; offset = p.offset; count = p.count; len = p.len; ended = true }

abbrev pub stop : ReplayState → ReplayState
stop l = record { text = l.text; rest = l.rest; offset = l.offset; count = l.count; tables = l.tables; ended = true }

-- by the bytes c that a read brought a turn comes from l to m: where the read failed it stops at l; else it goes on, or stops there where its text
-- cannot be written
abbrev pub HandedIf : Bool → ReplayState → ReplayState → ReplayState → Type 0
HandedIf true l next m = m ≡ stop l
HandedIf false l next m = (m ≡ next) ⊎ (m ≡ stop next)

abbrev pub Handed : Came → List ℕ → ReplayState → ReplayState → Type 0
Handed r c l m = HandedIf (failed r) l (turn (eqb (more r) 0) c l) m

-- tables u are sound, and those that a replay that begins with tables t comes to by reads that brought some bytes, one after the other
pub record Replayed (t u : Tables) : Type 0 where
  pub came : List (List ℕ)
  pub tables : u ≡ (after_reads came (begins t)).tables
  pub sound : Sound u
