-- One step of a replay: what one read of a log comes to, and the tables at exit.
use Rattle.std.specs.Prelude.{ℕ, List}
use Rattle.rules.specs.Answer.{answer, asked}
use Rattle.rules.specs.Log.{argument_bytes, argument, move_to}
use Rattle.rules.specs.Replay.{record_call}
use Rattle.rules.specs.Step.{step_of}
use Rattle.rules.specs.declared.Answer.{Answer}
use Rattle.rules.specs.declared.Call.{Call}
use Rattle.rules.specs.declared.Read.{Read}
use Rattle.rules.specs.declared.Read.TheVariants.{Record, End, Cut, Length, Version}
use Rattle.rules.specs.declared.Step.{Step}
use Rattle.rules.specs.declared.Tables.{Tables}
use Rattle.rules.specs.declared.Thread.{Thread}
use Rattle.rules.specs.declared.Thread.TheVariants.{Task}
use Rattle.desk_reads.specs.declared.Replayed.{Replayed}

-- the call of a record, by its argument bytes and its number
abbrev pub call_in : List ℕ → ℕ → Call
call_in bytes number = asked number (argument bytes 0) (argument bytes 1) (argument bytes 2) (argument bytes 3)

-- what one read comes to
abbrev pub replayed_to : Read → ℕ → Call → Answer → Thread → Replayed
replayed_to f at q r x = record { found = f; at = at; asked = q; answer = r; thread = x }

-- that, and the tables at exit, as one value
pub record ReplayStep : Type 0 where
  pub replayed : Replayed
  pub tables : Tables

abbrev pub replay_step : Replayed → Tables → ReplayStep
replay_step r t = record { replayed = r; tables = t }

-- f was found at a place, and call q left s
abbrev pub step_with : Read → ℕ → Call → Step → ReplayStep
step_with f at q s = replay_step (replayed_to f (move_to f at) q s.answer s.thread) s.tables

-- f was found, which is no record: nothing is called, and the tables stay
abbrev pub step_without : Read → ℕ → Tables → ReplayStep
step_without f at t = step_with f at (asked 0 0 0 0 0) (step_of t (answer 0 0 0) (Task 0))

-- by what stands at a place of s: "only a good record moves it", and its call is made
unfoldable pub next_step : Read → List ℕ → ℕ → Tables → ReplayStep
next_step (Record number start) s at t =
    step_with (Record number start) at (call_in (argument_bytes s start) number) (record_call t number (argument_bytes s start))
next_step End s at t = step_without End at t
next_step (Cut k) s at t = step_without (Cut k) at t
next_step (Length k) s at t = step_without (Length k) at t
next_step (Version k) s at t = step_without (Version k) at t
