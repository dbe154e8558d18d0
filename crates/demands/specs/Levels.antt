-- No. 14: "The number of levels, 16 or 32, becomes part of the tables, set when they are made fresh."
use Rattle.std.specs.Prelude.{ℕ, ◌≡◌, cond as if, List}
use Rattle.rules.specs.Tables.{few_levels, state, LEVELS, levels}
use Rattle.rules.specs.Fresh.{fresh_with, is_levels, made_fresh}
use Rattle.rules.specs.Log.{version_of, levels_for}
use Rattle.rules.specs.declared.Tables.{Tables}
use Rattle.runs.specs.Run.{next, after}
use Rattle.rules.specs.declared.Call.{Call}

-- no call changes it, on whatever tables
abbrev pub LevelsKept : Type 0
LevelsKept = (t : Tables) (q : Call) → state (next t q).state LEVELS ≡ state t.state LEVELS

-- so after any sequence of calls from fresh tables it is the one that they were made with, 16 where another was asked for; in a replay the one that the
-- log's version means
abbrev pub LevelsStay : Type 0
LevelsStay = (n : ℕ) (qs : List Call) → levels (after (made_fresh n).tables qs).state ≡ if (is_levels n) n few_levels

abbrev pub LevelsOfALog : Type 0
LevelsOfALog = (s : List ℕ) (qs : List Call) → levels (after (fresh_with (levels_for (version_of s))) qs).state ≡ levels_for (version_of s)
