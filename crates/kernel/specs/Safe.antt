-- What each call keeps of the tables.
use Rattle.std.specs.Prelude.{◌≡◌}
use Rattle.rules.specs.Tables.{Typed}
use Rattle.rules.specs.Sound.{Sound}
use Rattle.rules.specs.Step.{step}
use Rattle.rules.specs.declared.Tables.{Tables}
use Rattle.rules.specs.declared.Step.{Step}
use Rattle.rules.specs.Answer.{Words}
use Rattle.rules.specs.declared.Call.{Call}

-- the arrays have their types' lengths, and the tables are sound
pub record Safe (t : Tables) : Type 0 where
  pub typed : Typed t
  pub sound : Sound t

-- a call on sound tables t left s: it is 01's step, and the next tables are safe; and what the types say, which theorems have to be told
pub record Stepped (t : Tables) (q : Call) (s : Step) : Type 0 where
  pub is : s ≡ step t q.number q.a q.b q.c q.d
  pub safe : Safe s.tables
  pub typed : Typed t
  pub words : Words q
