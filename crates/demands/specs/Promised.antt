-- What every entry promises of a call, on any tables: the whole answer, and with it demands 1 and 2.
use Rattle.std.specs.Prelude.{◌≡◌}
use Rattle.rules.specs.Tables.{Typed}
use Rattle.rules.specs.Sound.{Sound}
use Rattle.rules.specs.declared.Tables.{Tables}
use Rattle.rules.specs.declared.Step.{Step}
use Rattle.runs.specs.Run.{made}
use Rattle.demands.specs.One.{Answered}
use Rattle.demands.specs.Two.{Kept}
use Rattle.rules.specs.Answer.{Words}
use Rattle.rules.specs.declared.Call.{Call}

-- the call q on tables t left s: the next tables, the answer and the running thread
pub record Promised (t : Tables) (q : Call) (s : Step) : Type 0 where
  pub whole : s ≡ made t q
  pub answered : Answered t q s
  pub kept : Sound t → Kept t q s
  -- what the types say, which theorems on lists have to be told: the arrays' lengths, and that arguments are words
  pub types : Sound t → Typed t × Words q
