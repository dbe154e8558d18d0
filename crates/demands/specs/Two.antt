-- Demand 2: "From sound tables each call leaves sound tables and has exactly the effect in document 01, .., and the running thread is the one
-- its dispatch rule names." That "log records are read by exactly its layout" is in `Log`.
use Rattle.std.specs.Prelude.{◌≡◌, ◌≢◌}
use Rattle.rules.specs.Tables.{Typed}
use Rattle.rules.specs.Dispatch.{running, dispatched, dispatch_tables}
use Rattle.rules.specs.Sound.{Sound}
use Rattle.rules.specs.Step.{step}
use Rattle.rules.specs.declared.Tables.{Tables}
use Rattle.rules.specs.declared.Step.{Step}
use Rattle.runs.specs.Run.{made}
use Rattle.rules.specs.Answer.{Words}
use Rattle.rules.specs.declared.Call.{Call}

-- the call q on sound tables t left s
pub record Kept (t : Tables) (q : Call) (s : Step) : Type 0 where
  -- what the call does is the definition's step: the test of soundness may be skipped, and code 10 never comes
  pub effect : s ≡ step t q.number q.a q.b q.c q.d
  pub tested : s.answer.code ≢ 10
  -- the next tables are sound, all rules of them, and their arrays have their types' lengths
  pub typed : Typed s.tables
  pub sound : Sound s.tables
  -- the running thread is the one that the dispatch rule names on them, and dispatch has nothing left to do
  pub thread : s.thread ≡ running s.tables.lines s.tables.state
  pub nothing_left : dispatched s.tables.swis s.tables.lines s.tables.state
      ≡ dispatch_tables s.tables.swis s.tables.lines s.tables.state

-- the demand: of sound tables whose arrays have their types' lengths, and any call whose arguments are words
abbrev pub DemandTwo : Type 0
DemandTwo = (t : Tables) → Typed t → Sound t → (q : Call) → Words q → Kept t q (made t q)
