-- One call by both entries: by value on tables t, in place on tables u. What they leave, and whether it is the same in everything.
use Rattle.std.specs.Prelude.{◌≡◌}
use Rattle.rules.specs.declared.Tables.{Tables}
use Rattle.rules.specs.declared.Step.{Step}
use Rattle.rules.specs.declared.Thread.{Thread}
use Rattle.rules.specs.declared.Call.{Call}
use Rattle.runs.specs.Run.{made}
use Rattle.demands.specs.One.{thread_of}
use Rattle.demands.specs.Promised.{Promised}
use Rattle.test_same.specs.Tells.{Tells}
use Rattle.test_calls.specs.declared.in_place.InPlace.{InPlace}
use Rattle.test_calls.specs.declared.trial.Tried.{Tried}

-- the call in place left this, and this thread runs there by `thread`
pub record Left (t : Tables) (q : Call) (r : InPlace) : Type 0 where
  pub step : Promised t q r.step
  pub running : r.running ≡ thread_of r.step.tables

-- s is what m is: in its answer and its tables, and its thread is the one of m and the one that runs, by `thread` and by `thread_of`
abbrev pub Alike : Step → Step → Thread → Type 0
Alike s m running =
    ((((s.answer ≡ m.answer) × (s.thread ≡ m.thread)) × (s.thread ≡ running)) × (s.thread ≡ thread_of s.tables)) × (s.tables ≡ m.tables)

-- both ways
pub record BothWays (t u : Tables) (q : Call) (r : Tried) : Type 0 where
  pub step : r.step ≡ made t q
  pub in_place : r.in_place ≡ made u q
  pub agrees : Tells r.agrees (made t q ≡ made u q)
