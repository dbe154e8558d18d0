-- Demand 1: "Any tables, any call number and any arguments get an answer, and every public entry refuses what document 01 refuses. A refusal
-- carries its number, outcome 0 and value 0, and every table stays as it was." Amended by request No. 2: "for these two codes [3 and 11] the value is
-- no longer 0", it "names the table".
use Rattle.std.specs.Prelude.{ℕ, ◌<◌, ◌≡◌, ◌≢◌, ◌↔◌, true, false, ◌&&◌, cond as if}
use Rattle.basics.specs.Lists.{count, ahead}
use Rattle.rules.specs.Answer.{order, code_of, answer}
use Rattle.rules.specs.Dispatch.{running}
use Rattle.rules.specs.Sound.{sound}
use Rattle.rules.specs.Step.{step_of}
use Rattle.rules.specs.declared.Tables.{Tables}
use Rattle.rules.specs.declared.Step.{Step}
use Rattle.rules.specs.declared.Thread.{Thread}
use Rattle.rules.specs.declared.Thread.TheVariants.{Task}
use Rattle.runs.specs.Run.{made}
use Rattle.demand_1_refusals.specs.Refusals.{refusal, value_of, None}
use Rattle.rules.specs.declared.Call.{Call}

-- the running thread of any tables: "with code 10 the thread given is T0"
abbrev pub thread_of : Tables → Thread
thread_of t = if (sound t) (running t.lines t.state) (Task 0)

-- `refusal t q k` is the case of code k in 01's table, `value_of q k` the value that a refusal with code k has (demand_1_refusals/specs);
-- `None ks (refusal t q)` says that no case of these codes holds
pub record Answered (t : Tables) (q : Call) (s : Step) : Type 0 where
  -- the first case that holds gives its code; 0 where none does
  pub code : s.answer.code ≡ code_of (refusal t q)
  -- "a code is given exactly in its case", and no earlier one's holds
  pub exactly : (k : ℕ) → 0 < count k order → (s.answer.code ≡ k) ↔ ((refusal t q k ≡ true) × None (ahead k order) (refusal t q))
  pub accepted : (s.answer.code ≡ 0) ↔ None order (refusal t q)
  -- No. 2, of codes 3 and 11: "both never apply"
  pub apart : (refusal t q 3 && refusal t q 11) ≡ false
  -- "A refusal has outcome 0, value 0 and no change; with code 10 the thread given is T0."; No. 2: the value of these two codes names the table
  pub refused : s.answer.code ≢ 0
      → s ≡ step_of t (answer s.answer.code 0 (value_of q s.answer.code)) (thread_of t)

-- the demand: of any tables and any call
abbrev pub DemandOne : Type 0
DemandOne = (t : Tables) (q : Call) → Answered t q (made t q)
