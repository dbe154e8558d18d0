-- A log that begins leaves sound tables: those of 16 levels are sound with 32.
use Rattle.std.proofs.Common.{ℕ, ◌&&◌, eqb, List}
use Rattle.rules.specs.Tables.{tables, raised_state}
use Rattle.rules.specs.Log.{version_of}
use Rattle.rules.specs.declared.Tables.{Tables}
use Rattle.rules_laws.proofs.Calls.{chosen}
use Rattle.demand_2_soundness.proofs.Raised.{raised-typed, raised-sound}
use Rattle.desk_parts.specs.Part.{begun_state, begun}
use Rattle.kernel.specs.Safe.{Safe}

pub begun-safe : (n : ℕ) (s : List ℕ) (t : Tables) → Safe t → Safe (begun n s t)
unfolding begun_state
begun-safe n s t safe =
    chosen
    (λ (st : List ℕ). Safe (tables t.tasks t.lines t.semaphores t.events t.mailboxes t.swis t.clocks t.heap st))
    (eqb n 0 && eqb (version_of s) 2)
    (raised_state t.state)
    t.state
    (λ _. record { typed = raised-typed t safe.typed; sound = raised-sound t safe.typed safe.sound })
    (λ _. safe)
