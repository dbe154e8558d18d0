-- Fresh tables are safe, with whatever number of levels they are asked for.
use Prim.Native.Nat.{ℕ}
use mathlib.Core.Path.{◌≡◌}
use Rattle.rules.specs.Tables.{few_levels}
use Rattle.rules.specs.Fresh.{fresh, made_fresh}
use Rattle.rules.specs.declared.Step.{Step}
use Rattle.demands.proofs.Two.{made-fresh-safe}
use Rattle.kernel.specs.Safe.{Safe}

pub fresh-safe : (n : ℕ) {s : Step} → s ≡ made_fresh n → (s ≡ made_fresh n) × Safe s.tables
fresh-safe n e = let (typed, sound) = made-fresh-safe n in (e, rw e (record { typed = typed; sound = sound }))

-- with 16 levels they are 01's
pub few-fresh : {s : Step} → s ≡ made_fresh few_levels → s.tables ≡ fresh
unfolding made_fresh
few-fresh e = rw e
