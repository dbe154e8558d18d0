-- A kind's calls by number: a choice of calls that keep what dispatch starts from keeps it.
use mathlib.Core.Bool.{Bool, cond as if}
use mathlib.Core.Logic.{inl}
use Rattle.rules.specs.Answer.{CallRule, unknown}
use Rattle.rules.specs.Tables.{Typed}
use Rattle.rules.specs.Sound.{Sound}
use Rattle.rules.specs.declared.Tables.{Tables}
pub use Rattle.rules_laws.proofs.Calls.{chosen}
use Rattle.demand_2_soundness.proofs.Groups.{Keeps, Settling}
use Rattle.demand_2_soundness.proofs.Codes.{unknown-refused}
use Rattle.demand_2_soundness.proofs.Standing.{sound-almost}
use Rattle.demand_2_soundness.proofs.Waiting.{sound-ranges, still-ready}

-- `Keeps` as a record: a choice among calls is then compared once, and not for each table that `put` names
pub record Kept {A : Type 0} (put : A → Tables) (c : CallRule A) : Type 0 where
  pub keeps : Keeps put c

module _ {A : Type 0} (put : A → Tables) where
  pub kept : (c : CallRule A) → Keeps put c → Kept put c
  kept c h = record { keeps = h }

  pub chosen-kept : (b : Bool) {x y : CallRule A} → Kept put x → Kept put y → Kept put (if b x y)
  chosen-kept b {x} {y} p q = chosen (λ (c : CallRule A). Kept put c) b x y (λ _. p) (λ _. q)

  pub chosen-keeps : (b : Bool) (x y : CallRule A) → Keeps put x → Keeps put y → Keeps put (if b x y)
  chosen-keeps b x y p q = chosen (λ (c : CallRule A). Keeps put c) b x y (λ _. p) (λ _. q)

  -- an unknown number is refused
  pub unknown-keeps : (x : A) → Keeps put (unknown x)
  unknown-keeps x z = absurd (unknown-refused x z)

  pub unknown-kept : (x : A) → Kept put (unknown x)
  unknown-kept x = kept (unknown x) (unknown-keeps x)

-- a call that changes nothing
pub sound-settles : (t : Tables) → Typed t → Sound t → Settling t
sound-settles t typed s = record { almost = sound-almost t typed s; ranges = sound-ranges t s; current = inl (still-ready t s) }
