-- What three reads find one after the other, each by the reader that the one before it left.
use Prim.Native.Nat.{ℕ}
use mathlib.Core.Path.{◌≡◌}
use mathlib.Core.List.{List}
use denote.Ref.{Bor}
use Rattle.rules.specs.Log.{handed_out}
use Rattle.rules.specs.declared.Read.{Read}
use Rattle.call_log.specs.declared.reader.Reader.{Reader}
use Rattle.call_log.proofs.OneAnswer.{Begun, Found}
use Rattle.test_reader.specs.declared.Arguments.{Arguments}
use Rattle.test_reader.specs.declared.Walked.{Walked}
use Rattle.test_reader.specs.Walk.{start_of, arguments_in, walked}

-- the arguments of what was found, as the reader z hands them out: from a start n on, in these bytes
pub record Asked (z : Reader) (r : Read) (n : ℕ) (bytes : List ℕ) (a : Arguments) : Type 0 where
  pub start : n ≡ start_of r
  pub part : bytes ≡ handed_out z.log.now n
  pub words : a ≡ arguments_in bytes

pub walked-is : (log : Bor (List ℕ)) {z z₁ z₂ z₃ : Reader} {r₁ r₂ r₃ : Read} {n₁ n₂ : ℕ} {p₁ p₂ : List ℕ} {a₁ a₂ : Arguments}
    → Begun log z → Found z r₁ z₁ → Asked z₁ r₁ n₁ p₁ a₁ → Found z₁ r₂ z₂ → Asked z₂ r₂ n₂ p₂ a₂ → Found z₂ r₃ z₃
    → ◌≡◌ {A = Walked} (record { first = r₁; one = a₁; second = r₂; two = a₂; third = r₃; at = z₃.at }) (walked log.now)
unfolding walked
walked-is log b f₁ h₁ f₂ h₂ f₃ = cc
