-- An accepted call: none of its cases holds.
use Prim.Native.Nat.{ℕ, zero, suc}
use mathlib.Core.Path.{◌≡◌, refl}
use mathlib.Core.Logic.{◌≢◌}
use mathlib.Core.Bool.{Bool, true, false, not, ◌&&◌, true≢false, and-eq-true_iff, cond as if}
use mathlib.Core.List.{List, [], ◌∷◌, map}
use native.Mathlib.Omega.{arith}
use borrow.Author.Tests.{eqb-false, ltb-true}
use lib.Dec.{eqb, ltb}
use lib.ListN.{get_or}
use Rattle.basics.specs.Lists.{all_of}
use Rattle.rules.specs.Answer.{Cases, unknown, order, first_given, code_of}

pub record Accepted (c : Cases) : Type 0 where
  pub at1 : c 1 ≡ false
  pub at2 : c 2 ≡ false
  pub at3 : c 3 ≡ false
  pub at11 : c 11 ≡ false
  pub at4 : c 4 ≡ false
  pub at5 : c 5 ≡ false
  pub at6 : c 6 ≡ false
  pub at7 : c 7 ≡ false
  pub at8 : c 8 ≡ false
  pub at9 : c 9 ≡ false

-- where no code of these is given, none of their cases holds: none is code 0
none-given : (ks : List ℕ) (c : Cases) → all_of (ltb 0) ks ≡ true → first_given ks c ≡ 0 → (i : ℕ) → get_or (map c ks) i false ≡ false
unfolding first_given all_of
none-given [] c some z i = refl
none-given (k ∷ ks) c some z i = go (c k) (none-given ks c ((and-eq-true_iff (ltb 0 k) _).0 some).1) z i
  where
    go : (b : Bool) → (first_given ks c ≡ 0 → (i : ℕ) → get_or (map c ks) i false ≡ false)
        → if b k (first_given ks c) ≡ 0 → (i : ℕ) → get_or (b ∷ map c ks) i false ≡ false
    go true later z i = absurd (omega (arith, ltb-true 0 k ((and-eq-true_iff (ltb 0 k) _).0 some).0))
    go false later z zero = refl
    go false later z (suc i) = later z i

-- by the places of the codes in their order
pub accepted-is : (c : Cases) → code_of c ≡ 0 → Accepted c
unfolding all_of
accepted-is c z =
    let no = none-given order c refl z in
    record { at1 = no 1; at2 = no 2; at3 = no 3; at11 = no 4; at4 = no 5; at5 = no 6; at6 = no 7; at7 = no 8; at8 = no 9; at9 = no 10 }

-- an object number that is neither outside its table nor of an object not in use
object-used : (u b : Bool) → (u && not b) ≡ false → (u && b) ≡ false → u ≡ false
object-used true true e f = f
object-used true false e f = e
object-used false b e f = refl

pub used-object : (u : ℕ) (b : Bool) → (eqb u 0 && not b) ≡ false → (eqb u 0 && b) ≡ false → u ≢ 0
used-object u b e f = eqb-false u 0 (object-used (eqb u 0) b e f)

-- an unknown number is refused
pub unknown-refused : {A : Type 0} (x : A) → code_of (unknown x).cases ≡ 0 → ⊥
unknown-refused x z = true≢false (accepted-is (unknown x).cases z).at1
