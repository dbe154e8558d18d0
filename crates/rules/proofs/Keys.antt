-- No. 10: "or for key bits not named": by what is named, the keys that pass, of all numbers there are. By arithmetic: what the
-- key shares with the name is its last binary digit, the one before it, or both.
use Prim.Native.Nat.{ℕ, ◌*◌, ◌/◌, ◌%◌, ◌≤◌, ◌<◌}
use mathlib.Core.Path.{◌≡◌, refl, ap, ap₂, sym, ◌∙◌}
use mathlib.Core.Bool.{Bool, true, false, not, ◌||◌}
use mathlib.Core.Logic.{◌≢◌, ⊎_elim}
use native.Mathlib.Omega.{arith}
use lib.Bits.{bit_and, and_comm, and_mask, and_high}
use lib.Dec.{eqb, ltb}
use borrow.Author.Tests.{eq-eqb, ne_eqb, lt-ltb, le-ltb}
use Rattle.basics.proofs.Laws.{same?, lt-or-le}
use Rattle.rules.specs.Switches.{swis_bit, tasks_bit, both_bits, bad_key}

pub record Keys : Type 0 where
  -- "Swis (1)"
  pub swis : (key : ℕ) → bad_key swis_bit key ≡ not (ltb key 2)
  -- "tasks (2)"
  pub tasks : (key : ℕ) → bad_key tasks_bit key ≡ not (eqb key 0 || eqb key 2)
  -- "both (3)"
  pub both : (key : ℕ) → bad_key both_bits key ≡ not (ltb key 4)

-- the bits that a key shares with what is named: the last digit, the one before it, both
last : (key : ℕ) → bit_and swis_bit key ≡ key % 2
last key = and_comm swis_bit key ∙ and_mask key 1

before_last : (key : ℕ) → bit_and tasks_bit key ≡ (key / 2 % 2) * 2
before_last key = and_comm tasks_bit key ∙ and_high key 1 1

last-two : (key : ℕ) → bit_and both_bits key ≡ key % 4
last-two key = and_comm both_bits key ∙ and_mask key 2

-- a key passes that has no other bit, and no other passes
module _ (which key : ℕ) {passes : Bool} where
  allowed : bit_and which key ≡ key → passes ≡ true → bad_key which key ≡ not passes
  allowed e t = ap not (eq-eqb (bit_and which key) key e ∙ sym t)

  barred : bit_and which key ≢ key → passes ≡ false → bad_key which key ≡ not passes
  barred d f = ap not (ne_eqb (bit_and which key) key d ∙ sym f)

pub keys : Keys
keys =
    record {
      swis =
          λ key.
          let bit = last key in
          ⊎_elim
          (λ (h : key < 2). allowed swis_bit key (omega arith) (lt-ltb key 2 h))
          (λ (h : 2 ≤ key). barred swis_bit key (λ e. omega arith) (le-ltb key 2 h))
          (lt-or-le key 2);
      tasks =
          λ key.
          let bit = before_last key in
          ⊎_elim
          (λ (z : key ≡ 0). rw z refl)
          (λ (n : key ≢ 0).
          ⊎_elim
          (λ (t : key ≡ 2). rw t refl)
          (λ (m : key ≢ 2). barred tasks_bit key (λ e. omega arith) (ap₂ ◌||◌ (ne_eqb key 0 n) (ne_eqb key 2 m)))
          (same? key 2))
          (same? key 0);
      both =
          λ key.
          let bits = last-two key in
          ⊎_elim
          (λ (h : key < 4). allowed both_bits key (omega arith) (lt-ltb key 4 h))
          (λ (h : 4 ≤ key). barred both_bits key (λ e. omega arith) (le-ltb key 4 h))
          (lt-or-le key 4);
    }
