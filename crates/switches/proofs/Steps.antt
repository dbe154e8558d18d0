-- Which switches bits name.
use Rattle.std.proofs.Common.{◌≡◌, ℕ, ◌*◌, ◌/◌, ◌%◌, not, eqb, sym, ap, ◌∙◌, arith}
use lib.Bits.{bit_and, and_mask, and_high}
use Rattle.rules.specs.Switches.{swis_bit, tasks_bit, both_bits, has}

-- which switches bits name hangs on the two last binary digits alone
module _ (bits : ℕ) {n : ℕ} (e : bit_and bits both_bits ≡ n) where
  digits : n ≡ bits % 4
  digits = sym e ∙ and_mask bits 2

  pub swis-named : has bits swis_bit ≡ has n swis_bit
  swis-named =
      let last : bits % 2 ≡ n % 2 = omega (arith, digits) in
      ap (λ (k : ℕ). not (eqb k 0)) (and_mask bits 1 ∙ last ∙ sym (and_mask n 1))

  pub tasks-named : has bits tasks_bit ≡ has n tasks_bit
  tasks-named =
      let before_last : (bits / 2 % 2) * 2 ≡ (n / 2 % 2) * 2 = omega (arith, digits) in
      ap (λ (k : ℕ). not (eqb k 0)) (and_high bits 1 1 ∙ before_last ∙ sym (and_high n 1 1))
