-- The words of a record behind those of the records before it.
use Rattle.std.proofs.Common.{◌≡◌, ℕ, zero, suc, ◌+◌, ◌*◌, List, [], ◌∷◌, length, get_or, set, sym, refl, ◌∙◌, add-one, arith, length-append}
use lib.Seq.{sets}
use Rattle.basics.proofs.Runs.{sets-append}
use Rattle.rules.specs.Log.{handed_out, argument}
use Rattle.pace_sums.specs.Pace.{record_words, call_words}

five-each : (n : ℕ) (s : List ℕ) → length (call_words n s) ≡ n * 5
unfolding call_words
five-each zero s = refl
five-each (suc n) s = let ih = five-each n s in omega (arith, length-append (call_words n s) (record_words s n))

pub no_words : (s cs : List ℕ) → cs ≡ sets cs 0 (call_words 0 s)
unfolding call_words
no_words s cs = refl

-- five stores, one behind the other
stores : (cs : List ℕ) (p a b c d e : ℕ)
    → set (set (set (set (set cs p a) (p + 1) b) (p + 2) c) (p + 3) d) (p + 4) e ≡ sets cs p (a ∷ b ∷ c ∷ d ∷ e ∷ [])
stores cs p a b c d e =
    let e₁ : p + 1 ≡ suc p = omega arith in
    let e₂ : p + 2 ≡ suc (suc p) = omega arith in
    let e₃ : p + 3 ≡ suc (suc (suc p)) = omega arith in
    let e₄ : p + 4 ≡ suc (suc (suc (suc p))) = omega arith in
    rw (e₁, e₂, e₃, e₄)

module _ (s cs₀ cs : List ℕ) (k : ℕ) (i : cs ≡ sets cs₀ 0 (call_words k s)) where
  pub next-words : {number a b c d : ℕ} {bytes : List ℕ} → number ≡ get_or s (k * 20 + 3) 0 → bytes ≡ handed_out s (k * 20 + 4)
      → a ≡ argument bytes 0 → b ≡ argument bytes 1 → c ≡ argument bytes 2 → d ≡ argument bytes 3
      → set (set (set (set (set cs (k * 5) number) (k * 5 + 1) a) (k * 5 + 2) b) (k * 5 + 3) c) (k * 5 + 4) d
      ≡ sets cs₀ 0 (call_words (k + 1) s)
  unfolding call_words
  next-words n q e f g h =
      let p : k * 5 ≡ 0 + length (call_words k s) = omega (arith, five-each k s) in
      stores cs (k * 5) _ _ _ _ _ ∙ rw (e, f, g, h, q, n, i, add-one k, p) (sym (sets-append (call_words k s) (record_words s k) cs₀ 0))
