-- A call: refused it leaves its code and the tables as they were, accepted its effect.
use Prim.Native.Nat.{ℕ}
use mathlib.Core.Path.{◌≡◌, refl, sym, ap, ◌∙◌}
use mathlib.Core.Bool.{Bool, true, false, not, cond as if}
use lib.Dec.{eqb, ltb}
use mathlib.Core.Logic.{◌≢◌}
use borrow.Author.Tests.{eq-eqb, ne_eqb}
use Rattle.rules.specs.Answer.{Effect, with_answer, answer, absent_code, answered, CallRule, unknown, first_given, refused, guarded}
use Rattle.rules.specs.declared.Answer.{Answer}

module _ {A : Type 0} (t : A) (e : Effect A) (k : ℕ) {code : ℕ} (is : code ≡ k) where
  pub refusal : code ≢ 0 → {r : Answer} → r ≡ answer code 0 0 → with_answer r t ≡ guarded k t e
  refusal n q = ap (λ (r : Answer). with_answer r t) q ∙ ap (λ (c : ℕ). with_answer (answer c 0 0) t) is ∙ rw (ne_eqb k 0 (λ (z : k ≡ 0). n (is ∙ z)))

  pub effected : code ≡ 0 → {u : Effect A} → u ≡ e → u ≡ guarded k t e
  effected z q = rw (eq-eqb k 0 (sym is ∙ z)) q

-- the code of an object number that names nothing in use
pub absent-is : (a n rest : ℕ) {r : ℕ} → r ≡ absent_code a n → r ≡ if (not (ltb a n)) 3 (if (ltb a n) 11 rest)
unfolding absent_code
absent-is a n rest e = e ∙ go (ltb a n)
  where
    go : (b : Bool) → if b 11 3 ≡ if (not b) 3 (if b 11 rest)
    go true = refl
    go false = refl

-- what holds in both cases holds of the choice
pub chosen : {A : Type 0} (P : A → Type 0) (b : Bool) (x y : A) → (b ≡ true → P x) → (b ≡ false → P y) → P (if b x y)
chosen P true x y p q = p refl
chosen P false x y p q = q refl

-- ---- a call on some tables as a call on more: `put` says where they stand
module _ {A B : Type 0} (put : A → B) where
  abbrev pub mapped : Effect A → Effect B
  mapped r = with_answer r.answer (put r.next)

  by-case : (b : Bool) (k : ℕ) (t : A) (e : Effect A) → mapped (if b e (refused k t)) ≡ if b (mapped e) (refused k (put t))
  by-case true k t e = refl
  by-case false k t e = refl

  pub mapped-guarded : (k : ℕ) (t : A) (e : Effect A) → mapped (guarded k t e) ≡ guarded k (put t) (mapped e)
  mapped-guarded k t e = by-case (eqb k 0) k t e

-- ---- an unknown number
pub unknown-is : {A : Type 0} (t : A) (k : CallRule A) → k ≡ unknown t → {r : Answer} → r ≡ answer 1 0 0 → with_answer r t ≡ answered t k
unfolding first_given
unknown-is t k e q = ap (λ (r : Answer). with_answer r t) q ∙ ap (answered t) (sym e)
