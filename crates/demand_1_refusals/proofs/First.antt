-- "a code is given exactly in its case": the first of a list of codes whose case holds, over any list and any cases.
use Prim.Native.Nat.{ℕ, ◌<◌}
use mathlib.Core.Path.{◌≡◌, refl, sym, ◌∙◌}
use mathlib.Core.Logic.{◌≢◌, ⊎_elim, ◌↔◌}
use mathlib.Core.Bool.{Bool, true, false, not, false≢true, and-eq-true_iff}
use mathlib.Core.List.{List, [], ◌∷◌}
use native.Mathlib.Omega.{arith}
use borrow.Author.Tests.{eq-eqb, ne_eqb}
use Rattle.basics.specs.Lists.{count, ahead, all_of}
use Rattle.basics.proofs.Laws.{same?}
use Rattle.rules.specs.Answer.{Cases, first_given}
use Rattle.rules_laws.proofs.Calls.{chosen}
use Rattle.demand_1_refusals.specs.Refusals.{None}
use Rattle.demand_1_refusals.proofs.Known.{All}

-- a test passes or fails
pub by_bool : {X : Type 0} (b : Bool) → (b ≡ true → X) → (b ≡ false → X) → X
by_bool {X} b f g = chosen (λ (_ : Bool). X) b b b f g

-- where a code is given, its case holds and none before it does
pub first_holds : (ks : List ℕ) (c : Cases) (k : ℕ) → 0 < k → first_given ks c ≡ k → (c k ≡ true) × None (ahead k ks) c
unfolding first_given ahead all_of
first_holds [] c k p e = absurd (omega (arith, e))
first_holds (y ∷ ys) c k p e =
    by_bool (c y)
    (λ h. let q : y ≡ k = rw h at e in (rw (← q) h, rw (eq-eqb y k q)))
    (λ h.
    let g : first_given ys c ≡ k = rw h at e in
    let (holds, before) = first_holds ys c k p g in
    (holds, rw (ne_eqb y k (λ (q : y ≡ k). false≢true (sym (rw q at h) ∙ holds)), h) before))

-- and where its case holds and none before it does, it is given
pub first-given : (ks : List ℕ) (c : Cases) (k : ℕ) → 0 < count k ks → c k ≡ true → None (ahead k ks) c → first_given ks c ≡ k
unfolding first_given ahead all_of count
first-given [] c k p h before = absurd (omega arith)
first-given (y ∷ ys) c k p h before =
    ⊎_elim
    (λ (q : y ≡ k). rw (q, h))
    (λ (n : y ≢ k).
    let both = (and-eq-true_iff (not (c y)) (all_of (λ j. not (c j)) (ahead k ys))).0 (rw (ne_eqb y k n) at before) in
    let g = first-given ys c k (omega (arith, rw (ne_eqb y k n) at p)) h both.1 in
    by_bool (c y) (λ e. absurd (false≢true (rw e at both.0))) (λ e. rw e g))
    (same? y k)

-- no code is given exactly if no case holds
pub first-none : (ks : List ℕ) (c : Cases) → count 0 ks ≡ 0 → (first_given ks c ≡ 0) ↔ None ks c
unfolding first_given all_of count
first-none [] c z = (λ e. refl, λ e. refl)
first-none (y ∷ ys) c z =
    ⊎_elim
    (λ (q : y ≡ 0). absurd (omega (arith, rw (eq-eqb y 0 q) at z)))
    (λ (n : y ≢ 0).
    let r = first-none ys c (omega (arith, rw (ne_eqb y 0 n) at z)) in
    by_bool (c y) (λ e. rw e (λ q. absurd (n q), λ q. absurd (false≢true q))) (λ e. rw e r))
    (same? y 0)

-- cases that agree on each of the codes give the same code
pub first-same : (ks : List ℕ) (c e : Cases) → All (λ k. c k ≡ e k) ks → first_given ks c ≡ first_given ks e
unfolding first_given
first-same [] c e all = refl
first-same (y ∷ ys) c e all = rw (all.0, first-same ys c e all.1)
