-- What a rule computes and what it says agree, for every rule.
use mathlib.Core.Path.{◌≡◌, refl, ap}
use mathlib.Core.Logic.Iff
use mathlib.Core.Logic.{◌↔◌, ◌⊎◌, inl, inr, ⊎_elim}
use mathlib.Core.Bool.{Bool, true, false, not, ◌||◌, false≢true, and-eq-true_iff}
use lib.Dec.{eqb}
use borrow.Author.Tests.{ltb-true, lt-ltb, eqb-true, eqb-false, eq-eqb, ne_eqb, not-true}
use Rattle.basics.specs.Rule.{Rule, ◌is◌, ◌isnt◌, ◌under◌, test, ◌and◌, ◌or◌, ◌gives◌, each, every, holds, Means}
use Rattle.basics.proofs.Finds.{all-at, all-make, all_of-at, all_of-make}

module _ {A B : Type 0} where
  either : (a b : Bool) → (a ≡ true) ↔ A → (b ≡ true) ↔ B → ((a || b) ≡ true) ↔ (A ⊎ B)
  either true b p q = (λ e. inl (p.0 refl), λ s. refl)
  either false b p q = (λ e. inr (q.0 e), ⊎_elim (λ x. absurd (false≢true (p.1 x))) q.1)

  implied : (a b : Bool) → (a ≡ true) ↔ A → (b ≡ true) ↔ B → ((not a || b) ≡ true) ↔ (A → B)
  implied true b p q = (λ e x. q.0 e, λ g. q.1 (g (p.0 refl)))
  implied false b p q = (λ e x. absurd (false≢true (p.1 x)), λ g. refl)

pub agree : (r : Rule) → (holds r ≡ true) ↔ Means r
agree (x is y) = (eqb-true x y, eq-eqb x y)
agree (x isnt y) = (λ e. eqb-false x y (not-true (eqb x y) e), λ n. ap not (ne_eqb x y n))
agree (x under y) = (ltb-true x y, lt-ltb x y)
agree (test b) = Iff.rfl
agree (r and s) = Iff.trans (and-eq-true_iff (holds r) (holds s)) (Iff.and (agree r) (agree s))
agree (r or s) = either (holds r) (holds s) (agree r) (agree s)
agree (r gives s) = implied (holds r) (holds s) (agree r) (agree s)
agree (each n f) =
    (λ e i l. (agree (f i)).0 (all-at (λ j. holds (f j)) n e i l), λ m. all-make (λ j. holds (f j)) n (λ i l. (agree (f i)).1 (m i l)))
agree (every xs f) =
    (λ e k l. (agree (f _)).0 (all_of-at (λ x. holds (f x)) xs e k l), λ m. all_of-make (λ x. holds (f x)) xs (λ k l. (agree (f _)).1 (m k l)))
