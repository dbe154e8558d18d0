-- No call changes the number of levels: each of them leaves the word alone (`laws`), and a sequence is one call after the other.
use Prim.Native.Nat.{ℕ}
use mathlib.Core.Path.{◌≡◌, refl, ◌∙◌}
use mathlib.Core.Logic.{◌⊎◌, inl, inr}
use mathlib.Core.Bool.{Bool, true, false, cond as if}
use mathlib.Core.List.{List, [], ◌∷◌}
use lib.Dec.{eqb}
use Rattle.rules.specs.Tables.{few_levels, most_levels, state, LEVELS, levels}
use Rattle.rules.specs.Fresh.{fresh_with, fresh, is_levels, made_fresh}
use Rattle.rules.specs.Log.{version_of, second_edition, levels_for}
use Rattle.rules.specs.declared.Tables.{Tables}
use Rattle.rules.specs.declared.Step.{Step}
use Rattle.runs.specs.Run.{next, after}
use Rattle.rules_laws.proofs.Calls.{chosen}
use Rattle.rules_laws.proofs.Levels as Laws
use Rattle.demands.proofs.Two.{either-levels}
use Rattle.demands.specs.Levels.{LevelsKept, LevelsStay, LevelsOfALog}
use Rattle.rules.specs.declared.Call.{Call}

pub levels-kept : LevelsKept
levels-kept t q = Laws.levels-kept t q.number q.a q.b q.c q.d

along : (t : Tables) (qs : List Call) → state (after t qs).state LEVELS ≡ state t.state LEVELS
unfolding after
along t [] = refl
along t (q ∷ qs) = along (next t q) qs ∙ levels-kept t q

-- of fresh tables with n levels, where n is one of the two numbers
with-levels : (n : ℕ) → (n ≡ few_levels) ⊎ (n ≡ most_levels) → (qs : List Call) → levels (after (fresh_with n) qs).state ≡ n
unfolding levels fresh_with
with-levels n (inl few) qs = rw (along (fresh_with n) qs, few)
with-levels n (inr most) qs = rw (along (fresh_with n) qs, most)

-- what is asked for is one of them, or it is refused
by-test : (b : Bool) (n : ℕ) (qs : List Call) → (b ≡ true → (n ≡ few_levels) ⊎ (n ≡ most_levels))
    → levels (after (if b (fresh_with n) fresh) qs).state ≡ if b n few_levels
by-test true n qs h = with-levels n (h refl) qs
by-test false n qs h = with-levels few_levels (inl refl) qs

tables-of : (b : Bool) (s u : Step) → (if b s u).tables ≡ if b s.tables u.tables
tables-of true s u = refl
tables-of false s u = refl

pub levels-stay : LevelsStay
unfolding made_fresh
levels-stay n qs = rw (tables-of (is_levels n) _ _) (by-test (is_levels n) n qs (either-levels n))

-- the log's version means one of them
pub levels-of-a-log : LevelsOfALog
levels-of-a-log s qs =
    with-levels (levels_for (version_of s))
    (chosen (λ (n : ℕ). (n ≡ few_levels) ⊎ (n ≡ most_levels)) (eqb (version_of s) second_edition) _ _ (λ _. inr refl) (λ _. inl refl)) qs
