-- In a history a call that sets the count of s with none behind it that does: there is one unless none sets it, and never two.
use Prim.Native.Nat.{ℕ}
use mathlib.Core.Path.{◌≡◌, refl, sym, ap, ◌∙◌}
use mathlib.Core.Logic.{◌≢◌, ◌⊎◌, inl, inr, ⊎_elim}
use mathlib.Core.Bool.{true}
use mathlib.Core.List.{List, [], ◌∷◌, ◌++◌, head-eq_of_cons-eq, tail-eq_of_cons-eq}
use native.Mathlib.Omega.{arith}
use Rattle.demand_1_refusals.proofs.First.{by_bool}
use Rattle.no_post_lost.specs.NoPostLost.{CallAndAnswer, how_many, sets_count, LastSet}

pub last-or-none : (s : ℕ) (h : List CallAndAnswer) → LastSet s h ⊎ (how_many (sets_count s) h ≡ 0)
unfolding how_many
last-or-none s [] = inr refl
last-or-none s (e ∷ es) =
    ⊎_elim
    (λ (x : LastSet s es).
    inl
    record {
      before = e ∷ x.before;
      call = x.call;
      since = x.since;
      split = ap (λ (l : List CallAndAnswer). e ∷ l) x.split;
      sets = x.sets;
      none_since = omega (arith, x.none_since);
    })
    (λ (none : how_many (sets_count s) es ≡ 0).
    by_bool (sets_count s e)
    (λ yes. inl record { before = []; call = e; since = es; split = refl; sets = yes; none_since = omega (arith, none) })
    (λ not. inr (rw (not, none))))
    (last-or-none s es)

-- ---- it is one: what stands before a call that sets the count has one behind it
some-behind : (s : ℕ) (before : List CallAndAnswer) (e : CallAndAnswer) (es : List CallAndAnswer) → sets_count s e ≡ true
    → how_many (sets_count s) (before ++ (e ∷ es)) ≢ 0
unfolding how_many
some-behind s [] e es sets none = omega (arith, rw sets at none)
some-behind s (b ∷ bs) e es sets none = some-behind s bs e es sets (omega (arith, none))

module _ (s : ℕ) (e f : CallAndAnswer) (es fs : List CallAndAnswer) (sets : sets_count s e ≡ true) (last : how_many (sets_count s) es ≡ 0)
    (sets' : sets_count s f ≡ true) (last' : how_many (sets_count s) fs ≡ 0) where
  same_place : (before before' : List CallAndAnswer) → before ++ (e ∷ es) ≡ before' ++ (f ∷ fs) → (e ≡ f) × (es ≡ fs)
  same_place [] [] same = (head-eq_of_cons-eq same, tail-eq_of_cons-eq same)
  same_place [] (c ∷ cs) same = absurd (some-behind s cs f fs sets' (rw (tail-eq_of_cons-eq same) at last))
  same_place (b ∷ bs) [] same = absurd (some-behind s bs e es sets (rw (← tail-eq_of_cons-eq same) at last'))
  same_place (b ∷ bs) (c ∷ cs) same = same_place bs cs (tail-eq_of_cons-eq same)

pub one_last : (s : ℕ) (h : List CallAndAnswer) (x y : LastSet s h) → (x.call ≡ y.call) × (x.since ≡ y.since)
one_last s h x y =
    same_place s x.call y.call x.since y.since x.sets (omega (arith, x.none_since)) y.sets (omega (arith, y.none_since))
    x.before y.before (sym x.split ∙ y.split)
