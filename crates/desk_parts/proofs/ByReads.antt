-- What reads leave, one read more.
use Prim.Native.Nat.{ℕ}
use mathlib.Core.Path.{◌≡◌, refl, sym, ap, ◌∙◌}
use mathlib.Core.Bool.{Bool, true, false, cond as if, true≢false}
use mathlib.Core.List.{List, [], ◌∷◌, ◌++◌}
use lib.Dec.{eqb}
use lib.ListN.{length}
use Rattle.desk_parts.specs.Part.{ReplayState, turn, after_reads}

if-same : (b : Bool) (l : ReplayState) → if b l l ≡ l
if-same true l = refl
if-same false l = refl

-- what has not ended goes on
if-open : (b : Bool) (m l : ReplayState) → m.ended ≡ b → (if b m l).ended ≡ false → if b m l ≡ l × ((x : ReplayState) → if b m x ≡ x)
if-open true m l e h = absurd (true≢false (sym e ∙ h))
if-open false m l e h = (refl, λ x. refl)

-- one read more
pub left-more : (cs : List (List ℕ)) (c : List ℕ) (l : ReplayState) → (after_reads cs l).ended ≡ false
    → after_reads (cs ++ (c ∷ [])) l ≡ turn (eqb (length c) 0) c (after_reads cs l)
unfolding after_reads
left-more [] c l h = if-same (turn (eqb (length c) 0) c l).ended (turn (eqb (length c) 0) c l)
left-more (d ∷ cs) c l h =
    let m : ReplayState = turn (eqb (length d) 0) d l in
    let (on, same) = if-open m.ended m (after_reads cs m) refl h in
    same (after_reads (cs ++ (c ∷ [])) m)
    ∙ left-more cs c m (sym (ap (λ (x : ReplayState). x.ended) on) ∙ h)
    ∙ ap (turn (eqb (length c) 0) c) (sym on)
