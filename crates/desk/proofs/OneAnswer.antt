-- Two answers that `TurnLeaves` allows are equal: the tables, the lent bytes and what the replay has come to.
use Rattle.std.proofs.Common.{◌≡◌, ℕ, List, sym, ◌∙◌}
use Rattle.rules.specs.declared.Tables.{Tables}
use Rattle.desk_parts.specs.Part.{ReplayState}
use Rattle.desk.specs.declared.Progress.{Progress}
use Rattle.desk.specs.Done.{TurnLeaves}

pub turned-one-answer : (l : ReplayState) {t u : Tables} {ps qs qs' xs ys ys' : List ℕ} {r q : Progress}
    → TurnLeaves l t ps qs xs ys r → TurnLeaves l u ps qs' xs ys' q
    → (t ≡ u) × ((qs ≡ qs') × ((ys ≡ ys') × (r ≡ q)))
turned-one-answer l v w =
    (v.tables ∙ sym w.tables, (v.part ∙ sym w.part, (v.text ∙ sym w.text, v.progress ∙ sym w.progress)))
