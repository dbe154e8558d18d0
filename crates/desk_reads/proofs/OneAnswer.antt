-- Two answers that `ReadLeaves` allows are equal: the tables, the buffer and where the replay is.
use Rattle.std.proofs.Common.{◌≡◌, ℕ, List, sym, ◌∙◌}
use Rattle.rules.specs.declared.Tables.{Tables}
use Rattle.text.proofs.OneAnswer.{put-one-answer}
use Rattle.desk_reads.specs.declared.PartPlace.{PartPlace}
use Rattle.desk_reads.specs.Done.{ReadResult, ReadLeaves}

pub ran-same : {r q : PartPlace} → r.at ≡ q.at → r.count ≡ q.count → r.len ≡ q.len → r.ended ≡ q.ended → r ≡ q
ran-same a c l e = λ z. record { at = a z; count = c z; len = l z; ended = e z }

pub went-one-answer : (l : ReadResult) {t u : Tables} {xs : List ℕ} {len : ℕ} {ys zs : List ℕ} {r q : PartPlace} → ReadLeaves l t xs len ys r → ReadLeaves l u xs len zs q
    → (t ≡ u) × ((ys ≡ zs) × (r ≡ q))
went-one-answer l v w =
    let text = put-one-answer v.line w.line in (
      v.tables ∙ sym w.tables,
      (text.0, ran-same (v.at ∙ sym w.at) (v.count ∙ sym w.count) text.1 (v.ended ∙ sym w.ended)),
    )
