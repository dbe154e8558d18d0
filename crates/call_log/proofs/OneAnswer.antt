-- Two answers that one promise allows are equal, for the promises that are more than one equation: each part of an answer has its own, and what has equal
-- parts is equal.
use Rattle.std.proofs.Common.{◌≡◌, ℕ, ◌+◌, ◌≤◌, List, length, sym, ◌∙◌, Bor}
use Rattle.rules.specs.Log.{read_in, read_at, move_to}
use Rattle.rules.specs.declared.Read.{Read}
use Rattle.call_log.specs.Part.{PartAt}
use Rattle.call_log.specs.declared.reader.Reader.{Reader}
use Rattle.call_log.specs.declared.reader.Step.{Step}

-- ---- equal parts
same_step : (r s : Step) → r.found ≡ s.found → r.at ≡ s.at → r ≡ s
same_step r s p q = let e : ◌≡◌ {A = Step} (record { found = r.found; at = r.at }) (record { found = s.found; at = s.at }) = cc in e

same-reader : (r s : Reader) → r.log ≡ s.log → r.at ≡ s.at → r ≡ s
same-reader r s p q = let e : ◌≡◌ {A = Reader} (record { log = r.log; at = r.at }) (record { log = s.log; at = s.at }) = cc in e

-- ---- `step_in`, and `step_at` with the version of the log: what stands at a position, and the position after it
abbrev pub Stepped : ℕ → List ℕ → ℕ → Step → Type 0
Stepped v log at r = (r.found ≡ read_in v log at) × (r.at ≡ move_to r.found at)

pub one-step : (v : ℕ) (log : List ℕ) (at : ℕ) (r s : Step) → Stepped v log at r → Stepped v log at s → r ≡ s
one-step v log at r s p q = same_step r s (cc) (cc)

-- ---- `Reader::new`: a reader of the log that was passed, at its start
abbrev pub Begun : Bor (List ℕ) → Reader → Type 0
Begun log r = (r.log ≡ log) × (r.at ≡ 0)

pub one_reader : (log : Bor (List ℕ)) (r s : Reader) → Begun log r → Begun log s → r ≡ s
one_reader log r s p q = same-reader r s (cc) (cc)

-- ---- `Reader::next`: what a reader answers, and the reader that is left
abbrev pub Found : Reader → Read → Reader → Type 0
Found before r after =
    (r ≡ read_at before.log.now before.at) × ((after.log ≡ before.log) × (after.at ≡ move_to r before.at))

pub one-next : (before : Reader) (r s : Read) (left also : Reader) → Found before r left → Found before s also → (r ≡ s) × (left ≡ also)
one-next before r s left also p q = (cc, same-reader left also (cc) (cc))

-- ---- `arguments`, `Reader::arguments` and `read_arguments`: the bytes, and where sixteen are there the place too. A slice is its place and its length,
-- so the two are one slice
pub one-part : (log : Bor (List ℕ)) (start : ℕ) (r s : Bor (List ℕ)) → PartAt log start r → PartAt log start s
    → (r.now ≡ s.now) × (start + 16 ≤ length log.now → r.ref_ptr ≡ s.ref_ptr)
one-part log start r s p q = (p.bytes ∙ sym q.bytes, λ there. p.place there ∙ sym (q.place there))
