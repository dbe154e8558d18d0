-- The replay of a part, and of a log, by one record: how many there can be at most is found again at each position.
use Prim.Native.Nat.{ℕ, suc, ◌+◌, ◌-◌, ◌/◌}
use mathlib.Core.Path.{◌≡◌, refl, ap}
use mathlib.Core.Bool.{Bool, cond as if}
use mathlib.Core.List.{List}
use native.Mathlib.Nat.{sub-zero}
use native.Mathlib.Omega.{arith}
use lib.ListN.{length}
use Rattle.rules.specs.Log.{read_in, read_at, record_bytes, arguments_length}
use Rattle.rules.specs.Replay.{lines_for, lines_from}
use Rattle.rules.specs.declared.Read.{Read}
use Rattle.rules.specs.declared.Read.TheVariants.{Record, End, Cut, Length, Version}
use Rattle.rules.specs.declared.Tables.{Tables}
use Rattle.call_log.proofs.Records.{record-fits}
use Rattle.desk_parts.specs.Part.{ReplayState, waiting, version_by, part_for, readable, part_from, part_of}

-- a good record leaves room for one less
pub one_less : (v : ℕ) (s : List ℕ) (at number start : ℕ) → read_in v s at ≡ Record number start
    → (length s - at) / record_bytes ≡ suc ((length s - (start + arguments_length)) / record_bytes)
one_less v s at number start e = let f = record-fits v s at number start e in omega arith

-- ---- a log's lines from a position on
abbrev pub lines_at : List ℕ → ℕ → ℕ → Tables → List (List ℕ)
lines_at s at n t = lines_from (suc ((length s - at) / record_bytes)) s at n t

lines-for : (s : List ℕ) (at n : ℕ) (t : Tables) (r : Read) → read_at s at ≡ r
    → lines_for r s n t (λ next u. lines_from ((length s - at) / record_bytes) s next (suc n) u) ≡ lines_for r s n t (λ next u. lines_at s next (suc n) u)
lines-for s at n t (Record number start) e = rw (one_less _ s at number start e)
lines-for s at n t End e = refl
lines-for s at n t (Cut k) e = refl
lines-for s at n t (Length k) e = refl
lines-for s at n t (Version k) e = refl

pub lines_step : (s : List ℕ) (at n : ℕ) (t : Tables) → lines_at s at n t ≡ lines_for (read_at s at) s n t (λ next u. lines_at s next (suc n) u)
unfolding lines_from
lines_step s at n t = lines-for s at n t (read_at s at) refl

-- ---- a part from a place on
abbrev pub part_at : Bool → List ℕ → ℕ → ℕ → ℕ → Tables → ReplayState
part_at last s o at n t = part_from (suc ((length s - at) / record_bytes)) last s o at n t

pub part-whole : (last : Bool) (s : List ℕ) (o n : ℕ) (t : Tables) → part_of last s o n t ≡ part_at last s o 0 n t
unfolding part_of
part-whole last s o n t = rw sub-zero

part-for : (last : Bool) (s : List ℕ) (o at n : ℕ) (t : Tables) (r : Read) → read_in (version_by t.state) s at ≡ r
    → part_for r s o at n t (λ next m u. part_from ((length s - at) / record_bytes) last s o next m u)
    ≡ part_for r s o at n t (λ next m u. part_at last s o next m u)
part-for last s o at n t (Record number start) e = rw (one_less _ s at number start e)
part-for last s o at n t End e = refl
part-for last s o at n t (Cut k) e = refl
part-for last s o at n t (Length k) e = refl
part-for last s o at n t (Version k) e = refl

pub part_step : (last : Bool) (s : List ℕ) (o at n : ℕ) (t : Tables)
    → part_at last s o at n t
    ≡ if (readable last s at) (part_for (read_in (version_by t.state) s at) s o at n t (λ next m u. part_at last s o next m u)) (waiting s o at n t)
unfolding part_from
part_step last s o at n t = ap (λ (x : ReplayState). if (readable last s at) x (waiting s o at n t)) (part-for last s o at n t (read_in (version_by t.state) s at) refl)
