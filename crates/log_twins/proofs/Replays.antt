-- A log and its version 1 twin replay alike: record by record the tables with 32 levels are those with 16 raised, and the lines are the same.
use Prim.Native.Nat.{ℕ, zero, suc, ◌+◌, ◌/◌, ◌%◌, ◌<◌, ◌≤◌}
use mathlib.Core.Path.{◌≡◌, refl, ap, ◌∙◌}
use mathlib.Core.Logic.{⊎_elim}
use mathlib.Core.List.{List, ◌∷◌}
use native.Mathlib.Omega.{arith}
use lib.ListN.{length}
use Rattle.basics.proofs.Laws.{lt-or-le}
use Rattle.rules.specs.Tables.{Typed, raised, few_levels, most_levels, state, LEVELS}
use Rattle.rules.specs.Fresh.{fresh, fresh_with}
use Rattle.rules.specs.Sound.{Sound}
use Rattle.rules.specs.Log.{read_at, argument_bytes, argument, record_bytes, arguments_length}
use Rattle.rules.specs.Text.{line_text}
use Rattle.rules.specs.Replay.{lines_for, lines_from, replay_lines, replay_text}
use Rattle.rules.specs.declared.Tables.{Tables}
use Rattle.rules.specs.declared.Read.{Read}
use Rattle.rules.specs.declared.Read.TheVariants.{Record, End, Cut, Length, Version}
use Rattle.runs.specs.Run.{made, next}
use Rattle.rules_laws.proofs.Levels.{levels-kept}
use Rattle.demand_3_turns.proofs.Made.{next-typed, next-sound}
use Rattle.demands.proofs.Log.{log-layout}
use Rattle.rules_laws.proofs.Fresh.{fresh-typed, fresh-is-sound}
use Rattle.log_twins.specs.Twin.{Bytes, Twins, LowLog, TwinsReplayAlike}
use Rattle.log_twins.proofs.Raises.{calls-alike}
use Rattle.log_twins.proofs.Logs.{record-words, short-same, version-two, version-one, read_alike, arguments-same}
use Rattle.rules.specs.Answer.{asked, Words}
use Rattle.rules.specs.declared.Call.{Call}

-- sound tables of 16 levels
record Few (t : Tables) : Type 0 where
  typed : Typed t
  sound : Sound t
  levels : state t.state LEVELS ≡ few_levels

next-few : (t : Tables) → Few t → (q : Call) → Words q → Few (next t q)
next-few t f q w =
    record {
      typed = next-typed t f.typed f.sound q w;
      sound = next-sound t f.typed f.sound q w;
      levels = levels-kept t q.number q.a q.b q.c q.d ∙ f.levels;
    }

fresh-few : Few fresh
unfolding fresh_with
fresh-few = record { typed = fresh-typed; sound = fresh-is-sound; levels = refl }

fresh-raised : raised fresh ≡ fresh_with most_levels
unfolding fresh_with
fresh-raised = refl

module _ (s w : List ℕ) (bytes : Bytes s) (twins : Twins s w) (low : LowLog s) (some : 2 < length s) where
  -- at most k lines from a position on
  abbrev LinesAlike : ℕ → Type 0
  LinesAlike k = (at n : ℕ) (t : Tables) → at % record_bytes ≡ 0 → Few t → lines_from k s at n (raised t) ≡ lines_from k w at n t

  -- what is printed for what stands at a position, if the lines after it are alike
  first_alike : (k at n : ℕ) (t : Tables) → at % record_bytes ≡ 0 → Few t → LinesAlike k → (r : Read) → read_at s at ≡ r
      → lines_for r s n (raised t) (λ later u. lines_from k s later (suc n) u) ≡ lines_for r w n t (λ later u. lines_from k w later (suc n) u)
  first_alike k at n t begins f rest (Record number start) e =
      let place : start ≡ at + 4 = ((log-layout s at (Record number start)).0 e).0 in
      let same : argument_bytes w start ≡ argument_bytes s start = rw place (arguments-same s w twins some at begins) in
      let bs : List ℕ = argument_bytes s start in
      let q : Call = asked number (argument bs 0) (argument bs 1) (argument bs 2) (argument bs 3) in
      let words : Words q = record-words s bytes start number in
      rw (same, calls-alike t f.typed f.sound f.levels q words (low.records at number start begins e))
      (ap (λ ls. line_text (suc n) (made t q).answer (made t q).thread ∷ ls)
      (rest (start + arguments_length) (suc n) (next t q) (omega arith) (next-few t f q words)))
  first_alike k at n t begins f rest End e = refl
  first_alike k at n t begins f rest (Cut o) e = refl
  first_alike k at n t begins f rest (Length o) e = refl
  first_alike k at n t begins f rest (Version o) e = refl

  lines-alike : (k : ℕ) → LinesAlike k
  unfolding lines_from
  lines-alike zero at n t begins f = refl
  lines-alike (suc k) at n t begins f =
      rw (read_alike s w twins some at begins) (first_alike k at n t begins f (lines-alike k) (read_at s at) refl)

  replays-alike : replay_lines s ≡ replay_lines w
  unfolding replay_lines
  replays-alike =
      rw (version-two s w twins some, version-one s w twins some, ← fresh-raised, twins.long)
      (lines-alike (suc (length s / record_bytes)) 0 0 fresh refl fresh-few)

pub twins-replay-alike : TwinsReplayAlike
unfolding replay_text
twins-replay-alike s w bytes twins low =
    ⊎_elim
    (λ (some : 2 < length s). rw (replays-alike s w bytes twins low some))
    (λ (short : length s ≤ 2). rw (short-same s w twins short))
    (lt-or-le 2 (length s))
