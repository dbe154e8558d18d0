-- What follows from No. 14's "a version 1 log replays with 16 as today": a log of version 2 that names no task priority of 16 to 31 replays as its
-- twin of version 1. The statements.
use Rattle.std.specs.Prelude.{ℕ, suc, ◌%◌, ◌<◌, ◌≤◌, ◌≡◌, ◌≢◌, ◌⊎◌, ◌↔◌, cond as if, List, [], ◌∷◌, eqb, length, get_or}
use Rattle.rules.specs.Tables.{Typed, few_levels, most_levels, state, LEVELS, raised}
use Rattle.rules.specs.Sound.{Sound}
use Rattle.rules.specs.Step.{step_of}
use Rattle.rules.specs.Log.{read_at, argument_bytes, argument, record_bytes, version_byte}
use Rattle.rules.specs.Replay.{replay_text}
use Rattle.rules.specs.declared.Tables.{Tables}
use Rattle.rules.specs.declared.Read.TheVariants.{Record}
use Rattle.runs.specs.Run.{made, next}
use Rattle.rules.specs.Answer.{Words}
use Rattle.rules.specs.declared.Call.{Call}

-- ---- a call
-- p is none of the priorities 16 to 31, which 32 levels have and 16 have not
abbrev pub Low : ℕ → Type 0
Low p = (p < few_levels) ⊎ (most_levels ≤ p)

-- the call names no such priority: "00 create (priority; T)", "02 set priority (task, priority; T S)"
pub record LowCall (number a b : ℕ) : Type 0 where
  pub create : number ≡ 0x00 → Low a
  pub set_priority : number ≡ 0x02 → Low b

-- on sound tables of 16 levels such a call has the same answer and thread with 32, and leaves the same tables but for their number of levels
abbrev pub CallsAlike : Type 0
CallsAlike =
    (t : Tables) → Typed t → Sound t → state t.state LEVELS ≡ few_levels → (q : Call) → Words q → LowCall q.number q.a q.b
    → made (raised t) q ≡ step_of (raised (next t q)) (made t q).answer (made t q).thread

-- ---- a log
-- its entries are bytes
abbrev pub Bytes : List ℕ → Type 0
Bytes s = (i : ℕ) → get_or s i 0 < 256

-- log w is the version 1 twin of log s: the first version in s, if it has one, is 2; w has version 1 exactly where s has version 2 (the third of
-- each 20 bytes), and a byte that is no version is the same in both
pub record Twins (s w : List ℕ) : Type 0 where
  pub long : length w ≡ length s
  pub begins : 2 < length s → get_or s 2 0 ≡ 2
  pub versions : (i : ℕ) → i % record_bytes ≡ version_byte → (get_or s i 0 ≡ 2) ↔ (get_or w i 0 ≡ 1)
  pub others : (i : ℕ) → i % record_bytes ≢ version_byte → get_or w i 0 ≡ get_or s i 0

-- a log of version 2 has one: its versions 2 and 1 exchanged; `place` is the first byte's
abbrev pub exchanged : ℕ → ℕ
exchanged v = if (eqb v 2) 1 (if (eqb v 1) 2 v)

unfoldable pub twin_from : ℕ → List ℕ → List ℕ
twin_from place [] = []
twin_from place (x ∷ xs) = if (eqb (place % record_bytes) version_byte) (exchanged x) x ∷ twin_from (suc place) xs

abbrev pub HasTwin : Type 0
HasTwin = (s : List ℕ) → (2 < length s → get_or s 2 0 ≡ 2) → Twins s (twin_from 0 s)

-- no record of the log names one of the priorities 16 to 31, also behind a fault
pub record LowLog (s : List ℕ) : Type 0 where
  pub records : (at number start : ℕ) → at % record_bytes ≡ 0 → read_at s at ≡ Record number start
      → LowCall number (argument (argument_bytes s start) 0) (argument (argument_bytes s start) 1)

-- the theorem: such a log prints what its twin prints, line by line and fault by fault
abbrev pub TwinsReplayAlike : Type 0
TwinsReplayAlike = (s w : List ℕ) → Bytes s → Twins s w → LowLog s → replay_text s ≡ replay_text w
