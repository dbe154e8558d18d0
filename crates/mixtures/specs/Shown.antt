-- What is shown of any mixture of single calls and lists: it is its calls made one after the other, so the demands hold of them, and Nos. 8 and 12 do.
use Rattle.std.specs.Prelude.{ℕ, ◌+◌, ◌<◌, ◌≤◌, ◌≡◌, ◌⊎◌, List, [], ◌∷◌, ◌++◌, length, replicate}
use Rattle.rules.specs.Tables.{current}
use Rattle.rules.specs.Answer.{now_waiting}
use Rattle.rules.specs.Dispatch.{running}
use Rattle.rules.specs.Fresh.{made_fresh}
use Rattle.rules.specs.Lines.{line, semaphore_line}
use Rattle.rules.specs.Sound.{Sound}
use Rattle.rules.specs.declared.Answer.{Answer}
use Rattle.rules.specs.declared.Tables.{Tables}
use Rattle.runs.specs.Run.{ByType, made, next, after, Each, Always, AllWords}
use Rattle.runs.specs.CallList.{answers_to}
use Rattle.runs.specs.Turn.{BlockedOn, before_at, ServedIn}
use Rattle.demands.specs.One.{Answered, thread_of}
use Rattle.demands.specs.Two.{Kept}
use Rattle.demands.specs.Three.{ArrivalOrder, Turn, pend}
use Rattle.woken_task.specs.WokenTask.{Post, Tells}
use Rattle.no_post_lost.specs.NoPostLost.{CallAndAnswer, history, how_many, is_post, LastSet, Counting, Balanced}
use Rattle.mixtures.specs.Mixtures.{Piece, Mixture, tables_after, thread_after, codes_of, calls_made, answers_had, history_of}
use Rattle.rules.specs.declared.Call.{Call}

-- ---- a mixture is its calls one after the other
pub record AsMade (t : Tables) (ps : List Piece) : Type 0 where
  pub tables : tables_after t ps ≡ after t (calls_made ps)
  pub answers : answers_had ps ≡ answers_to t (calls_made ps)
  pub history : history_of ps ≡ history t (calls_made ps)
  pub thread : thread_after (thread_of t) ps ≡ running (tables_after t ps).lines (tables_after t ps).state
  -- demand 1 of each of them, as of any call, and demand 2; the tables after the last one are sound
  pub answered : Each (λ u q. Answered u q (made u q)) t (calls_made ps)
  pub kept : Each (λ u q. Kept u q (made u q)) t (calls_made ps)
  pub sound : Sound (tables_after t ps)
  -- what the types say of each
  pub types : Each ByType t (calls_made ps)

abbrev pub MixturesAreCalls : Type 0
MixturesAreCalls = (t : Tables) → Sound t → (ps : List Piece) → Mixture t ps → AsMade t ps

-- so it makes no difference how calls are cut into lists
pub record SameLeft (t : Tables) (ps rs : List Piece) : Type 0 where
  pub tables : tables_after t ps ≡ tables_after t rs
  pub answers : answers_had ps ≡ answers_had rs
  pub thread : thread_after (thread_of t) ps ≡ thread_after (thread_of t) rs

abbrev pub CutAsYouLike : Type 0
CutAsYouLike = (t : Tables) → Sound t → (ps rs : List Piece) → Mixture t ps → Mixture t rs → calls_made ps ≡ calls_made rs → SameLeft t ps rs

-- ---- demand 3. "Demand 3 counts each call of a list as one call."
-- the calls of a history
unfoldable pub asks : List CallAndAnswer → List Call
asks [] = []
asks (e ∷ es) = e.asked ∷ asks es

-- among the calls is one with which a task begins to wait at s without end, by itself or in a list: those before it and those since
pub record Begins (s : ℕ) (h : List CallAndAnswer) : Type 0 where
  pub before : List CallAndAnswer
  pub answer : Answer
  pub since : List CallAndAnswer
  pub split : h ≡ before ++ (record { asked = pend s; answer = answer } ∷ since)
  pub waits : answer.outcome ≡ now_waiting

-- on tables v task i begins to wait behind k others, and has its turn whatever calls follow. Of those that did follow, and left tables `now` (`left`): it was
-- blocked all along, with at most k less the accepted posts there before it, or one of the first k + 1 served it. `words` is what `turn` asks of them
pub record TurnSince (s : ℕ) (since : List CallAndAnswer) (v now : Tables) : Type 0 where
  pub turn : Turn s (current v.state) (line v.lines (semaphore_line s)) (next v (pend s))
  pub sofar : let i = current v.state in let k = length (line v.lines (semaphore_line s)) in
      (Always (BlockedOn s i) (next v (pend s)) (asks since) × (length (before_at s i now) + how_many (is_post s) since ≤ k))
      ⊎ ServedIn s i k (next v (pend s)) (asks since)
  pub in_time : let k = length (line v.lines (semaphore_line s)) in
      k < how_many (is_post s) since → ServedIn s (current v.state) k (next v (pend s)) (asks since)
  pub left : now ≡ after (next v (pend s)) (asks since)
  pub words : AllWords (next v (pend s)) (asks since)

abbrev pub DemandThreeMixed : Type 0
DemandThreeMixed =
    (t : Tables) → Sound t → (ps : List Piece) → Mixture t ps → (s : ℕ) (b : Begins s (history_of ps))
    → ArrivalOrder s (after t (asks b.before))
    → TurnSince s b.since (after t (asks b.before)) (tables_after t ps)

-- ---- No. 8, of each accepted post: what the caller has as its answer tells of the tables on which it was made
abbrev pub MixedTells : Post → Type 0
MixedTells p =
    (t : Tables) → Sound t → (ps : List Piece) → Mixture t ps
    → (before : List CallAndAnswer) (e : CallAndAnswer) (since : List CallAndAnswer) → history_of ps ≡ before ++ (e ∷ since)
    → e.asked.number ≡ p.number → e.answer.code ≡ 0
    → let u = after t (asks before) in Tells p u e.asked e.answer (next u e.asked)

-- ---- No. 12
abbrev pub NoPostLostMixed : Type 0
NoPostLostMixed =
    (t : Tables) → Sound t → (ps : List Piece) → Mixture t ps → (s : ℕ) → Counting s (tables_after t ps)
    → (x : LastSet s (history_of ps)) → Balanced s (history_of ps) x (tables_after t ps)

abbrev pub NoPostLostMixedFromFresh : Type 0
NoPostLostMixedFromFresh =
    (levels : ℕ) → let t = (made_fresh levels).tables in
    (ps : List Piece) → Mixture t ps → (s : ℕ) → Counting s (tables_after t ps)
    → (x : LastSet s (history_of ps)) × Balanced s (history_of ps) x (tables_after t ps)

-- ---- on tables that are not sound every piece is refused with code 10, and they stay as they are
pub record AllTen (t : Tables) (ps : List Piece) : Type 0 where
  pub codes : codes_of ps ≡ replicate (length ps) 10
  pub tables : tables_after t ps ≡ t

abbrev pub UnsoundStay : Type 0
UnsoundStay = (t : Tables) → (Sound t → ⊥) → (ps : List Piece) → Mixture t ps → AllTen t ps
