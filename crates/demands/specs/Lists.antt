-- Demands 1 and 2 of a list of calls (request No. 4): what the entry for lists promises, and what the same calls leave that are made one by one.
use Rattle.std.specs.Prelude.{ℕ, ◌*◌, ◌≤◌, ◌≡◌, ◌≢◌, ◌↔◌, List, [], ◌∷◌, length, get_or}
use Rattle.rules.specs.Tables.{Typed}
use Rattle.rules.specs.Answer.{answer}
use Rattle.rules.specs.Dispatch.{running, dispatched, dispatch_tables}
use Rattle.rules.specs.Sound.{Sound}
use Rattle.rules.specs.declared.Answer.{Answer}
use Rattle.rules.specs.declared.Tables.{Tables}
use Rattle.rules.specs.declared.Thread.{Thread}
use Rattle.runs.specs.Run.{ByType, made, after, Each}
use Rattle.runs.specs.CallList.{calls_of, laid_out, answers_to, answers_in, Handed, handed, hand_over}
use Rattle.demands.specs.One.{thread_of}
use Rattle.demands.specs.Two.{Kept}
use Rattle.demands.specs.Sequence.{Entered, Sequence, calls, tables_after}
use Rattle.rules.specs.declared.Call.{Call}

-- a list with none of the faults of "its length is not a multiple of five, exceeds 256 calls, or the answer room is short"
pub record Fits (words room : List ℕ) : Type 0 where
  pub calls : ℕ
  pub multiple : length words ≡ calls * 5
  pub most : calls ≤ 256
  pub space : calls * 3 ≤ length room

-- "five to a call (number, four arguments)": a list that fits is the words of its calls, one after the other
abbrev pub ListsAreWords : Type 0
ListsAreWords = (words room : List ℕ) → Fits words room → laid_out (calls_of words) ≡ words

-- and the words of any calls are a list of these calls
abbrev pub CallsAreLists : Type 0
CallsAreLists = (qs : List Call) → calls_of (laid_out qs) ≡ qs

-- ---- demand 1: any tables, any list and any room for answers get an answer
pub record ListAnswered (t : Tables) (words room : List ℕ) (s : Handed) : Type 0 where
  -- each code exactly in its case. "code 4 for the whole list", "code 10 comes before it"
  pub unsound : (s.answer.code ≡ 10) ↔ (Sound t → ⊥)
  pub bad : (s.answer.code ≡ 4) ↔ (Sound t × (Fits words room → ⊥))
  pub accepted : (s.answer.code ≡ 0) ↔ (Sound t × Fits words room)
  -- "nothing done": a refusal has outcome 0 and value 0, and every table and every answer word stays as it was
  pub refused : s.answer.code ≢ 0 → s ≡ handed t room (answer s.answer.code 0 0) (thread_of t)
  -- "A list accepted, even an empty one, answers code, outcome and value 0"
  pub done : s.answer.code ≡ 0 → s.answer ≡ answer 0 0 0
  -- and three words for each call are what it is answered
  pub each : s.answer.code ≡ 0 → answers_in (length (calls_of words)) s.answers ≡ answers_to t (calls_of words)

-- ---- demand 2: from sound tables a list leaves sound tables, and each of its calls has exactly its effect
pub record ListKept (t : Tables) (words : List ℕ) (s : Handed) : Type 0 where
  pub tables : s.answer.code ≡ 0 → s.tables ≡ after t (calls_of words)
  pub each : s.answer.code ≡ 0 → Each (λ u q. Kept u q (made u q)) t (calls_of words)
  pub tested : s.answer.code ≢ 10
  pub typed : Typed t → Typed s.tables
  pub sound : Sound s.tables
  pub thread : s.thread ≡ running s.tables.lines s.tables.state
  pub nothing_left : dispatched s.tables.swis s.tables.lines s.tables.state
      ≡ dispatch_tables s.tables.swis s.tables.lines s.tables.state

-- ---- what the entry promises of a list handed over on any tables: the whole, and with it demands 1 and 2
pub record PromisedList (t : Tables) (words room : List ℕ) (s : Handed) : Type 0 where
  pub whole : s ≡ hand_over t words room
  pub answered : ListAnswered t words room s
  pub kept : Sound t → ListKept t words s
  -- what the types say of each call that was made
  pub types : Sound t → s.answer.code ≡ 0 → Each ByType t (calls_of words)

-- ---- "The final tables and every answer must equal those of the same calls made one after the other.": by the entry for one call
-- what such calls were answered
unfoldable pub answers_of : List Entered → List Answer
answers_of [] = []
answers_of (e ∷ es) = e.left.answer ∷ answers_of es

-- the thread that runs after them: the last one's, or the one that ran before where there are none
unfoldable pub last_thread : Thread → List Entered → Thread
last_thread x [] = x
last_thread x (e ∷ es) = last_thread e.left.thread es

-- a list that was accepted left s; its calls, made one by one by an entry from the same tables on, are es
pub record SameOneByOne (t : Tables) (room : List ℕ) (s : Handed) (es : List Entered) : Type 0 where
  pub tables : s.tables ≡ tables_after t es
  pub answers : answers_in (length es) s.answers ≡ answers_of es
  pub fits : length es * 3 ≤ length room
  pub thread : s.thread ≡ last_thread (thread_of t) es
  -- "Answer words past the last call stay as they were."
  pub past : (k : ℕ) → length es * 3 ≤ k → get_or s.answers k 0 ≡ get_or room k 0
  pub same_length : length s.answers ≡ length room

-- whoever makes the calls of the list one by one gets the same
abbrev pub ListsAreCalls : Type 0
ListsAreCalls =
    (t : Tables) (words room : List ℕ) (s : Handed) → PromisedList t words room s → s.answer.code ≡ 0
    → (es : List Entered) → Sequence t es → calls es ≡ calls_of words → SameOneByOne t room s es

-- and they can be made one by one
pub record OneByOne (t : Tables) (words : List ℕ) : Type 0 where
  pub entered : List Entered
  pub row : Sequence t entered
  pub same : calls entered ≡ calls_of words

abbrev pub ListsCanBeCalls : Type 0
ListsCanBeCalls = (t : Tables) (words room : List ℕ) (s : Handed) → PromisedList t words room s → s.answer.code ≡ 0 → OneByOne t words
