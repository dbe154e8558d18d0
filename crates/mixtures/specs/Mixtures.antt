-- Request No. 4: calls by the entry for one call and lists of calls, mixed as a caller likes, and what the caller has of them.
use Prim.{Unit}
use Rattle.std.specs.Prelude.{ℕ, cond as if, List, [], ◌∷◌, ◌++◌, eqb, length}
use Rattle.rules.specs.declared.Answer.{Answer}
use Rattle.rules.specs.declared.Tables.{Tables}
use Rattle.rules.specs.declared.Thread.{Thread}
use Rattle.runs.specs.CallList as CallList
use Rattle.runs.specs.CallList.{calls_of, Handed}
use Rattle.demands.specs.Promised.{Promised}
use Rattle.demands.specs.Sequence.{Entered}
use Rattle.demands.specs.Lists.{PromisedList}
use Rattle.no_post_lost.specs.NoPostLost.{CallAndAnswer}
use Rattle.rules.specs.declared.Call.{Call}

-- a list that was handed over: its words, the room for answers as it was before, and what it left
pub record HandedList : Type 0 where
  pub words : List ℕ
  pub room : List ℕ
  pub left : Handed

-- a piece of a mixture
pub data Piece : Type 0 where
  single : Entered → Piece
  list : HandedList → Piece

-- the tables that it left
abbrev pub tables_of : Piece → Tables
tables_of (single e) = e.left.tables
tables_of (list l) = l.left.tables

-- the thread and the code that it answered, a list's as a whole
abbrev pub thread_of_piece : Piece → Thread
thread_of_piece (single e) = e.left.thread
thread_of_piece (list l) = l.left.thread

abbrev pub code_of_piece : Piece → ℕ
code_of_piece (single e) = e.left.answer.code
code_of_piece (list l) = l.left.answer.code

-- each piece is made on the tables that the one before it left, and left what its entry promises
unfoldable pub Mixture : Tables → List Piece → Type 0
Mixture t [] = Unit {0}
Mixture t (single e ∷ ps) = Promised t e.call e.left × Mixture e.left.tables ps
Mixture t (list l ∷ ps) = PromisedList t l.words l.room l.left × Mixture l.left.tables ps

-- the tables after the last one
unfoldable pub tables_after : Tables → List Piece → Tables
tables_after t [] = t
tables_after t (p ∷ ps) = tables_after (tables_of p) ps

-- the last one's thread, or x where there is none; and all codes
unfoldable pub thread_after : Thread → List Piece → Thread
thread_after x [] = x
thread_after x (p ∷ ps) = thread_after (thread_of_piece p) ps

unfoldable pub codes_of : List Piece → List ℕ
codes_of [] = []
codes_of (p ∷ ps) = code_of_piece p ∷ codes_of ps

-- ---- the calls that were made, and what the caller has as their answers. A list that was refused made none
abbrev pub if_accepted : {A : Type 0} → HandedList → List A → List A
if_accepted l xs = if (eqb l.left.answer.code 0) xs []

abbrev pub calls_of_piece : Piece → List Call
calls_of_piece (single e) = e.call ∷ []
calls_of_piece (list l) = if_accepted l (calls_of l.words)

-- those of a list stand in the words that it left, three to a call
abbrev pub answers_of_piece : Piece → List Answer
answers_of_piece (single e) = e.left.answer ∷ []
answers_of_piece (list l) = if_accepted l (CallList.answers_in (length (calls_of l.words)) l.left.answers)

unfoldable pub calls_made : List Piece → List Call
calls_made [] = []
calls_made (p ∷ ps) = calls_of_piece p ++ calls_made ps

unfoldable pub answers_had : List Piece → List Answer
answers_had [] = []
answers_had (p ∷ ps) = answers_of_piece p ++ answers_had ps

-- ---- "the history of calls and answers" of request No. 12: each call with its answer. "counts each call of a list as one call"
unfoldable pub paired : List Call → List Answer → List CallAndAnswer
paired [] rs = []
paired (q ∷ qs) [] = []
paired (q ∷ qs) (r ∷ rs) = record { asked = q; answer = r } ∷ paired qs rs

abbrev pub history_of : List Piece → List CallAndAnswer
history_of ps = paired (calls_made ps) (answers_had ps)
