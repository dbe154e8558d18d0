-- Request No. 12: "Show that no post is lost." What is counted for one semaphore, from the history of calls and answers alone, and the statement.
use Rattle.std.specs.Prelude.{ℕ, ◌+◌, ◌≡◌, ◌≢◌, Bool, true, false, not, ◌&&◌, ◌||◌, List, [], ◌∷◌, ◌++◌, eqb}
use Rattle.basics.specs.Lists.{bit}
use Rattle.rules.specs.Answer.{done}
use Rattle.rules.specs.Tables.{Typed, semaphore, USED, KIND, COUNT}
use Rattle.rules.specs.Semaphores.{is_binary}
use Rattle.rules.specs.Fresh.{made_fresh}
use Rattle.rules.specs.Sound.{Sound}
use Rattle.rules.specs.declared.Answer.{Answer}
use Rattle.rules.specs.declared.Tables.{Tables}
use Rattle.runs.specs.Run.{made, next, after, AllWords}
use Rattle.rules.specs.declared.Call.{Call}

-- ---- "the history of calls and answers": each call with what was answered, of calls one after the other from tables t on
pub record CallAndAnswer : Type 0 where
  pub asked : Call
  pub answer : Answer

unfoldable pub history : Tables → List Call → List CallAndAnswer
history t [] = []
history t (q ∷ qs) = record { asked = q; answer = (made t q).answer } ∷ history (next t q) qs

-- how many of them pass the test
unfoldable pub how_many : (CallAndAnswer → Bool) → List CallAndAnswer → ℕ
how_many passes [] = 0
how_many passes (e ∷ es) = bit (passes e) + how_many passes es

-- ---- what each is to semaphore s. "refused calls count nowhere": an accepted call with this number; one whose first argument is s
abbrev pub is_accepted : ℕ → CallAndAnswer → Bool
is_accepted number e = eqb e.asked.number number && eqb e.answer.code 0

abbrev pub is_accepted_on : ℕ → ℕ → CallAndAnswer → Bool
is_accepted_on number s e = is_accepted number e && eqb e.asked.a s

-- its "creation or accepted reset": call 20, whose value is the new one's number, or call 24; both set the count to their second argument
abbrev pub sets_count : ℕ → CallAndAnswer → Bool
sets_count s e = (is_accepted 0x20 e && eqb e.answer.value s) || is_accepted_on 0x24 s e

-- "the accepted posts"
abbrev pub is_post : ℕ → CallAndAnswer → Bool
is_post s e = is_accepted_on 0x23 s e

-- "a unit being taken by a pend that was done at once or by a waiter that a post readied" (`Readied`). "Expired waits take nothing"
abbrev pub takes_unit : ℕ → CallAndAnswer → Bool
takes_unit s e = (is_accepted_on 0x22 s e && eqb e.answer.outcome done) || (is_post s e && not (eqb e.answer.value 0))

-- ---- in a history, the "last creation or accepted reset" of s and the "sequence of calls since"
pub record LastSet (s : ℕ) (h : List CallAndAnswer) : Type 0 where
  pub before : List CallAndAnswer
  pub call : CallAndAnswer
  pub since : List CallAndAnswer
  pub split : h ≡ before ++ (call ∷ since)
  pub sets : sets_count s call ≡ true
  pub none_since : how_many (sets_count s) since ≡ 0

-- "every counting semaphore, of either order": in use, and not of a binary kind
pub record Counting (s : ℕ) (t : Tables) : Type 0 where
  pub used : semaphore t.semaphores s USED ≢ 0
  pub kind : is_binary (semaphore t.semaphores s KIND) ≡ false

-- "the count set then plus the accepted posts equals the count now plus the units taken"
abbrev pub Balanced : (s : ℕ) (h : List CallAndAnswer) → LastSet s h → Tables → Type 0
Balanced s h x now = x.call.asked.b + how_many (is_post s) x.since ≡ semaphore now.semaphores s COUNT + how_many (takes_unit s) x.since

-- ---- No. 12: of any calls on sound tables, and any counting semaphore whose last creation or accepted reset is among them
abbrev pub NoPostLost : Type 0
NoPostLost =
    (t : Tables) → Typed t → Sound t → (qs : List Call) → AllWords t qs → (s : ℕ) → Counting s (after t qs)
    → (x : LastSet s (history t qs)) → Balanced s (history t qs) x (after t qs)

-- from fresh tables on, with whatever number of levels they are asked for, every counting semaphore has one
abbrev pub NoPostLostFromFresh : Type 0
NoPostLostFromFresh =
    (levels : ℕ) → let t = (made_fresh levels).tables in
    (qs : List Call) → AllWords t qs → (s : ℕ) → Counting s (after t qs)
    → (x : LastSet s (history t qs)) × Balanced s (history t qs) x (after t qs)
