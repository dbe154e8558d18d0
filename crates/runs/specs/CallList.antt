-- Request No. 4: "Hand over many calls at once." A list of calls in; the next tables, the list of answers, an answer to the whole and the running thread out.
use Rattle.std.specs.Prelude.{ℕ, zero, suc, ◌*◌, ◌/◌, ◌%◌, Bool, not, ◌||◌, cond as if, List, [], ◌∷◌, eqb, ltb, length, get_or, drop}
use Rattle.std.proofs.lemmas.List.Edits.{sets}
use Rattle.rules.specs.Answer.{Cases, given, never, code_of, answer, asked}
use Rattle.rules.specs.Dispatch.{running}
use Rattle.rules.specs.Sound.{sound}
use Rattle.rules.specs.declared.Answer.{Answer}
use Rattle.rules.specs.declared.Tables.{Tables}
use Rattle.rules.specs.declared.Thread.{Thread}
use Rattle.rules.specs.declared.Thread.TheVariants.{Task}
use Rattle.runs.specs.Run.{made, next, after}
use Rattle.rules.specs.declared.Call.{Call}

-- ---- "a lent list of 32-bit words, five to a call (number, four arguments), up to 256 calls"
abbrev pub call_words : ℕ
call_words = 5

abbrev pub most_calls : ℕ
most_calls = 256

-- how many whole calls a list of so many words has
abbrev pub calls_in : ℕ → ℕ
calls_in words = words / call_words

-- the call in front of a list
abbrev pub call_in : List ℕ → Call
call_in ws = asked (get_or ws 0 0) (get_or ws 1 0) (get_or ws 2 0) (get_or ws 3 0) (get_or ws 4 0)

-- the first n calls of a list that has at least n; and all of them
unfoldable pub first_calls : ℕ → List ℕ → List Call
first_calls zero ws = []
first_calls (suc n) ws = call_in ws ∷ first_calls n (drop call_words ws)

abbrev pub calls_of : List ℕ → List Call
calls_of ws = first_calls (calls_in (length ws)) ws

-- the other way: the words of calls
unfoldable pub laid_out : List Call → List ℕ
laid_out [] = []
laid_out (q ∷ qs) = q.number ∷ q.a ∷ q.b ∷ q.c ∷ q.d ∷ laid_out qs

-- ---- "and fills three words for each (code, outcome, value) in a second list"
-- the answers to calls "made one after the other". "Refused calls do not stop the rest."
unfoldable pub answers_to : Tables → List Call → List Answer
answers_to t [] = []
answers_to t (q ∷ qs) = (made t q).answer ∷ answers_to (next t q) qs

abbrev pub answer_words : ℕ
answer_words = 3

unfoldable pub words_of : List Answer → List ℕ
words_of [] = []
words_of (r ∷ rs) = r.code ∷ r.outcome ∷ r.value ∷ words_of rs

-- as who handed the list over reads them: the answer in front of a list of such words, and the first n
abbrev pub answer_in : List ℕ → Answer
answer_in ws = answer (get_or ws 0 0) (get_or ws 1 0) (get_or ws 2 0)

unfoldable pub answers_in : ℕ → List ℕ → List Answer
answers_in zero ws = []
answers_in (suc n) ws = answer_in ws ∷ answers_in n (drop answer_words ws)

-- ---- "Refusals: code 4 for the whole list, nothing done, if its length is not a multiple of five, exceeds 256 calls, or the answer room is short"
-- of a list of n words, and room for m words of answers
unfoldable pub bad_list : ℕ → ℕ → Bool
bad_list n m = not (eqb (n % call_words) 0) || ltb most_calls (calls_in n) || ltb m (calls_in n * answer_words)

-- "code 10 comes before it": as in the order of a call's checks
unfoldable pub list_cases : Tables → List ℕ → List ℕ → Cases
list_cases t words room = given 10 (not (sound t)) (given 4 (bad_list (length words) (length room)) never)

-- ---- what a list leaves: the tables, the answer words, the answer to the whole list and the running thread
pub record Handed : Type 0 where
  pub tables : Tables
  pub answers : List ℕ
  pub answer : Answer
  pub thread : Thread

abbrev pub handed : Tables → List ℕ → Answer → Thread → Handed
handed t out r x = record { tables = t; answers = out; answer = r; thread = x }

-- "The final tables and every answer must equal those of the same calls made one after the other." "A list accepted, even an empty one, answers code,
-- outcome and value 0 and the last thread. Answer words past the last call stay as they were."
unfoldable pub all_made : Tables → List Call → List ℕ → Handed
all_made t qs room =
    let last : Tables = after t qs in
    handed last (sets room 0 (words_of (answers_to t qs))) (answer 0 0 0) (running last.lines last.state)

-- "nothing done". The thread is the one that runs as before, as after a refused call; "with code 10 the thread given is T0"
unfoldable pub nothing_done : Tables → List ℕ → ℕ → Handed
nothing_done t room code = handed t room (answer code 0 0) (if (sound t) (running t.lines t.state) (Task 0))

unfoldable pub hand_over : Tables → List ℕ → List ℕ → Handed
hand_over t words room =
    let code : ℕ = code_of (list_cases t words room) in
    if (eqb code 0) (all_made t (calls_of words) room) (nothing_done t room code)
