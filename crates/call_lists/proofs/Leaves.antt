-- Places in a list: call i's words and its answer's are inside where there are more calls than i.
use Prim.Native.Nat.{ℕ, ◌*◌, ◌/◌, ◌<◌}
use mathlib.Core.Path.{◌≡◌}
use mathlib.Core.List.{List, [], ◌∷◌}
use borrow.Author.Tests.{lt-ltb}
use lib.ListN.{length}
use lib.Seq.{sets}
use Rattle.rules.specs.declared.Answer.{Answer}
use Rattle.runs.specs.CallList.{words_of, call_words, calls_in, answer_words}
use Rattle.call_lists.specs.CallLists.{call_from, call_at, answer_put}

pub a_call : (ws : List ℕ) (i : ℕ) → i < calls_in (length ws) → call_from ws (i * call_words) ≡ call_at ws i
unfolding call_at
a_call ws i inside = rw (lt-ltb i (calls_in (length ws)) inside)

-- where there is room for three words they are stored
pub three-words : (out : List ℕ) (i : ℕ) (r : Answer) → i < length out / answer_words → sets out (i * answer_words) (words_of (r ∷ [])) ≡ answer_put out i r
unfolding answer_put
three-words out i r inside = rw (lt-ltb i (length out / answer_words) inside)
