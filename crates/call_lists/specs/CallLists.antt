-- Call i of a list, and the answer to call i in the list of answers.
use Rattle.std.specs.Prelude.{ℕ, ◌+◌, ◌*◌, ◌/◌, cond as if, List, [], ◌∷◌, ltb, length, get_or, drop}
use Rattle.std.proofs.lemmas.List.Edits.{sets}
use Rattle.rules.specs.Answer.{answer}
use Rattle.rules.specs.declared.Answer.{Answer}
use Rattle.rules.specs.declared.Call.{Call}
use Rattle.runs.specs.CallList.{call_words, calls_in, answer_words, words_of, answer_in}

-- what is given past the last call: "unknown call number"
abbrev pub no_call : Call
no_call = record { number = 0xffffffff; a = 0; b = 0; c = 0; d = 0 }

-- the call whose words begin at word k
abbrev pub call_from : List ℕ → ℕ → Call
call_from ws k = record { number = get_or ws k 0; a = get_or ws (k + 1) 0; b = get_or ws (k + 2) 0; c = get_or ws (k + 3) 0; d = get_or ws (k + 4) 0 }

unfoldable pub call_at : List ℕ → ℕ → Call
call_at ws i = if (ltb i (calls_in (length ws))) (call_from ws (i * call_words)) no_call

unfoldable pub answer_put : List ℕ → ℕ → Answer → List ℕ
answer_put out i r = if (ltb i (length out / answer_words)) (sets out (i * answer_words) (words_of (r ∷ []))) out

-- as who handed the list over reads it; past the last answer a code that none has
abbrev pub no_answer : Answer
no_answer = answer 0xffffffff 0 0

unfoldable pub answer_at : List ℕ → ℕ → Answer
answer_at out i = if (ltb i (length out / answer_words)) (answer_in (drop (i * answer_words) out)) no_answer
