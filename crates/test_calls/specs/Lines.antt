-- What is said of a call that was made by both entries.
use Rattle.std.specs.Prelude.{ℕ, cond as if, List, [], ◌∷◌, ◌++◌}
use Rattle.rules.specs.Text.{line_text}
use Rattle.test_calls.specs.declared.trial.Tried.{Tried}

-- "differs"
abbrev pub differs_word : List ℕ
differs_word = 100 ∷ 105 ∷ 102 ∷ 102 ∷ 101 ∷ 114 ∷ 115 ∷ []

-- the line of call n and a note behind it, where both entries say the same
abbrev pub call_text : ℕ → Tried → List ℕ → List ℕ
call_text n tried note = if tried.agrees (line_text n tried.step.answer tried.step.thread ++ note) differs_word
