-- Runs of calls by their steps: every call keeps sound tables sound, so the test before each one passes, and an example need not compute it.
use Prim.{tt}
use Prim.Native.Nat.{ℕ}
use mathlib.Core.Path.{◌≡◌, refl, ap, ◌∙◌}
use mathlib.Core.Bool.{Bool, true, ◌&&◌, and-eq-true_iff}
use mathlib.Core.List.{List, [], ◌∷◌}
use borrow.Author.Tests.{ltb-true}
use lib.Dec.{ltb}
use Rattle.rules.specs.Answer.{Words, asked as the_call}
use Rattle.rules.specs.Tables.{Typed, word_end}
use Rattle.rules.specs.Sound.{sound}
use Rattle.rules.specs.Step.{step, call}
use Rattle.rules.specs.declared.Call.{Call}
use Rattle.rules.specs.declared.Tables.{Tables}
use Rattle.rules.specs.declared.Step.{Step}
use Rattle.rules.proofs.Agree.{sound-means, means-sound}
use Rattle.rules.proofs.Computed.{computed}
use Rattle.rules_laws.proofs.Runs.{Asked, asked, look, Said, said, saw, Line, says, first, calls, answers, AllRun}
use Rattle.demand_2_soundness.proofs.Keeps.{step_typed, step-sound}

-- ---- what a run says
unfoldable pub steps_say : Tables → List Asked → List Said
steps_say t [] = []
steps_say t (asked n a b c d ∷ xs) = first (step t n a b c d) (λ u. steps_say u xs)
steps_say t (look f ∷ xs) = saw (f t) ∷ steps_say t xs

-- ---- its calls, without the looks between them, and that all arguments are words
abbrev pub asks : List Asked → List Call
asks [] = []
asks (asked n a b c d ∷ xs) = the_call n a b c d ∷ asks xs
asks (look f ∷ xs) = asks xs

abbrev are_words : Call → Bool
are_words q = ltb q.a word_end && ltb q.b word_end && (ltb q.c word_end && ltb q.d word_end)

unfoldable pub in_words : List Call → Bool
in_words [] = true
in_words (q ∷ qs) = are_words q && in_words qs

words_are : (q : Call) → are_words q ≡ true → Words q
words_are q e =
    let (first_two, last-two) = (and-eq-true_iff (ltb q.a word_end && ltb q.b word_end) (ltb q.c word_end && ltb q.d word_end)).0 e in
    let (a, b) = (and-eq-true_iff (ltb q.a word_end) (ltb q.b word_end)).0 first_two in
    let (c, d) = (and-eq-true_iff (ltb q.c word_end) (ltb q.d word_end)).0 last-two in
    record { a = ltb-true _ _ a; b = ltb-true _ _ b; c = ltb-true _ _ c; d = ltb-true _ _ d }

pub first-words : (q : Call) (qs : List Call) → in_words (q ∷ qs) ≡ true → Words q × (in_words qs ≡ true)
unfolding in_words
first-words q qs e = let (here, later) = (and-eq-true_iff (are_words q) (in_words qs)).0 e in (words_are q here, later)

says-steps : (t : Tables) (xs : List Asked) → Typed t → sound t ≡ true → in_words (asks xs) ≡ true → says t xs ≡ steps_say t xs
unfolding says steps_say call
says-steps t [] typed s w = refl
says-steps t (asked n a b c d ∷ xs) typed s w =
    let (words, later) = first-words (the_call n a b c d) (asks xs) w in
    let means = sound-means t s in
    let x : Step = step t n a b c d in
    rw s
    (ap (λ ys. said x.answer.code x.answer.outcome x.answer.value x.thread ∷ ys)
    (says-steps x.tables xs (step_typed t typed means n a b c d words) (means-sound x.tables (step-sound t typed means n a b c d words)) later))
says-steps t (look f ∷ xs) typed s w = ap (λ ys. saw (f t) ∷ ys) (says-steps t xs typed s w)

-- ---- several runs from the same tables
unfoldable pub said_by : Tables → List (List Line) → List (List Said)
said_by t [] = []
said_by t (ls ∷ rest) = steps_say t (calls ls) ∷ said_by t rest

abbrev pub answers_of : List (List Line) → List (List Said)
answers_of [] = []
answers_of (ls ∷ rest) = answers ls ∷ answers_of rest

unfoldable pub all_in_words : List (List Line) → Bool
all_in_words [] = true
all_in_words (ls ∷ rest) = in_words (asks (calls ls)) && all_in_words rest

head : List (List Said) → List Said
head [] = []
head (x ∷ xs) = x

tail : List (List Said) → List (List Said)
tail [] = []
tail (x ∷ xs) = xs

-- all runs at once: what two of them share is computed once
pub runs-by-steps : (t : Tables) (all : List (List Line))
    → Typed t → sound t ≡ true → all_in_words all ≡ true → said_by t all ≡ answers_of all → AllRun t all
unfolding said_by all_in_words head tail
runs-by-steps t [] typed s w e = tt
runs-by-steps t (ls ∷ rest) typed s w e =
    let (here, later) = (and-eq-true_iff (in_words (asks (calls ls))) (all_in_words rest)).0 w in
    (record { so = says-steps t (calls ls) typed s here ∙ ap head e }, runs-by-steps t rest typed s later (ap tail e))

-- what an example opens to be computed so
unfoldable pub steps : ℕ
unfolding computed steps_say in_words said_by all_in_words
steps = 0
