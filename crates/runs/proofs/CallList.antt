-- Laws of a list of calls: how long what it leaves is, what can be read there, and what is refused.
use Prim.Native.Nat.{ℕ, zero, suc, ◌+◌, ◌*◌, ◌/◌, ◌<◌, ◌≤◌}
use mathlib.Core.Path.{◌≡◌, refl, sym, ap, ◌∙◌}
use mathlib.Core.Bool.{true, false}
use mathlib.Core.List.{List, [], ◌∷◌, ◌++◌}
use native.Mathlib.Omega.{arith}
use lib.ListN.{length, get_or, drop, length-drop}
use lib.Seq.{sets, sets-eq, drop-cons}
use Rattle.rules.specs.Answer.{first_given}
use Rattle.rules.specs.Sound.{sound}
use Rattle.rules.specs.declared.Answer.{Answer}
use Rattle.rules.specs.declared.Tables.{Tables}
use Rattle.runs.specs.Run.{next}
use Rattle.runs.specs.CallList.{first_calls, calls_of, answers_to, words_of, answers_in, laid_out, bad_list, list_cases, all_made, nothing_done, hand_over}
use Rattle.rules.specs.declared.Call.{Call}

-- ---- the calls of a list
pub length-first : (n : ℕ) (ws : List ℕ) → length (first_calls n ws) ≡ n
unfolding first_calls
length-first zero ws = refl
length-first (suc n) ws = ap suc (length-first n (drop 5 ws))

five-words : (ws : List ℕ) → 5 ≤ length ws
    → ws ≡ get_or ws 0 0 ∷ get_or ws 1 0 ∷ get_or ws 2 0 ∷ get_or ws 3 0 ∷ get_or ws 4 0 ∷ drop 5 ws
five-words ws long =
    let word : (i : ℕ) → i < 5 → drop i ws ≡ get_or ws i 0 ∷ drop (suc i) ws = λ i inside. drop-cons ws i 0 (omega (arith, long, inside)) in
    word 0 (omega arith)
    ∙ ap (λ (l : List ℕ). get_or ws 0 0 ∷ l) (word 1 (omega arith))
    ∙ ap (λ (l : List ℕ). get_or ws 0 0 ∷ get_or ws 1 0 ∷ l) (word 2 (omega arith))
    ∙ ap (λ (l : List ℕ). get_or ws 0 0 ∷ get_or ws 1 0 ∷ get_or ws 2 0 ∷ l) (word 3 (omega arith))
    ∙ ap (λ (l : List ℕ). get_or ws 0 0 ∷ get_or ws 1 0 ∷ get_or ws 2 0 ∷ get_or ws 3 0 ∷ l) (word 4 (omega arith))

pub laid_out_lem : (n : ℕ) (ws : List ℕ) → length ws ≡ n * 5 → laid_out (first_calls n ws) ≡ ws
unfolding laid_out first_calls
laid_out_lem zero [] e = refl
laid_out_lem zero (w ∷ ws) e = absurd (omega (arith, e))
laid_out_lem (suc n) ws e =
    rw (laid_out_lem n (drop 5 ws) (omega (arith, length-drop 5 ws, e))) (sym (five-words ws (omega (arith, e))))

-- the words of calls are a list of these calls
pub length-laid-out : (qs : List Call) → length (laid_out qs) ≡ length qs * 5
unfolding laid_out
length-laid-out [] = refl
length-laid-out (q ∷ qs) = omega (arith, length-laid-out qs)

first-laid-out : (qs : List Call) → first_calls (length qs) (laid_out qs) ≡ qs
unfolding laid_out first_calls
first-laid-out [] = refl
first-laid-out (q ∷ qs) = ap (λ (l : List Call). q ∷ l) (first-laid-out qs)

pub calls-laid-out : (qs : List Call) → calls_of (laid_out qs) ≡ qs
calls-laid-out qs =
    let n : length (laid_out qs) / 5 ≡ length qs = omega (arith, length-laid-out qs) in
    rw n (first-laid-out qs)

-- ---- their answers
-- "Refused calls do not stop the rest.": each has one
pub length-answers : (t : Tables) (qs : List Call) → length (answers_to t qs) ≡ length qs
unfolding answers_to
length-answers t [] = refl
length-answers t (q ∷ qs) = ap suc (length-answers (next t q) qs)

pub length-words : (rs : List Answer) → length (words_of rs) ≡ length rs * 3
unfolding words_of
length-words [] = refl
length-words (r ∷ rs) = omega (arith, length-words rs)

-- what is read back of answers that were put in front of a list
read_back : (rs : List Answer) (rest : List ℕ) → answers_in (length rs) (words_of rs ++ rest) ≡ rs
unfolding answers_in words_of
read_back [] rest = refl
read_back (r ∷ rs) rest = ap (λ (l : List Answer). r ∷ l) (read_back rs rest)

-- the answers of calls stand in the room that is long enough, and can be read there
pub answers-stand : (t : Tables) (qs : List Call) (room : List ℕ) → length qs * 3 ≤ length room
    → answers_in (length qs) (sets room 0 (words_of (answers_to t qs))) ≡ answers_to t qs
answers-stand t qs room enough =
    let rs : List Answer = answers_to t qs in
    let long : length (words_of rs) ≡ length qs * 3 = length-words rs ∙ ap (λ (n : ℕ). n * 3) (length-answers t qs) in
    rw (sets-eq (words_of rs) room 0 (omega (arith, long, enough)), sym (length-answers t qs)) (read_back rs (drop (0 + length (words_of rs)) room))

-- ---- what is refused, and what is not
module _ (t : Tables) (ws room : List ℕ) where
  pub unsound-left : sound t ≡ false → hand_over t ws room ≡ nothing_done t room 10
  unfolding hand_over list_cases first_given
  unsound-left e = rw e

  pub bad-left : sound t ≡ true → bad_list (length ws) (length room) ≡ true → hand_over t ws room ≡ nothing_done t room 4
  unfolding hand_over list_cases first_given
  bad-left e bad = rw (e, bad)

  pub good_left : sound t ≡ true → bad_list (length ws) (length room) ≡ false → hand_over t ws room ≡ all_made t (calls_of ws) room
  unfolding hand_over list_cases first_given
  good_left e good = rw (e, good)
