-- A list's calls one after the other: what is made and what is left to make lead to the same end, call by call.
use Prim.{tt}
use Prim.Native.Nat.{ℕ, suc, ◌+◌, ◌-◌, ◌*◌, ◌/◌, ◌<◌, ◌≤◌}
use mathlib.Core.Path.{◌≡◌, refl, sym, ap, subst, ◌∙◌}
use mathlib.Core.List.{List, [], ◌∷◌}
use native.Mathlib.Omega.{arith}
use lib.Dec.{ltb}
use lib.ListN.{length, get_or, drop}
use lib.Seq.{sets, length-sets, drop-drop, get_or-drop}
use Rattle.rules.specs.Sound.{Sound}
use Rattle.rules.specs.Step.{call}
use Rattle.rules.proofs.Agree.{means-sound}
use Rattle.rules.specs.declared.Answer.{Answer}
use Rattle.rules.specs.declared.Step.{Step}
use Rattle.rules.specs.declared.Tables.{Tables}
use Rattle.rules_laws.proofs.Calls.{chosen}
use Rattle.runs.specs.Run.{ByType, made, after, Each}
use Rattle.runs.specs.CallList.{call_in, first_calls, calls_of, answers_to, words_of, call_words, calls_in, answer_words}
use Rattle.rules.specs.declared.Call.{Call}
use Rattle.kernel.specs.Safe.{Stepped}
use Rattle.call_lists.specs.CallLists.{call_at, answer_put}
use Rattle.call_lists.specs.Made.{ListMade}
use Rattle.call_lists.proofs.Leaves.{a_call, three-words}

-- ---- calls qs₀ from tables t₀ on, with this room: the first of them were made, and left t and out; qs are still to be made, the first of their answers at
-- word k. If they are, it is as if all had been made
pub record OnTheWay (t₀ : Tables) (qs₀ : List Call) (room : List ℕ) (t : Tables) (qs : List Call) (out : List ℕ) (k : ℕ) : Type 0 where
  pub tables : after t qs ≡ after t₀ qs₀
  pub answers : sets out k (words_of (answers_to t qs)) ≡ sets room 0 (words_of (answers_to t₀ qs₀))
  pub types : Each ByType t qs → Each ByType t₀ qs₀

module _ (t₀ : Tables) (qs₀ : List Call) (room : List ℕ) (t : Tables) (out : List ℕ) (k : ℕ) where
  pub one-made : (q : Call) (qs : List Call) → OnTheWay t₀ qs₀ room t (q ∷ qs) out k → ByType t q → {s : Step} {next : List ℕ} → s ≡ made t q
      → next ≡ sets out k (words_of (s.answer ∷ []))
      → (j : ℕ) → j ≡ k + answer_words → OnTheWay t₀ qs₀ room s.tables qs next j
  unfolding after answers_to words_of Each
  one-made q qs w typed is put j at =
      let three : k + answer_words ≡ suc (suc (suc k)) = omega arith in
      record {
        tables = rw is w.tables;
        answers = rw (put, is, at, three) w.answers;
        types = λ later. w.types (typed, rw is at later);
      }

  pub all_made : OnTheWay t₀ qs₀ room t [] out k → ListMade t₀ qs₀ room t out
  unfolding after answers_to words_of Each
  all_made w = record { tables = w.tables; answers = w.answers; types = w.types tt }

-- ---- the calls of a list from call i on
abbrev calls_from : List ℕ → ℕ → List Call
calls_from ws i = first_calls (calls_in (length ws) - i) (drop (i * call_words) ws)

-- the call in front of what is left is the one whose words begin there
in-front : (ws : List ℕ) (i : ℕ) → i < calls_in (length ws) → call_in (drop (i * call_words) ws) ≡ call_at ws i
in-front ws i inside =
    let word : (k : ℕ) → get_or (drop (i * call_words) ws) k 0 ≡ get_or ws (i * call_words + k) 0 = λ k. get_or-drop (i * call_words) ws k 0 in
    let none : i * call_words + 0 ≡ i * call_words = omega arith in
    rw (sym (a_call ws i inside), word 0, word 1, word 2, word 3, word 4, none)

calls-from : (ws : List ℕ) (i : ℕ) → i < calls_in (length ws) → calls_from ws i ≡ call_at ws i ∷ calls_from ws (i + 1)
unfolding first_calls
calls-from ws i inside =
    let one : calls_in (length ws) - i ≡ suc (calls_in (length ws) - (i + 1)) = omega arith in
    let five : i * call_words + call_words ≡ (i + 1) * call_words = omega arith in
    let rest : drop call_words (drop (i * call_words) ws) ≡ drop ((i + 1) * call_words) ws =
    drop-drop call_words (i * call_words) ws ∙ ap (λ (k : ℕ). drop k ws) five in
    rw (one, in-front ws i inside, rest)

calls_from_last : (ws : List ℕ) (i : ℕ) → calls_in (length ws) ≤ i → calls_from ws i ≡ []
unfolding first_calls
calls_from_last ws i past = let none : calls_in (length ws) - i ≡ 0 = omega arith in rw none

-- ---- what the loop over a list keeps, from tables t₀ on: i calls were made
pub record Making (ws : List ℕ) (t₀ : Tables) (room : List ℕ) (i : ℕ) (t : Tables) (out : List ℕ) : Type 0 where
  pub inside : i ≤ calls_in (length ws)
  pub space : length out ≡ length room
  pub sound : Sound t₀ → Sound t
  pub way : Sound t₀ → calls_in (length ws) * answer_words ≤ length room → OnTheWay t₀ (calls_of ws) room t (calls_from ws i) out (i * answer_words)

length-put : (out : List ℕ) (i : ℕ) (r : Answer) → length (answer_put out i r) ≡ length out
unfolding answer_put
length-put out i r =
    chosen (λ (l : List ℕ). length l ≡ length out) (ltb i (length out / answer_words)) _ _
    (λ _. length-sets out (i * answer_words) (words_of (r ∷ []))) (λ _. refl)

-- a call that `step` made on sound tables, as a call by itself
is_made : (t : Tables) (q : Call) {s : Step} → Sound t → Stepped t q s → s ≡ made t q
unfolding call
is_made t q sound p = p.is ∙ rw (means-sound t sound)

by-type : (t : Tables) (q : Call) {s : Step} → Stepped t q s → ByType t q
by-type t q p = (p.typed, p.words)

module _ (ws : List ℕ) (t₀ : Tables) (room : List ℕ) (i : ℕ) (t : Tables) (out : List ℕ) (l : Making ws t₀ room i t out) where
  pub one_more : i < calls_in (length ws) → (q : Call) → q ≡ call_at ws i → {s : Step} {next : List ℕ}
      → (Sound t → Stepped t q s) → next ≡ answer_put out i s.answer
      → Making ws t₀ room (i + 1) s.tables next
  one_more more q is {s} {next} step put =
      record {
        inside = omega arith;
        space = ap length put ∙ length-put out i s.answer ∙ l.space;
        sound = λ sound. (step (l.sound sound)).safe.sound;
        way = λ sound enough.
            let stepped = step (l.sound sound) in
            let fits : i < length out / answer_words = omega (arith, l.space, enough, more) in
            one-made t₀ (calls_of ws) room t out (i * answer_words) q (calls_from ws (i + 1))
            (subst (λ (qs : List Call). OnTheWay t₀ (calls_of ws) room t qs out (i * answer_words)) (rw (calls-from ws i more, is)) (l.way sound enough))
            (by-type t q stepped)
            (is_made t q (l.sound sound) stepped)
            (put ∙ sym (three-words out i s.answer fits))
            ((i + 1) * answer_words) (omega arith);
      }

  pub list-made : calls_in (length ws) ≤ i → Sound t₀ → calls_in (length ws) * answer_words ≤ length room → ListMade t₀ (calls_of ws) room t out
  list-made past sound enough =
      all_made t₀ (calls_of ws) room t out (i * answer_words)
      (subst (λ (qs : List Call). OnTheWay t₀ (calls_of ws) room t qs out (i * answer_words)) (calls_from_last ws i past) (l.way sound enough))
