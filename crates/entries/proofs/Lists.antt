-- A list of calls on tables that were tested or not: each way through the code leaves what is promised of it.
use Prim.Native.Nat.{ℕ, ◌*◌, ◌≤◌}
use mathlib.Core.Path.{◌≡◌, sym, ap, ◌∙◌}
use mathlib.Core.Logic.{◌≢◌}
use mathlib.Core.Bool.{Bool, true, false, not}
use mathlib.Core.List.{List}
use native.Mathlib.Omega.{arith}
use borrow.Author.Tests.{not-true, not-false}
use lib.ListN.{length}
use Rattle.rules.specs.Answer.{answer}
use Rattle.rules.specs.Dispatch.{running}
use Rattle.rules.specs.Sound.{Sound, sound}
use Rattle.rules.proofs.Agree.{sound-means, means-sound}
use Rattle.rules.specs.declared.Answer.{Answer}
use Rattle.rules.specs.declared.Tables.{Tables}
use Rattle.rules.specs.declared.Thread.{Thread}
use Rattle.rules.specs.declared.Thread.TheVariants.{Task}
use Rattle.runs.specs.CallList.{calls_in, calls_of, answer_words, bad_list, Handed, handed, all_made, nothing_done, hand_over}
use Rattle.demands.specs.Lists.{PromisedList}
use Rattle.runs.proofs.CallList.{unsound-left, bad-left, good_left}
use Rattle.demands.proofs.Lists.{fits, promised-list}
use Rattle.call_lists.specs.Made.{ListMade}

module _ (t : Tables) (ws room : List ℕ) where
  -- ---- refused: the whole is what is left, and no call was made
  refused-list : (k : ℕ) → k ≢ 0 → hand_over t ws room ≡ nothing_done t room k → {s : Handed} → s ≡ nothing_done t room k → PromisedList t ws room s
  unfolding nothing_done
  refused-list k other left {s} e =
      promised-list t ws room (e ∙ sym left) (λ _ code. absurd (other (sym (ap (λ (h : Handed). h.answer.code) e) ∙ code)))

  pub of-unsound : {b : Bool} → not b ≡ true → {r : Answer} {x : Thread} → (r ≡ answer 10 0 0) × (x ≡ Task 0) → b ≡ sound t
      → PromisedList t ws room (handed t room r x)
  unfolding nothing_done
  of-unsound {b} tested (answered, runs) is =
      let not_sound : sound t ≡ false = sym is ∙ not-true b tested in
      refused-list 10 (λ e. omega (arith, e)) (unsound-left t ws room not_sound) (rw (answered, runs, not_sound))

  -- ---- on sound tables: refused with code 4, or accepted, and all calls were made
  module _ {b : Bool} (tested : not b ≡ false) {c : Bool} (test : c ≡ bad_list (length ws) (length room)) where
    is-sound : b ≡ sound t → Sound t
    is-sound is = sound-means t (sym is ∙ not-false b tested)

    pub of-bad : c ≡ true → {r : Answer} {x y : Thread} → x ≡ running t.lines t.state → (r ≡ answer 4 0 0) × (y ≡ x) → b ≡ sound t
        → PromisedList t ws room (handed t room r y)
    unfolding nothing_done
    of-bad bad runs (answered, same) is =
        let s = means-sound t (is-sound is) in
        refused-list 4 (λ e. omega (arith, e)) (bad-left t ws room s (sym test ∙ bad)) (rw (answered, same, runs, s))

    pub of-good : c ≡ false → {u : Tables} {out : List ℕ}
        → (Sound t → calls_in (length ws) * answer_words ≤ length room → ListMade t (calls_of ws) room u out)
        → {r : Answer} {x y : Thread} → x ≡ running u.lines u.state → (r ≡ answer 0 0 0) × (y ≡ x) → b ≡ sound t
        → PromisedList t ws room (handed u out r y)
    unfolding all_made
    of-good good all runs (answered, same) is =
        let f = fits ws room (sym test ∙ good) in
        let made = all (is-sound is) (omega (arith, f.multiple, f.space)) in
        promised-list t ws room
        (rw (answered, same, runs, made.tables, made.answers) (sym (good_left t ws room (means-sound t (is-sound is)) (sym test ∙ good))))
        (λ _ _. made.types)
