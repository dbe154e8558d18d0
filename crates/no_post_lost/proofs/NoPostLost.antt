-- No post is lost: each call keeps the sum (`OneCall`), so calls one after the other do, from the last that set the count on; and fresh tables have no
-- semaphore, so that one that is there now was made.
use Prim.Native.Nat.{ℕ, ◌+◌, ◌*◌}
use mathlib.Core.Path.{◌≡◌, refl, sym, subst, ◌∙◌}
use mathlib.Core.Logic.{⊎_elim}
use mathlib.Core.Bool.{Bool, true, false}
use mathlib.Core.List.{List, [], ◌∷◌, ◌++◌, nil≢cons, head-eq_of_cons-eq, tail-eq_of_cons-eq}
use native.Mathlib.Omega.{arith}
use Rattle.basics.specs.Lists.{bit, zeros}
use Rattle.rules.specs.Tables.{Typed, semaphore_width, semaphore_count, semaphore, USED}
use Rattle.rules.specs.Fresh.{fresh_with, is_levels, made_fresh}
use Rattle.rules.specs.Sound.{Sound}
use Rattle.rules.specs.declared.Tables.{Tables}
use Rattle.rules.specs.declared.Step.{Step}
use Rattle.rules_laws.proofs.Calls.{chosen}
use Rattle.runs.specs.Run.{next, after, Each, AllWords}
use Rattle.rules_laws.proofs.Rows.{field_in, field_out, by-range}
use Rattle.rules_laws.proofs.Listed.{zero-at}
use Rattle.demand_3_turns.proofs.Made.{next-typed, next-sound}
use Rattle.demands.proofs.Two.{made-fresh-safe}
use Rattle.no_post_lost.specs.NoPostLost.{CallAndAnswer, history, how_many, sets_count, is_post, takes_unit, Counting, NoPostLost, NoPostLostFromFresh}
use Rattle.no_post_lost.proofs.LastSets.{last-or-none}
use Rattle.no_post_lost.proofs.OneCall.{count_now, answered, one-call, count_set}
use Rattle.rules.specs.declared.Call.{Call}

-- ---- calls of which none sets the count of s: it was a counting semaphore before them, and the sum is kept
pub record Lasts (t : Tables) (s : ℕ) (qs : List Call) : Type 0 where
  pub before : Counting s t
  pub even : count_now s t + how_many (is_post s) (history t qs) ≡ count_now s (after t qs) + how_many (takes_unit s) (history t qs)

-- where none of a list passes, its first does not, and none of the others
none_first : (b : Bool) (n : ℕ) → bit b + n ≡ 0 → (b ≡ false) × (n ≡ 0)
none_first true n z = absurd (omega arith)
none_first false n z = (refl, omega (arith, z))

pub lasts : (t : Tables) → Typed t → Sound t → (s : ℕ) (qs : List Call) → AllWords t qs → how_many (sets_count s) (history t qs) ≡ 0
    → Counting s (after t qs) → Lasts t s qs
unfolding Each after history how_many
lasts t typed sound s [] words none now = record { before = now; even = refl }
lasts t typed sound s (q ∷ qs) (word, words) none now =
    let (not_set, later) = none_first (sets_count s (answered t q)) _ none in
    let rest = lasts (next t q) (next-typed t typed sound q word) (next-sound t typed sound q word) s qs words later now in
    let here = one-call t typed sound s q not_set rest.before in
    record { before = here.before; even = omega (arith, here.even, rest.even) }

-- ---- calls with the last that sets the count of s among them: the count is set there, and the sum is kept from there on
module _ (s : ℕ) (set : CallAndAnswer) (since : List CallAndAnswer) (sets : sets_count s set ≡ true) (last : how_many (sets_count s) since ≡ 0) where
  balanced : (before : List CallAndAnswer) (t : Tables) → Typed t → Sound t → (qs : List Call) → AllWords t qs → Counting s (after t qs)
      → history t qs ≡ before ++ (set ∷ since)
      → set.asked.b + how_many (is_post s) since ≡ count_now s (after t qs) + how_many (takes_unit s) since
  unfolding Each after history
  balanced [] t typed sound [] words now e = absurd (nil≢cons e)
  balanced [] t typed sound (q ∷ qs) (word, words) now e =
      let here : answered t q ≡ set = head-eq_of_cons-eq e in
      let later : history (next t q) qs ≡ since = tail-eq_of_cons-eq e in
      let l = lasts (next t q) (next-typed t typed sound q word) (next-sound t typed sound q word) s qs words (rw later last) now in
      let c = count_set t typed sound s q (subst (λ (x : CallAndAnswer). sets_count s x ≡ true) (sym here) sets) in
      subst (λ (x : CallAndAnswer). x.asked.b + how_many (is_post s) since ≡ count_now s (after (next t q) qs) + how_many (takes_unit s) since) here
      (rw (c, later) at l.even)
  balanced (p ∷ ps) t typed sound [] words now e = absurd (nil≢cons e)
  balanced (p ∷ ps) t typed sound (q ∷ qs) (word, words) now e =
      balanced ps (next t q) (next-typed t typed sound q word) (next-sound t typed sound q word) qs words now (tail-eq_of_cons-eq e)

pub no-post-lost : NoPostLost
no-post-lost t typed sound qs words s now x =
    balanced s x.call x.since x.sets (omega (arith, x.none_since)) x.before t typed sound qs words now x.split

-- ---- from fresh tables on
none-used : (s : ℕ) → semaphore (zeros (semaphore_count * semaphore_width)) s USED ≡ 0
none-used s =
    by-range s semaphore_count
    (λ inside.
    field_in semaphore_width semaphore_count (zeros (semaphore_count * semaphore_width)) s USED inside (omega arith)
    ∙ zero-at (semaphore_count * semaphore_width) (s * semaphore_width + USED))
    (λ past. field_out semaphore_width semaphore_count (zeros (semaphore_count * semaphore_width)) s USED past)

none-fresh : (n s : ℕ) → semaphore (made_fresh n).tables.semaphores s USED ≡ 0
unfolding made_fresh fresh_with
none-fresh n s =
    chosen (λ (x : Step). semaphore x.tables.semaphores s USED ≡ 0) (is_levels n) _ _ (λ _. none-used s) (λ _. none-used s)

pub no-post-lost-from-fresh : NoPostLostFromFresh
no-post-lost-from-fresh n qs words s now =
    let t : Tables = (made_fresh n).tables in
    let (typed, sound) = made-fresh-safe n in
    ⊎_elim
    (λ x. (x, no-post-lost t typed sound qs words s now x))
    (λ none. absurd ((lasts t typed sound s qs words none now).before.used (none-fresh n s)))
    (last-or-none s (history t qs))
