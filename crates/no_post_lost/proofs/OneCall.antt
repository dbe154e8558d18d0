-- One call on sound tables, whatever it is and whatever was answered: a refused one is no post, takes nothing and leaves the tables as they were; an
-- accepted one leaves its effect (`SemaphoreCalls`), since dispatch after it changes no semaphore.
use Prim.Native.Nat.{ℕ, ◌+◌}
use mathlib.Core.Path.{◌≡◌, sym, ap, ◌∙◌}
use mathlib.Core.Bool.{true, false, false≢true, and-false}
use native.Mathlib.Omega.{arith}
use lib.Dec.{eqb}
use borrow.Author.Tests.{ne_eqb}
use Rattle.basics.specs.Lists.{bit}
use Rattle.rules.specs.Tables.{Typed}
use Rattle.rules.specs.Sound.{Sound}
use Rattle.rules.specs.declared.Tables.{Tables}
use Rattle.runs.specs.Run.{made, next}
use Rattle.demand_3_turns.proofs.Made.{Accepted, Refused, by_answer, semaphores-after}
use Rattle.no_post_lost.specs.NoPostLost.{CallAndAnswer, sets_count, is_post, takes_unit, Counting}
use Rattle.demand_2_soundness.proofs.Standing.{task-0-never-waits}
use Rattle.no_post_lost.proofs.SemaphoreCalls.{count_in, holds, set_to}
use Rattle.rules.specs.declared.Call.{Call}

-- the count of s in these tables
abbrev pub count_now : ℕ → Tables → ℕ
count_now s t = count_in s t.semaphores

-- call q on tables t, with its answer
abbrev pub answered : Tables → Call → CallAndAnswer
answered t q = record { asked = q; answer = (made t q).answer }

module _ (t : Tables) (typed : Typed t) (sound : Sound t) (s : ℕ) (q : Call) where
  -- s was a counting semaphore before the call, and its count plus the post equals its count afterwards plus the unit taken
  pub record Kept : Type 0 where
    pub before : Counting s t
    pub even : count_now s t + bit (is_post s (answered t q)) ≡ count_now s (next t q) + bit (takes_unit s (answered t q))

  -- ---- "refused calls count nowhere"
  module _ (back : Refused t q) where
    not-accepted : eqb (made t q).answer.code 0 ≡ false
    not-accepted = ne_eqb (made t q).answer.code 0 back.code

    sets-none : sets_count s (answered t q) ≡ false
    sets-none = simp (not-accepted, and-false)

    as_many : bit (is_post s (answered t q)) ≡ bit (takes_unit s (answered t q))
    as_many = simp (not-accepted, and-false)

    refused-kept : Counting s (next t q) → Kept
    refused-kept now =
        let same : count_now s (next t q) ≡ count_now s t = ap (λ (u : Tables). count_now s u) back.next in
        record { before = rw back.next at now; even = omega (arith, same, as_many) }

  -- ---- an accepted call
  accepted-kept : Accepted t q → sets_count s (answered t q) ≡ false → Counting s (next t q) → Kept
  accepted-kept ok not_set now =
      let same = semaphores-after t q ok in
      let k =
      holds t typed (task-0-never-waits t sound) s q.a q.b q.c q.d q.number ok.cases
      (rw ok.answer at not_set) (rw same at now.used, rw same at now.kind) in
      record { before = record { used = k.before.0; kind = k.before.1 }; even = rw (ok.answer, same) k.even }

  pub one-call : sets_count s (answered t q) ≡ false → Counting s (next t q) → Kept
  one-call not_set now = by_answer t sound q (λ back. refused-kept back now) (λ ok. accepted-kept ok not_set now)

  -- ---- a creation or an accepted reset of s sets its count
  pub count_set : sets_count s (answered t q) ≡ true → count_now s (next t q) ≡ q.b
  count_set e =
      by_answer t sound q
      (λ back. absurd (false≢true (sym (sets-none back) ∙ e)))
      (λ ok.
      rw (semaphores-after t q ok)
      (set_to t typed (task-0-never-waits t sound) s q.a q.b q.c q.d q.number ok.cases (rw ok.answer at e)))
