-- The test of soundness, and what follows it: sound tables get 01's step, all others code 10 and no change.
use mathlib.Core.Path.{◌≡◌, sym, ◌∙◌}
use mathlib.Core.Bool.{Bool, true, false, not, true≢false}
use borrow.Author.Tests.{not-true, not-false}
use Rattle.rules.specs.Answer.{answer, Words}
use Rattle.rules.specs.Tables.{Typed}
use Rattle.rules.specs.Sound.{Sound, sound}
use Rattle.rules.specs.Step.{step_of, step, call}
use Rattle.rules.proofs.Agree.{sound-means, means-sound}
use Rattle.rules.specs.declared.Answer.{Answer}
use Rattle.rules.specs.declared.Step.{Step}
use Rattle.rules.specs.declared.Tables.{Tables}
use Rattle.rules.specs.declared.Thread.{Thread}
use Rattle.rules.specs.declared.Thread.TheVariants.{Task}
use Rattle.rules.specs.declared.Call.{Call}
use Rattle.runs.specs.Run.{made}
use Rattle.kernel.specs.Safe.{Stepped}
use Rattle.demands.specs.Promised.{Promised}
use Rattle.demands.proofs.Promised.{promised}

module _ (t : Tables) {s : Bool} (is : s ≡ sound t) (q : Call) where
  tested-sound : not s ≡ false → sound t ≡ true
  tested-sound e = sym is ∙ not-false s e

  tested-unsound : not s ≡ true → sound t ≡ false
  tested-unsound e = sym is ∙ not-true s e

  types : {u : Step} → (Sound t → Stepped t q u) → Sound t → Typed t × Words q
  types made sound = ((made sound).typed, (made sound).words)

  call-sound : not s ≡ false → {u : Step} → u ≡ step t q.number q.a q.b q.c q.d → u ≡ made t q
  unfolding call
  call-sound e made-is = rw (tested-sound e) made-is

  call-unsound : not s ≡ true → {r : Answer} {x : Thread} → (r ≡ answer 10 0 0) × (x ≡ Task 0) → step_of t r x ≡ made t q
  unfolding call
  call-unsound e ten = rw (tested-unsound e, ten.0, ten.1)

  -- ---- what is promised, by the test
  pub promised-sound : not s ≡ false → {u : Step} → (Sound t → Stepped t q u) → Promised t q u
  promised-sound e step_is = promised t q (call-sound e (step_is (sound-means t (tested-sound e))).is) (types step_is)

  pub promised-unsound : not s ≡ true → {r : Answer} {x : Thread} → (r ≡ answer 10 0 0) × (x ≡ Task 0) → Promised t q (step_of t r x)
  promised-unsound e ten =
      promised t q (call-unsound e ten) (λ m. absurd (true≢false (sym (means-sound t m) ∙ tested-unsound e)))
