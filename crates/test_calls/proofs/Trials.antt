-- What the comparison of both entries tells, put together from the comparison of each part.
use mathlib.Core.Path.{◌≡◌, sym, ap, ◌∙◌}
use mathlib.Core.Bool.{Bool}
use Rattle.rules.specs.Step.{step_of}
use Rattle.rules.specs.declared.Tables.{Tables}
use Rattle.rules.specs.declared.Step.{Step}
use Rattle.rules.specs.declared.Thread.{Thread}
use Rattle.rules.specs.declared.Call.{Call}
use Rattle.runs.specs.Run.{made}
use Rattle.demands.specs.One.{thread_of}
use Rattle.demands.specs.Promised.{Promised}
use Rattle.demands.proofs.Promised.{thread-is}
use Rattle.test_same.specs.Tells.{Tells}
use Rattle.test_same.proofs.Compared.{said-as}
use Rattle.test_calls.specs.Trial.{Left, Alike, BothWays}
use Rattle.test_calls.specs.declared.in_place.InPlace.{InPlace}

-- two steps are alike exactly where they are equal: the thread of each runs in what it left
same_step : (s m : Step) {running : Thread} → Alike s m running → s ≡ m
same_step s m ((((a, x), i), o), t) = ap (λ (u : Tables). step_of u s.answer s.thread) t ∙ rw (a, x)

pub both_ways : (t u : Tables) (q : Call) {s : Step} {left : InPlace} {b : Bool}
    → Promised t q s → Left u q left → Tells b (Alike s left.step left.running)
    → BothWays t u q (record { step = s; in_place = left.step; agrees = b })
both_ways t u q {s} {left} p i told =
    let whole = p.whole in
    let other = i.step.whole in
    record {
      step = whole;
      in_place = other;
      agrees =
          said-as
          (λ (h : Alike s left.step left.running). sym whole ∙ same_step s left.step h ∙ other)
          (λ (e : made t q ≡ made u q).
          let is : s ≡ left.step = whole ∙ e ∙ sym other in
          let runs = thread-is t q p in
          let running : s.thread ≡ left.running = runs ∙ ap (λ (m : Step). thread_of m.tables) is ∙ sym i.running in
          ((((ap (λ (m : Step). m.answer) is, ap (λ (m : Step). m.thread) is), running), runs), ap (λ (m : Step). m.tables) is))
          told;
    }
