-- Each call keeps sound tables sound, by demand 2.
use Prim.Native.Nat.{ℕ}
use mathlib.Core.Path.{◌≡◌, sym, subst, ◌∙◌}
use Rattle.rules.specs.Tables.{Typed}
use Rattle.rules.specs.Sound.{Sound, sound}
use Rattle.rules.specs.Step.{step, call}
use Rattle.rules.specs.declared.Tables.{Tables}
use Rattle.rules.specs.declared.Step.{Step}
use Rattle.rules.proofs.Agree.{means-sound}
use Rattle.demand_2_soundness.proofs.Keeps.{step_typed, step-sound}
use Rattle.kernel.specs.Quick.{quick_step}
use Rattle.kernel.specs.Safe.{Safe, Stepped}
use Rattle.kernel.proofs.Steps.{quick-is-step}
use Rattle.rules.specs.Answer.{Words}
use Rattle.rules.specs.declared.Call.{Call}

-- what is left by `step` on sound tables
pub stepped : (t : Tables) (q : Call) → Typed t → Words q → {s : Step} → s ≡ quick_step t q → Sound t → Stepped t q s
stepped t q typed w e sound =
    let is = e ∙ quick-is-step t q sound in
    let left : Safe (step t q.number q.a q.b q.c q.d).tables =
    record {
      typed = step_typed t typed sound q.number q.a q.b q.c q.d w;
      sound = step-sound t typed sound q.number q.a q.b q.c q.d w;
    } in
    record { is = is; safe = subst (λ (r : Step). Safe r.tables) (sym is) left; typed = typed; words = w }

-- on safe tables `step` is the call with its test
pub safe-call : (t : Tables) → Safe t → (number a b c d : ℕ) → step t number a b c d ≡ call t number a b c d
unfolding call
safe-call t s number a b c d = rw (means-sound t s.sound)
