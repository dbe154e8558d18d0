-- An entry that leaves the whole answer leaves what demands 1 and 2 say of it.
use mathlib.Core.Path.{◌≡◌, refl, sym, subst, ◌∙◌}
use mathlib.Core.Bool.{Bool, true, false}
use Rattle.rules.specs.Tables.{Typed}
use Rattle.rules.specs.Answer.{answer, Words}
use Rattle.rules.specs.Sound.{Sound, sound}
use Rattle.rules.specs.Step.{step_of, call}
use Rattle.rules.proofs.Agree.{sound-means, means-sound}
use Rattle.rules.specs.declared.Tables.{Tables}
use Rattle.rules.specs.declared.Step.{Step}
use Rattle.rules.specs.declared.Thread.TheVariants.{Task}
use Rattle.runs.specs.Run.{made}
use Rattle.demands.specs.One.{Answered, thread_of}
use Rattle.demands.specs.Two.{Kept}
use Rattle.demands.specs.Promised.{Promised}
use Rattle.demands.proofs.One.{demand-1}
use Rattle.demands.proofs.Two.{demand-2}
use Rattle.rules.specs.declared.Call.{Call}

pub promised : (t : Tables) (q : Call) {s : Step} → s ≡ made t q → (Sound t → Typed t × Words q) → Promised t q s
promised t q e types =
    record {
      whole = e;
      answered = subst (λ (x : Step). Answered t q x) (sym e) (demand-1 t q);
      kept = λ given.
          let s : Sound t = search in
          subst (λ (x : Step). Kept t q x) (sym e) (demand-2 t (types s).0 s q (types s).1);
      types = types;
    }

-- what is put together anew is the same
pub promised-same : {t : Tables} {q : Call} {r s : Step} → r ≡ s → Promised t q s → Promised t q r
promised-same {t} {q} e p = subst (λ (x : Step). Promised t q x) (sym e) p

either : {P : Type 0} (b : Bool) → (b ≡ true → P) → (b ≡ false → P) → P
either true p q = p refl
either false p q = q refl

-- the thread that a call answers is the one that runs in what it left
pub thread-is : (t : Tables) (q : Call) {s : Step} → Promised t q s → s.thread ≡ thread_of s.tables
unfolding call
thread-is t q {s} p =
    either (sound t)
    (λ e. let k = p.kept (sound-means t e) in k.thread ∙ rw (means-sound s.tables k.sound))
    (λ e. let is : s ≡ step_of t (answer 10 0 0) (Task 0) = p.whole ∙ rw e in rw (is, e))
