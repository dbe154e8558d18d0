-- Every log of version 2 has a version 1 twin: the log with its versions 2 and 1 exchanged, place by place.
use Prim.Native.Nat.{ℕ, zero, suc, ◌+◌, ◌%◌}
use mathlib.Core.Path.{◌≡◌, refl, ap, ◌∙◌}
use mathlib.Core.Logic.{◌≢◌, ◌↔◌, ⊎_elim}
use mathlib.Core.Bool.{cond as if}
use mathlib.Core.List.{List, [], ◌∷◌}
use native.Mathlib.Omega.{arith}
use borrow.Author.Tests.{eq-eqb, ne_eqb}
use lib.Dec.{eqb}
use lib.ListN.{length, get_or}
use Rattle.basics.proofs.Laws.{same?}
use Rattle.rules.specs.Log.{record_bytes, version_byte}
use Rattle.rules_laws.proofs.Calls.{chosen}
use Rattle.log_twins.specs.Twin.{exchanged, twin_from, HasTwin}

-- what the twin has at a place of the log where the log has x
abbrev twin_at : ℕ → ℕ → ℕ
twin_at place x = if (eqb (place % record_bytes) version_byte) (exchanged x) x

twin-long : (place : ℕ) (s : List ℕ) → length (twin_from place s) ≡ length s
unfolding twin_from
twin-long place [] = refl
twin-long place (x ∷ xs) = ap suc (twin-long (suc place) xs)

-- past its end a log has 0, and so has its twin
twin-has : (place : ℕ) (s : List ℕ) (i : ℕ) → get_or (twin_from place s) i 0 ≡ twin_at (place + i) (get_or s i 0)
unfolding twin_from
twin-has place [] i = chosen (λ (y : ℕ). 0 ≡ y) (eqb ((place + i) % record_bytes) version_byte) _ _ (λ _. refl) (λ _. refl)
twin-has place (x ∷ xs) zero = let e : place + 0 ≡ place = omega arith in rw e
twin-has place (x ∷ xs) (suc i) = let e : place + suc i ≡ suc place + i = omega arith in rw e (twin-has (suc place) xs i)

exchanged-one : (v : ℕ) → (v ≡ 2) ↔ (exchanged v ≡ 1)
exchanged-one v = (λ two. rw two, λ one. ⊎_elim (λ two. two) (λ other. absurd (neither other one)) (same? v 2))
  where
    neither : v ≢ 2 → exchanged v ≡ 1 → ⊥
    neither other one =
        let rest : if (eqb v 1) 2 v ≡ 1 = rw (ne_eqb v 2 other) at one in
        ⊎_elim
        (λ (e : v ≡ 1). let two : 2 ≡ 1 = rw (eq-eqb v 1 e) at rest in omega arith)
        (λ (n : v ≢ 1). n (rw (ne_eqb v 1 n) at rest))
        (same? v 1)

module _ (s : List ℕ) (i : ℕ) where
  here : get_or (twin_from 0 s) i 0 ≡ twin_at i (get_or s i 0)
  here = let e : 0 + i ≡ i = omega arith in rw e at (twin-has 0 s i)

  version-exchanged : i % record_bytes ≡ version_byte → get_or (twin_from 0 s) i 0 ≡ exchanged (get_or s i 0)
  version-exchanged e = here ∙ rw (eq-eqb (i % record_bytes) version_byte e)

  others_same : i % record_bytes ≢ version_byte → get_or (twin_from 0 s) i 0 ≡ get_or s i 0
  others_same n = here ∙ rw (ne_eqb (i % record_bytes) version_byte n)

pub has-twin : HasTwin
has-twin s two =
    record {
      long = twin-long 0 s;
      begins = two;
      versions = λ i e. rw (version-exchanged s i e) (exchanged-one (get_or s i 0));
      others = others_same s;
    }
