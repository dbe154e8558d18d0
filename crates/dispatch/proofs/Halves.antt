-- The highest of n and m more: that of the upper ones where there is one, else that of the lower ones.
use Prim.Native.Nat.{ℕ, ◌+◌, ◌-◌, ◌<◌, ◌≤◌}
use mathlib.Core.Path.{◌≡◌, sym, ap, ◌∙◌, fun_ext}
use mathlib.Core.Logic.{◌≢◌, ⊎_elim}
use mathlib.Core.Bool.{Bool}
use mathlib.Core.List.{List}
use native.Mathlib.Nat.{zero-add}
use native.Mathlib.Omega.{arith}
use borrow.Author.Tests.{eq-eqb, ne_eqb}
use Rattle.basics.specs.Find.{highest_below}
use Rattle.basics.proofs.Laws.{lt-or-le}
use Rattle.basics.proofs.Finds.{high_is, high_one}
use Rattle.rules.specs.Tables.{few_levels, most_levels, state, LEVELS, levels}
use Rattle.rules.specs.Lines.{anyone, ready_line}
use Rattle.rules.specs.Dispatch.{highest_ready}

-- from 0 on
pub from_zero : (n : ℕ) (f : ℕ → Bool) → highest_below n (λ p. f (0 + p)) ≡ highest_below n f
from_zero n f = ap (highest_below n) (fun_ext λ p. rw zero-add)

module _ (n m : ℕ) (f : ℕ → Bool) where
  abbrev upper : ℕ
  upper = highest_below m (λ p. f (n + p))

  pub high-upper : 0 < upper → highest_below (n + m) f ≡ n + upper
  high-upper some =
      let h = high_is m (λ p. f (n + p)) in
      high_one (n + m) f (highest_below (n + m) f) (n + upper) (high_is (n + m) f)
      record {
        high = omega (arith, h.high);
        has = λ _. let e : n + upper - 1 ≡ n + (upper - 1) = omega arith in rw e (h.has some);
        after = λ j low under. let e : n + (j - n) ≡ j = omega arith in rw e at (h.after (j - n) (omega arith) (omega arith));
      }

  pub high-lower : upper ≡ 0 → highest_below (n + m) f ≡ highest_below n f
  high-lower none =
      let h = high_is m (λ p. f (n + p)) in
      let l = high_is n f in
      high_one (n + m) f (highest_below (n + m) f) (highest_below n f) (high_is (n + m) f)
      record {
        high = omega (arith, l.high);
        has = l.has;
        after = λ j low under.
            ⊎_elim
            (λ (below : j < n). l.after j low below)
            (λ (above : n ≤ j). let e : n + (j - n) ≡ j = omega arith in rw e at (h.after (j - n) (omega (arith, none)) (omega arith)))
            (lt-or-le j n);
      }

-- ---- the ready queues: what is found from 0 on with the few levels; with the most in the upper half, or, where that is empty, from 0 on
abbrev From : List ℕ → ℕ → ℕ → Type 0
From ls from r = r ≡ highest_below few_levels (λ p. anyone ls (ready_line (from + p)))

module _ (st ls : List ℕ) where
  pub of-few : state st LEVELS ≢ most_levels → {r : ℕ} → From ls 0 r → r ≡ highest_ready (levels st) ls
  unfolding levels highest_ready
  of-few n e = rw (ne_eqb (state st LEVELS) most_levels n) (e ∙ from_zero few_levels (λ p. anyone ls (ready_line p)))

  module _ (most : state st LEVELS ≡ most_levels) {u : ℕ} (up : From ls few_levels u) where
    pub of-upper : u ≢ 0 → few_levels + u ≡ highest_ready (levels st) ls
    unfolding levels highest_ready
    of-upper n =
        let some : 0 < u = omega arith in
        rw (eq-eqb (state st LEVELS) most_levels most, up) (sym (high-upper few_levels few_levels (λ p. anyone ls (ready_line p)) (rw up at some)))

    pub of-lower : u ≡ 0 → {r : ℕ} → From ls 0 r → r ≡ highest_ready (levels st) ls
    unfolding levels highest_ready
    of-lower z e =
        let f : ℕ → Bool = λ p. anyone ls (ready_line p) in
        rw (eq-eqb (state st LEVELS) most_levels most) (e ∙ from_zero few_levels f ∙ sym (high-lower few_levels few_levels f (sym up ∙ z)))
