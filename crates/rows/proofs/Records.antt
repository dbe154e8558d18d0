-- Any table's row, stored word by word.
use Prim.Native.Nat.{ℕ, suc, ◌+◌, ◌*◌, ◌≤◌, ◌<◌}
use mathlib.Core.Path.{◌≡◌, refl, sym, ap, ◌∙◌}
use mathlib.Core.List.{List, [], ◌∷◌}
use native.Mathlib.Omega.{arith}
use lib.ListN.{set}
use lib.Seq.{sets}
use Rattle.rules.specs.Rows.{with_row}
use Rattle.rules_laws.proofs.Rows.{with_row-in, with_row-out}

-- ---- a row's words, stored one after the other, from word k on
abbrev pub stored : List ℕ → ℕ → ℕ → List ℕ → List ℕ
stored t at k [] = t
stored t at k (x ∷ xs) = stored (set t (at + k) x) at (suc k) xs

stored_is : (xs t : List ℕ) (at k : ℕ) → stored t at k xs ≡ sets t (at + k) xs
stored_is [] t at k = refl
stored_is (x ∷ xs) t at k =
    let e : at + suc k ≡ suc (at + k) = omega arith in
    stored_is xs (set t (at + k) x) at (suc k) ∙ ap (λ (n : ℕ). sets (set t (at + k) x) n xs) e

-- a whole row, over the width w and the number of rows n
module _ (w n : ℕ) (t : List ℕ) (i x : ℕ) (xs : List ℕ) where
  pub row_put : i < n → stored (set t (i * w) x) (i * w) 1 xs ≡ with_row w n t i (x ∷ xs)
  row_put h =
      let e : i * w + 1 ≡ suc (i * w) = omega arith in
      stored_is xs (set t (i * w) x) (i * w) 1 ∙ ap (λ (m : ℕ). sets (set t (i * w) x) m xs) e ∙ sym (with_row-in w n t i (x ∷ xs) h)

  pub row-none : n ≤ i → t ≡ with_row w n t i (x ∷ xs)
  row-none h = sym (with_row-out w n t i (x ∷ xs) h)
