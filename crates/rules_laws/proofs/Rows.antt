-- Fields and rows, over the width w, the number of rows n and any list: what is read after a write, in the same row and in another.
use Prim.Native.Nat.{ℕ, suc, ◌+◌, ◌*◌, ◌≤◌, ◌<◌}
use mathlib.Core.Path.{◌≡◌, sym, ap, ◌∙◌}
use mathlib.Core.Logic.{◌≢◌, ◌⊎◌, inl, inr, ⊎_elim}
use mathlib.Core.List.{List}
use native.Mathlib.Nat.{mul-le-mul_right, suc-mul}
use native.Mathlib.Omega.{arith}
use borrow.Author.Tests.{lt-ltb, le-ltb}
use lib.ListN.{length, get_or, set, length-set}
use lib.Seq.{sets, length-sets, get_or-set_same, get_or-set_other}
use Rattle.basics.proofs.Laws.{lt-or-le}
use Rattle.basics.proofs.Runs.{get_or-sets-out, get_or-sets-in}
use Rattle.rules.specs.Rows.{field, with_field, with_row}

-- ---- places: row i ends where row i + 1 starts
pub row-end : (w i n : ℕ) → i < n → i * w + w ≤ n * w
row-end w i n h = omega (arith, mul-le-mul_right {m = suc i} {n = n} w h, suc-mul i w)

pub place_other : (w i k f g : ℕ) → f < w → g < w → k ≢ i → k * w + g ≢ i * w + f
place_other w i k f g hf hg n e =
    ⊎_elim
    (λ (p : k < i). absurd (omega (arith, row-end w k i p)))
    (λ (p : i ≤ k). absurd (let m : i < k = omega arith in omega (arith, row-end w i k m)))
    (lt-or-le k i)

-- what holds in range and out of it holds
pub by-range : (i n : ℕ) {A : Type 0} → (i < n → A) → (n ≤ i → A) → A
by-range i n p q = ⊎_elim p q (lt-or-le i n)

-- ---- a field, in range and out of it
module _ (w n : ℕ) (t : List ℕ) (i f : ℕ) where
  pub field_in : i < n → f < w → field w n t i f ≡ get_or t (i * w + f) 0
  unfolding field
  field_in h q = rw (lt-ltb i n h, lt-ltb f w q)

  pub field_out : n ≤ i → field w n t i f ≡ 0
  unfolding field
  field_out h = rw (le-ltb i n h)

  pub field_past : w ≤ f → field w n t i f ≡ 0
  unfolding field
  field_past q = by-range i n (λ h. rw (lt-ltb i n h, le-ltb f w q)) (λ h. rw (le-ltb i n h))

  pub with_field-in : (x : ℕ) → i < n → f < w → with_field w n t i f x ≡ set t (i * w + f) x
  unfolding with_field
  with_field-in x h q = rw (lt-ltb i n h, lt-ltb f w q)

  pub with_field-out : (x : ℕ) → n ≤ i → with_field w n t i f x ≡ t
  unfolding with_field
  with_field-out x h = rw (le-ltb i n h)

  pub with_field-past : (x : ℕ) → w ≤ f → with_field w n t i f x ≡ t
  unfolding with_field
  with_field-past x q = by-range i n (λ h. rw (lt-ltb i n h, le-ltb f w q)) (λ h. rw (le-ltb i n h))

  -- who has a word other than 0 has a row
  pub row-used : field w n t i f ≢ 0 → i < n
  row-used u = by-range i n (λ h. h) (λ h. absurd (u (field_out h)))

-- ---- read after write
module _ (w n : ℕ) (t : List ℕ) (i f x : ℕ) where
  pub length-with_field : length (with_field w n t i f x) ≡ length t
  length-with_field =
      by-range i n
      (λ h. by-range f w (λ q. ap length (with_field-in w n t i f x h q) ∙ length-set t (i * w + f) x) (λ q. ap length (with_field-past w n t i f x q)))
      (λ h. ap length (with_field-out w n t i f x h))

  pub field-same : n * w ≤ length t → i < n → f < w → field w n (with_field w n t i f x) i f ≡ x
  field-same all h q =
      field_in w n (with_field w n t i f x) i f h q
      ∙ ap (λ (l : List ℕ). get_or l (i * w + f) 0) (with_field-in w n t i f x h q)
      ∙ get_or-set_same t (i * w + f) x 0 (omega (arith, row-end w i n h))

  -- a read at another place
  pub field_apart : (k g : ℕ) → (k < n → g < w → i < n → f < w → k * w + g ≢ i * w + f) → field w n (with_field w n t i f x) k g ≡ field w n t k g
  field_apart k g d =
      by-range k n
      (λ p.
      by-range g w
      (λ r.
      by-range i n
      (λ h.
      by-range f w
      (λ q.
      field_in w n (with_field w n t i f x) k g p r
      ∙ ap (λ (l : List ℕ). get_or l (k * w + g) 0) (with_field-in w n t i f x h q)
      ∙ get_or-set_other t (i * w + f) (k * w + g) x 0 (d p r h q)
      ∙ sym (field_in w n t k g p r))
      (λ q. ap (λ (l : List ℕ). field w n l k g) (with_field-past w n t i f x q)))
      (λ h. ap (λ (l : List ℕ). field w n l k g) (with_field-out w n t i f x h)))
      (λ r. field_past w n (with_field w n t i f x) k g r ∙ sym (field_past w n t k g r)))
      (λ p. field_out w n (with_field w n t i f x) k g p ∙ sym (field_out w n t k g p))

  -- another field of the row; another row
  pub field-other : (g : ℕ) → g ≢ f → field w n (with_field w n t i f x) i g ≡ field w n t i g
  field-other g d = field_apart i g (λ p r h q (e : i * w + g ≡ i * w + f). d (omega arith))

  pub field_row : (k g : ℕ) → k ≢ i → field w n (with_field w n t i f x) k g ≡ field w n t k g
  field_row k g d = field_apart k g (λ p r h q. place_other w i k f g q r d)

-- ---- a whole row
module _ (w n : ℕ) (t : List ℕ) (i : ℕ) (ws : List ℕ) where
  pub with_row-in : i < n → with_row w n t i ws ≡ sets t (i * w) ws
  unfolding with_row
  with_row-in h = rw (lt-ltb i n h)

  pub with_row-out : n ≤ i → with_row w n t i ws ≡ t
  unfolding with_row
  with_row-out h = rw (le-ltb i n h)

  pub length-with_row : length (with_row w n t i ws) ≡ length t
  length-with_row = by-range i n (λ h. ap length (with_row-in h) ∙ length-sets t (i * w) ws) (λ h. ap length (with_row-out h))

  -- a word of the row that was written; the words of the other rows
  pub row_same : n * w ≤ length t → length ws ≤ w → i < n → (f : ℕ) → f < length ws → field w n (with_row w n t i ws) i f ≡ get_or ws f 0
  row_same all fits h f q =
      field_in w n (with_row w n t i ws) i f h (omega arith)
      ∙ ap (λ (l : List ℕ). get_or l (i * w + f) 0) (with_row-in h)
      ∙ get_or-sets-in ws t (i * w) f (omega (arith, row-end w i n h)) (omega arith)

  pub row_other : length ws ≤ w → (k f : ℕ) → k ≢ i → field w n (with_row w n t i ws) k f ≡ field w n t k f
  row_other fits k f d =
      by-range k n
      (λ p.
      by-range f w
      (λ q.
      by-range i n
      (λ h.
      field_in w n (with_row w n t i ws) k f p q
      ∙ ap (λ (l : List ℕ). get_or l (k * w + f) 0) (with_row-in h)
      ∙ get_or-sets-out ws t (i * w) (k * w + f) (apart q)
      ∙ sym (field_in w n t k f p q))
      (λ h. ap (λ (l : List ℕ). field w n l k f) (with_row-out h)))
      (λ q. field_past w n (with_row w n t i ws) k f q ∙ sym (field_past w n t k f q)))
      (λ p. field_out w n (with_row w n t i ws) k f p ∙ sym (field_out w n t k f p))
    where
      apart : f < w → (k * w + f < i * w) ⊎ (i * w + length ws ≤ k * w + f)
      apart q =
          ⊎_elim
          (λ (p : k < i). inl (omega (arith, row-end w k i p)))
          (λ (p : i ≤ k). inr (let m : i < k = omega arith in omega (arith, row-end w i k m)))
          (lt-or-le k i)
