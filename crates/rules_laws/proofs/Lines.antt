-- Lines, by their number: what each way to a line does to it, and that every other line stays.
use Prim.Native.Nat.{ℕ, ◌+◌, ◌*◌, ◌≤◌, ◌<◌}
use mathlib.Core.Path.{◌≡◌, sym, ap, ◌∙◌}
use mathlib.Core.Logic.{◌≢◌, ◌⊎◌, inl, inr, ⊎_elim}
use mathlib.Core.List.{List, []}
use native.Mathlib.Omega.{arith}
use borrow.Author.Tests.{lt-ltb, le-ltb}
use lib.ListN.{length}
use Rattle.basics.specs.Lists.{without, put_at}
use Rattle.basics.proofs.Laws.{lt-or-le, length-put_at, length_without}
use Rattle.rules.specs.Rows.{listed, with_listed}
use Rattle.rules.specs.Lines.{line, with_line, out_of, entered, line_count, line_most, line_width}
use Rattle.rules_laws.proofs.Rows.{by-range, row-end}
use Rattle.rules_laws.proofs.Listed.{listed_le, length-with_listed, listed-other, listed_same}

-- ---- in range and out of it
module _ (ls : List ℕ) (j : ℕ) where
  pub line-in : j < line_count → line ls j ≡ listed line_most ls (j * line_width)
  unfolding line
  line-in h = rw (lt-ltb j line_count h)

  pub line-out : line_count ≤ j → line ls j ≡ []
  unfolding line
  line-out h = rw (le-ltb j line_count h)

  pub line-le : length (line ls j) ≤ line_most
  line-le =
      by-range j line_count
      (λ h. omega (arith, ap length (line-in h), listed_le line_most ls (j * line_width)))
      (λ h. omega (arith, ap length (line-out h)))

  module _ (xs : List ℕ) where
    pub with_line-in : j < line_count → with_line ls j xs ≡ with_listed line_most ls (j * line_width) xs
    unfolding with_line
    with_line-in h = rw (lt-ltb j line_count h)

    pub with_line-out : line_count ≤ j → with_line ls j xs ≡ ls
    unfolding with_line
    with_line-out h = rw (le-ltb j line_count h)

    pub length-with_line : length (with_line ls j xs) ≡ length ls
    length-with_line =
        by-range j line_count
        (λ h. ap length (with_line-in h) ∙ length-with_listed line_most ls (j * line_width) xs)
        (λ h. ap length (with_line-out h))

-- ---- after a line is stored
module _ (ls : List ℕ) (j : ℕ) (xs : List ℕ) (short : length xs ≤ line_most) where
  pub line_same : j < line_count → length ls ≡ line_count * line_width → line (with_line ls j xs) j ≡ xs
  line_same h all =
      line-in (with_line ls j xs) j h
      ∙ ap (λ (l : List ℕ). listed line_most l (j * line_width)) (with_line-in ls j xs h)
      ∙ listed_same line_most ls (j * line_width) xs short (omega (arith, row-end line_width j line_count h))

  apart : (k : ℕ) → k ≢ j → (k * line_width + line_most < j * line_width) ⊎ (j * line_width + line_most < k * line_width)
  apart k n =
      ⊎_elim
      (λ (p : k < j). inl (omega (arith, row-end line_width k j p)))
      (λ (p : j ≤ k). inr (let q : j < k = omega arith in omega (arith, row-end line_width j k q)))
      (lt-or-le k j)

  pub line_other : (k : ℕ) → k ≢ j → line (with_line ls j xs) k ≡ line ls k
  line_other k n =
      by-range j line_count
      (λ h.
      by-range k line_count
      (λ p.
      line-in (with_line ls j xs) k p
      ∙ ap (λ (l : List ℕ). listed line_most l (k * line_width)) (with_line-in ls j xs h)
      ∙ listed-other line_most ls (j * line_width) xs short line_most (k * line_width) (apart k n)
      ∙ sym (line-in ls k p))
      (λ p. line-out (with_line ls j xs) k p ∙ sym (line-out ls k p)))
      (λ h. ap (λ (l : List ℕ). line l k) (with_line-out ls j xs h))

-- ---- leaving
pub left-length : (ls : List ℕ) (j x : ℕ) → length (without x (line ls j)) ≤ line_most
left-length ls j x = omega (arith, length_without x (line ls j), line-le ls j)

module _ (ls : List ℕ) (j x : ℕ) where
  pub length-left : length (out_of j x ls) ≡ length ls
  unfolding out_of
  length-left = length-with_line ls j (without x (line ls j))

  pub left-same : j < line_count → length ls ≡ line_count * line_width → line (out_of j x ls) j ≡ without x (line ls j)
  unfolding out_of
  left-same h all = line_same ls j (without x (line ls j)) (left-length ls j x) h all

  pub left_other : (k : ℕ) → k ≢ j → line (out_of j x ls) k ≡ line ls k
  unfolding out_of
  left_other k n = line_other ls j (without x (line ls j)) (left-length ls j x) k n

  pub left_out : line_count ≤ j → out_of j x ls ≡ ls
  unfolding out_of
  left_out h = with_line-out ls j (without x (line ls j)) h

-- ---- going in at a place
module _ (ls : List ℕ) (j x : ℕ) (place : List ℕ → ℕ) where
  pub entered-in : length (line ls j) < line_most → entered place j x ls ≡ with_line ls j (put_at (place (line ls j)) x (line ls j))
  unfolding entered
  entered-in h = rw (lt-ltb (length (line ls j)) line_most h)

  pub entered-full : line_most ≤ length (line ls j) → entered place j x ls ≡ ls
  unfolding entered
  entered-full h = rw (le-ltb (length (line ls j)) line_most h)

  pub length-entered : length (entered place j x ls) ≡ length ls
  length-entered =
      by-range (length (line ls j)) line_most
      (λ h. ap length (entered-in h) ∙ length-with_line ls j (put_at (place (line ls j)) x (line ls j)))
      (λ h. ap length (entered-full h))

  pub entered-same : j < line_count → length ls ≡ line_count * line_width → length (line ls j) < line_most
      → line (entered place j x ls) j ≡ put_at (place (line ls j)) x (line ls j)
  entered-same h all room =
      ap (λ (l : List ℕ). line l j) (entered-in room)
      ∙ line_same ls j (put_at (place (line ls j)) x (line ls j)) (omega (arith, length-put_at (place (line ls j)) x (line ls j))) h all

  pub entered-other : (k : ℕ) → k ≢ j → line (entered place j x ls) k ≡ line ls k
  entered-other k n =
      by-range (length (line ls j)) line_most
      (λ h.
      ap (λ (l : List ℕ). line l k) (entered-in h)
      ∙ line_other ls j (put_at (place (line ls j)) x (line ls j)) (omega (arith, length-put_at (place (line ls j)) x (line ls j))) k n)
      (λ h. ap (λ (l : List ℕ). line l k) (entered-full h))

  pub entered-out : line_count ≤ j → entered place j x ls ≡ ls
  entered-out h =
      by-range (length (line ls j)) line_most
      (λ p. entered-in p ∙ with_line-out ls j (put_at (place (line ls j)) x (line ls j)) h)
      (λ p. entered-full p)
