-- The laws of `PutIn`: nothing, one byte, one text after another; and a text that fits.
use Prim.Native.Nat.{ℕ, zero, suc, ◌+◌, ◌-◌, ◌/◌, ◌%◌, ◌≤◌, ◌<◌, min}
use mathlib.Core.Path.{◌≡◌, refl, sym, ap, ◌∙◌}
use mathlib.Core.Bool.{cond as if}
use mathlib.Core.List.{List, [], ◌∷◌, ◌++◌, append_assoc}
use native.Mathlib.Numerals.{sub-one}
use native.Mathlib.Nat.{sub-zero, add-zero}
use native.Mathlib.Omega.{arith}
use lib.Dec.{ltb}
use lib.ListN.{length, take, set, length-append, length-take}
use lib.Seq.{take_all, take-nil, drop-drop, sets-eq}
use borrow.Rule.Slice.PartMut.{put_mid}
use Rattle.std.proofs.lemmas.List.{take_min}
use borrow.Author.Tests.{lt-ltb, le-ltb}
use Rattle.basics.proofs.Runs.{sets-append}
use Rattle.rules.specs.Text.{digits, decimal, space, line_feed, thread_text, line_text, word_text}
use Rattle.rules.specs.declared.Answer.{Answer}
use Rattle.rules.specs.declared.Thread.{Thread}
use Rattle.text.specs.Put.{fitting, PutIn, Put}

take-both : (n : ℕ) (t u : List ℕ) → take n (t ++ u) ≡ take n t ++ take (n - length t) u
take-both n [] u = rw (sub-zero n, take-nil {A = ℕ} n)
take-both zero (x ∷ t) u = let e : 0 - suc (length t) ≡ 0 = omega arith in rw e
take-both (suc n) (x ∷ t) u =
    let e : suc n - suc (length t) ≡ n - length t = omega arith in rw e (ap (λ (l : List ℕ). x ∷ l) (take-both n t u))

module _ (size : ℕ) where
  -- what fits of two texts is what fits of the first, and what fits of the second behind it
  fitting-both : (at : ℕ) (t u : List ℕ) → fitting size at (t ++ u) ≡ fitting size at t ++ fitting size (at + length (fitting size at t)) u
  unfolding fitting
  fitting-both at t u =
      let e : size - at - length t ≡ size - (at + length (take (size - at) t)) = omega (arith, length-take (size - at) t) in
      take-both (size - at) t u ∙ ap (λ (n : ℕ). take (size - at) t ++ take n u) e

  -- a text that ends within the buffer fits
  pub fits : (at : ℕ) (t : List ℕ) → at + length t ≤ size → fitting size at t ≡ t
  unfolding fitting
  fits at t h = take_all (size - at) t (omega arith)

  past : (at : ℕ) (t : List ℕ) → size ≤ at → fitting size at t ≡ []
  unfolding fitting
  past at t h = let e : size - at ≡ 0 = omega arith in rw e

  none : (at : ℕ) → fitting size at [] ≡ []
  unfolding fitting
  none at = take-nil (size - at)

  -- ---- one text
  module _ (xs : List ℕ) (at : ℕ) where
    pub put-none : PutIn size xs at [] xs at
    put-none = record { bytes = rw (none at); end = rw (none at, add-zero at) }

    pub put_one : (b : ℕ) → at < size → PutIn size xs at (b ∷ []) (set xs at b) (at + 1)
    put_one b h =
        let e : fitting size at (b ∷ []) ≡ b ∷ [] = fits at (b ∷ []) (omega arith) in record { bytes = rw e; end = rw e }

    pub put-out : (t : List ℕ) → size ≤ at → PutIn size xs at t xs at
    put-out t h = record { bytes = rw (past at t h); end = rw (past at t h, add-zero at) }

-- ---- a text, and then another where it ends
module _ {size : ℕ} {xs ys zs : List ℕ} {at r q : ℕ} {t u : List ℕ} where
  pub put-more : PutIn size xs at t ys r → PutIn size ys r u zs q → PutIn size xs at (t ++ u) zs q
  put-more p s =
      record {
        bytes =
            s.bytes
            ∙ rw (p.bytes, p.end, fitting-both size at t u)
            (sym (sets-append (fitting size at t) (fitting size (at + length (fitting size at t)) u) xs at));
        end =
            s.end
            ∙ rw (p.end, fitting-both size at t u, length-append (fitting size at t) (fitting size (at + length (fitting size at t)) u)) (omega arith);
      }

-- ---- the digits
pub put-digits-none : (xs : List ℕ) (at k n : ℕ) → k ≡ 0 → Put xs at (digits k n) xs at
unfolding digits
put-digits-none xs at k n e = rw e (put-none 16384 xs at)

digits_step : (k n : ℕ) → (k ≡ 0 → ⊥) → digits k n ≡ if (ltb n 10) ((48 + n) ∷ []) (digits (k - 1) (n / 10) ++ ((48 + n % 10) ∷ []))
unfolding digits
digits_step zero n h = absurd (h refl)
digits_step (suc k) n h = rw sub-one

module _ {xs ys : List ℕ} {at r : ℕ} (k n : ℕ) (h : k ≡ 0 → ⊥) where
  pub put-digit : n < 10 → Put xs at ((48 + n) ∷ []) ys r → Put xs at (digits k n) ys r
  put-digit l p = rw (digits_step k n h, lt-ltb n 10 l) p

  pub put-digits-more : {zs : List ℕ} {q : ℕ} → 10 ≤ n → Put xs at (digits (k - 1) (n / 10)) zs q → Put zs q ((48 + n % 10) ∷ []) ys r
      → Put xs at (digits k n) ys r
  put-digits-more l p s = rw (digits_step k n h, le-ltb n 10 l) (put-more p s)

-- ---- a text copied, as much of it as has room
pub put_copied : (xs t ys : List ℕ) (at n k : ℕ) → at < length xs → n ≡ min (length t) (length xs - at) → k ≡ n → ys ≡ take n t
    → PutIn (length xs) xs at t (put_mid at k xs ys) (at + n)
unfolding fitting
put_copied xs t ys at n k room many count copied =
    let m : n ≡ min (length xs - at) (length t) = omega arith in
    let same : take n t ≡ take (length xs - at) t = rw m (take_min (length xs - at) t) in
    let long : length (take (length xs - at) t) ≡ n = omega (arith, length-take (length xs - at) t) in
    record {
      bytes =
          rw (copied, same, count, drop-drop n at xs)
          (rw (sets-eq (take (length xs - at) t) xs at (omega arith), long) (sym (append_assoc (take at xs) _ _)));
      end = rw long;
    }

-- ---- a line, by its columns
pub line-is : (n : ℕ) (r : Answer) (x : Thread)
    → (decimal n ++ space)
    ++ ((decimal r.code ++ space) ++ ((decimal r.outcome ++ space) ++ ((decimal r.value ++ space) ++ (thread_text x ++ line_feed))))
    ≡ line_text n r x ++ line_feed
unfolding line_text
line-is n r x = simp append_assoc

pub word-is : (w : List ℕ) (n : ℕ) → w ++ (space ++ (decimal n ++ line_feed)) ≡ word_text w n ++ line_feed
word-is w n = simp append_assoc
