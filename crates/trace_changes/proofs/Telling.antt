-- The laws of telling numbers: nothing, one, some after others; a loop that tells of each number below a bound; parts behind their bars.
use Prim.Native.Nat.{ℕ, zero, suc, ◌+◌, ◌≤◌, ◌<◌}
use mathlib.Core.Path.{◌≡◌, refl, sym, ◌∙◌}
use mathlib.Core.List.{List, [], ◌∷◌, ◌++◌, append_assoc, append-nil}
use native.Mathlib.Numerals.{add-one}
use native.Mathlib.Nat.{le_antisymm}
use native.Mathlib.Omega.{arith}
use lib.ListN.{length, take, get_or}
use lib.Seq.{take_all, take-suc}
use Rattle.rules.specs.Text.{decimal, space}
use Rattle.text.specs.Put.{Put}
use Rattle.text.proofs.Puts.{put-none, put-more}
use Rattle.trace_changes.specs.Numbers.{columns, each_below}
use Rattle.trace_changes.specs.Line.{bar, barred}

pub columns-append : (xs ys : List ℕ) → columns (xs ++ ys) ≡ columns xs ++ columns ys
unfolding columns
columns-append [] ys = refl
columns-append (x ∷ xs) ys = rw (columns-append xs ys) (sym (append_assoc (decimal x ++ space) (columns xs) (columns ys)))

pub tells_none : (xs : List ℕ) (at : ℕ) → Put xs at (columns []) xs at
unfolding columns
tells_none xs at = put-none _ xs at

module _ {xs ys : List ℕ} {at r : ℕ} where
  pub tells-one : (n : ℕ) → Put xs at (decimal n ++ space) ys r → Put xs at (columns (n ∷ [])) ys r
  unfolding columns
  tells-one n p = rw (append-nil (decimal n ++ space)) p

  pub tells_more : (a b : List ℕ) {zs : List ℕ} {q : ℕ} → Put xs at (columns a) ys r → Put ys r (columns b) zs q → Put xs at (columns (a ++ b)) zs q
  tells_more a b p s = rw (columns-append a b) (put-more p s)

-- ---- a loop that has told of each number below i
module _ (f : ℕ → List ℕ) {xs : List ℕ} {at : ℕ} where
  pub each_none : Put xs at (columns (each_below 0 f)) xs at
  unfolding each_below
  each_none = tells_none xs at

  module _ (i : ℕ) {ys : List ℕ} {r : ℕ} (told : Put xs at (columns (each_below i f)) ys r) where
    pub each_next : {zs : List ℕ} {q : ℕ} → Put ys r (columns (f i)) zs q → Put xs at (columns (each_below (i + 1) f)) zs q
    unfolding each_below
    each_next p = rw add-one (tells_more (each_below i f) (f i) told p)

    pub each-end : (n : ℕ) → i ≤ n → n ≤ i → Put xs at (columns (each_below n f)) ys r
    each-end n l m = rw (le_antisymm l m) at told

-- ---- a list, told member by member
each-front : (l : List ℕ) (k : ℕ) → k ≤ length l → each_below k (λ m. get_or l m 0 ∷ []) ≡ take k l
unfolding each_below
each-front l zero h = refl
each-front l (suc k) h = rw (each-front l k (omega arith), take-suc l k 0 (omega arith))

pub each_member : (l : List ℕ) → each_below (length l) (λ m. get_or l m 0 ∷ []) ≡ l
each_member l = each-front l (length l) (omega arith) ∙ take_all (length l) l (omega arith)

-- ---- parts, each behind a bar
barred-append : (ps qs : List (List ℕ)) → barred (ps ++ qs) ≡ barred ps ++ barred qs
unfolding barred
barred-append [] qs = refl
barred-append (p ∷ ps) qs = rw (barred-append ps qs) (simp append_assoc)

module _ {xs ys zs : List ℕ} {at r q : ℕ} where
  pub part-first : (p : List ℕ) (ps : List (List ℕ)) {ws : List ℕ} {s : ℕ} → Put xs at bar ys r → Put ys r (columns p) zs q → Put zs q (barred ps) ws s
      → Put xs at (barred (p ∷ ps)) ws s
  unfolding barred
  part-first p ps b t rest = put-more b (put-more t rest)

  pub part-last : (p : List ℕ) → Put xs at bar ys r → Put ys r (columns p) zs q → Put xs at (barred (p ∷ [])) zs q
  unfolding barred
  part-last p b t = part-first p [] b t (put-none _ zs q)

  pub parts_more : (ps qs : List (List ℕ)) → Put xs at (barred ps) ys r → Put ys r (barred qs) zs q → Put xs at (barred (ps ++ qs)) zs q
  parts_more ps qs p s = rw (barred-append ps qs) (put-more p s)

-- ---- numbers by a list of them
module _ (l : List ℕ) (i : ℕ) {xs ys : List ℕ} {at r : ℕ} where
  pub list_next : i < length l → Put xs at (columns (take i l)) ys r → {zs : List ℕ} {q : ℕ} → Put ys r (columns (get_or l i 0 ∷ [])) zs q
      → Put xs at (columns (take (i + 1) l)) zs q
  list_next h p s = rw (add-one, take-suc l i 0 h) (tells_more (take i l) (get_or l i 0 ∷ []) p s)

  pub list_end : length l ≤ i → Put xs at (columns (take i l)) ys r → Put xs at (columns l) ys r
  list_end h p = rw (take_all i l h) at p
