-- Laws of `all_below`, `first_below`, `highest_below`, `rising` and `all_of`: how a loop starts, goes on and ends, and what the result says.
use Prim.Native.Nat.{ℕ, zero, suc, ◌+◌, ◌-◌, ◌≤◌, ◌<◌}
use mathlib.Core.Path.{◌≡◌, refl, sym, ◌∙◌}
use mathlib.Core.Logic.{⊎_elim}
use mathlib.Core.Bool.{Bool, true, false, ◌&&◌, cond as if, true≢false, false≢true, and-eq-true_iff, and-true, and_assoc}
use mathlib.Core.List.{List, [], ◌∷◌}
use native.Mathlib.Numerals.{add-one}
use native.Mathlib.Omega.{arith}
use native.Mathlib.Nat.{le_antisymm, sub-zero, sub_self, eq-or-lt_of_le, le_of_suc-le-suc, zero-add}
use lib.ListN.{length, take, get_or}
use lib.Seq.{take_all}
use Rattle.basics.specs.Lists.{all_of}
use Rattle.basics.specs.Find.{all_below, first_from, first_below, highest_below, rising}

-- ---- all numbers below a bound
pub all_none : (f : ℕ → Bool) → all_below 0 f ≡ true
unfolding all_below
all_none f = refl

pub all_more : (f : ℕ → Bool) (i : ℕ) → all_below (i + 1) f ≡ (all_below i f && f i)
unfolding all_below
all_more f i = rw add-one

pub all-step : (f : ℕ → Bool) (i : ℕ) {a b : Bool} → a ≡ all_below i f → b ≡ f i → (a && b) ≡ all_below (i + 1) f
all-step f i p q = rw (p, q, all_more)

-- a loop that counts to n ends at n
pub all_end : (f : ℕ → Bool) {a : Bool} (i n : ℕ) → i ≤ n → n ≤ i → a ≡ all_below i f → a ≡ all_below n f
all_end f i n p q e = rw (le_antisymm p q) at e

-- what it says of each number
pub all-at : (f : ℕ → Bool) (n : ℕ) → all_below n f ≡ true → (i : ℕ) → i < n → f i ≡ true
unfolding all_below
all-at f zero e i l = absurd (omega arith)
all-at f (suc n) e i l =
    let both = (and-eq-true_iff (all_below n f) (f n)).0 e in
    ⊎_elim (λ (q : i ≡ n). rw q both.1) (λ (h : i < n). all-at f n both.0 i h) (eq-or-lt_of_le (le_of_suc-le-suc l))

pub all-make : (f : ℕ → Bool) (n : ℕ) → ((i : ℕ) → i < n → f i ≡ true) → all_below n f ≡ true
unfolding all_below
all-make f zero h = refl
all-make f (suc n) h = (and-eq-true_iff (all_below n f) (f n)).1 (all-make f n (λ i l. h i (omega arith)), h n (omega arith))

-- a loop that leaves at the first number that lacks f
pub all_yes : (f : ℕ → Bool) (i : ℕ) {b : Bool} → all_below i f ≡ true → b ≡ f i → b ≡ true → all_below (i + 1) f ≡ true
all_yes f i p q r = rw (all_more f i, p, ← q, r)

pub all-no : (f : ℕ → Bool) (n i : ℕ) {b : Bool} → i < n → b ≡ f i → b ≡ false → false ≡ all_below n f
all-no f n i l q r = go (all_below n f) refl
  where
    go : (t : Bool) → all_below n f ≡ t → false ≡ t
    go false e = refl
    go true e = absurd (false≢true (sym r ∙ (q ∙ all-at f n e i l)))

-- ---- the first: a search upwards has come to i, and the answer from there on is the whole answer, r
module _ (n : ℕ) (f : ℕ → Bool) (r : ℕ) where
  unfoldable pub Passed : ℕ → Type 0
  Passed i = first_from i (n - i) f ≡ r

  left : (i : ℕ) → i < n → n - i ≡ suc (n - (i + 1))
  left i l = omega arith

  pub first_goes : (i : ℕ) → i < n → f i ≡ false → Passed i → Passed (i + 1)
  unfolding Passed first_from
  first_goes i l e p = rw (left i l, e) at p

  pub first-here : (i : ℕ) → i < n → f i ≡ true → Passed i → i ≡ r
  unfolding Passed first_from
  first-here i l e p = rw (left i l, e) at p

  pub first-none : (i : ℕ) → n ≤ i → i ≤ n → Passed i → n ≡ r
  unfolding Passed first_from
  first-none i l m p = rw (le_antisymm m l, sub_self n) at p

pub first-starts : (n : ℕ) (f : ℕ → Bool) → Passed n f (first_below n f) 0
unfolding Passed first_below
first-starts n f = rw sub-zero

-- r is the first from s on that has f, or the end e where none has
pub record IsFirst (s e : ℕ) (f : ℕ → Bool) (r : ℕ) : Type 0 where
  pub low : s ≤ r
  pub high : r ≤ e
  pub has : r < e → f r ≡ true
  pub before : (j : ℕ) → s ≤ j → j < r → f j ≡ false

first-pick : (s k : ℕ) (f : ℕ → Bool) (b : Bool) → f s ≡ b → IsFirst (s + 1) (s + 1 + k) f (first_from (s + 1) k f)
    → IsFirst s (s + suc k) f (if b s (first_from (s + 1) k f))
first-pick s k f true e r = record { low = omega arith; high = omega arith; has = λ l. e; before = λ j a b. absurd (omega arith) }
first-pick s k f false e r =
    record {
      low = omega arith;
      high = omega arith;
      has = λ l. r.has (omega arith);
      before = λ j a b. ⊎_elim (λ (q : s ≡ j). rw (← q) e) (λ (g : s < j). r.before j (omega arith) b) (eq-or-lt_of_le a);
    }

pub first-is : (s k : ℕ) (f : ℕ → Bool) → IsFirst s (s + k) f (first_from s k f)
unfolding first_from
first-is s zero f = record { low = omega arith; high = omega arith; has = λ l. absurd (omega arith); before = λ j a b. absurd (omega arith) }
first-is s (suc k) f = first-pick s k f (f s) refl (first-is (s + 1) k f)

pub first-below-is : (n : ℕ) (f : ℕ → Bool) → IsFirst 0 n f (first_below n f)
unfolding first_below
first-below-is n f = rw zero-add at (first-is 0 n f)

-- ---- the highest: a search downwards has the numbers below i left, and the answer among those is the whole answer, r
pub high_goes : (f : ℕ → Bool) (i r : ℕ) → 0 < i → f (i - 1) ≡ false → highest_below i f ≡ r → highest_below (i - 1) f ≡ r
unfolding highest_below
high_goes f zero r l e p = absurd (omega arith)
high_goes f (suc j) r l e p =
    let q : suc j - 1 ≡ j = omega arith in
    let g : f j ≡ false = rw q at e in
    rw q (rw g at p)

pub high-here : (f : ℕ → Bool) (i r : ℕ) → 0 < i → f (i - 1) ≡ true → highest_below i f ≡ r → i ≡ r
unfolding highest_below
high-here f zero r l e p = absurd (omega arith)
high-here f (suc j) r l e p =
    let q : suc j - 1 ≡ j = omega arith in
    let g : f j ≡ true = rw q at e in
    rw g at p

pub high-none : (f : ℕ → Bool) (i r : ℕ) → i ≤ 0 → highest_below i f ≡ r → 0 ≡ r
unfolding highest_below
high-none f i r l p = let q : i ≡ 0 = omega arith in rw q at p

-- r is one more than a number that has f, with none from r on; or 0 where none below n has f
pub record IsHighest (n : ℕ) (f : ℕ → Bool) (r : ℕ) : Type 0 where
  pub high : r ≤ n
  pub has : 0 < r → f (r - 1) ≡ true
  pub after : (j : ℕ) → r ≤ j → j < n → f j ≡ false

high-pick : (n : ℕ) (f : ℕ → Bool) (b : Bool) → f n ≡ b → IsHighest n f (highest_below n f) → IsHighest (suc n) f (if b (suc n) (highest_below n f))
high-pick n f true e h =
    let q : suc n - 1 ≡ n = omega arith in
    record { high = omega arith; has = λ l. rw q e; after = λ j a b. absurd (omega arith) }
high-pick n f false e h =
    record {
      high = omega arith;
      has = h.has;
      after = λ j a b. ⊎_elim (λ (q : j ≡ n). rw q e) (λ (g : j < n). h.after j a g) (eq-or-lt_of_le (le_of_suc-le-suc b));
    }

pub high_is : (n : ℕ) (f : ℕ → Bool) → IsHighest n f (highest_below n f)
unfolding highest_below
high_is zero f = record { high = omega arith; has = λ l. absurd (omega arith); after = λ j a b. absurd (omega arith) }
high_is (suc n) f = high-pick n f (f n) refl (high_is n f)

-- there is one such
pub high_one : (n : ℕ) (f : ℕ → Bool) (r q : ℕ) → IsHighest n f r → IsHighest n f q → r ≡ q
high_one n f r q a b = le_antisymm (not-above r q a b) (not-above q r b a)
  where
    not-above : (r q : ℕ) → IsHighest n f r → IsHighest n f q → r ≤ q
    not-above r q a b =
        let g : q < r → ⊥ = λ l. true≢false (sym (a.has (omega arith)) ∙ b.after (r - 1) (omega arith) (omega arith)) in
        omega arith

-- ---- a step for each number, in rising order
module _ {A : Type 0} (f : A → ℕ → A) (x : A) where
  pub rising_none : rising 0 f x ≡ x
  unfolding rising
  rising_none = refl

  pub rising-more : (i : ℕ) → rising (i + 1) f x ≡ f (rising i f x) i
  unfolding rising
  rising-more i = rw add-one

  pub rising-end : {a : A} (i n : ℕ) → i ≤ n → n ≤ i → a ≡ rising i f x → a ≡ rising n f x
  rising-end i n p q e = rw (le_antisymm p q) at e

-- ---- every member of a list, by its place
pub all_of-none : (t : ℕ → Bool) (xs : List ℕ) → all_of t (take 0 xs) ≡ true
unfolding all_of
all_of-none t xs = refl

take_more : (t : ℕ → Bool) (xs : List ℕ) (k : ℕ) → k < length xs → all_of t (take (suc k) xs) ≡ (all_of t (take k xs) && t (get_or xs k 0))
unfolding all_of
take_more t [] k h = absurd (omega arith)
take_more t (y ∷ ys) zero h = and-true (t y)
take_more t (y ∷ ys) (suc k) h = rw (take_more t ys k (omega arith)) (sym (and_assoc (t y) (all_of t (take k ys)) (t (get_or ys k 0))))

pub all_of-take-more : (t : ℕ → Bool) (xs : List ℕ) (k : ℕ) → k < length xs
    → all_of t (take (k + 1) xs) ≡ (all_of t (take k xs) && t (get_or xs k 0))
all_of-take-more t xs k h = rw add-one (take_more t xs k h)

pub all_of-end : (t : ℕ → Bool) (xs : List ℕ) {a : Bool} (k : ℕ) → length xs ≤ k → a ≡ all_of t (take k xs) → a ≡ all_of t xs
all_of-end t xs k h e = rw (take_all k xs h) at e

pub all_of-at : (t : ℕ → Bool) (xs : List ℕ) → all_of t xs ≡ true → (k : ℕ) → k < length xs → t (get_or xs k 0) ≡ true
unfolding all_of
all_of-at t [] e k h = absurd (omega arith)
all_of-at t (y ∷ ys) e zero h = ((and-eq-true_iff (t y) (all_of t ys)).0 e).0
all_of-at t (y ∷ ys) e (suc k) h = all_of-at t ys ((and-eq-true_iff (t y) (all_of t ys)).0 e).1 k (omega arith)

pub all_of-make : (t : ℕ → Bool) (xs : List ℕ) → ((k : ℕ) → k < length xs → t (get_or xs k 0) ≡ true) → all_of t xs ≡ true
unfolding all_of
all_of-make t [] h = refl
all_of-make t (y ∷ ys) h = (and-eq-true_iff (t y) (all_of t ys)).1 (h 0 (omega arith), all_of-make t ys (λ k l. h (suc k) (omega arith)))
