-- Laws of `word_below`: it has no bit from n on; with the word of those that lack f it makes up all n bits; its leading zeros tell `highest_below`; bit p of it
-- tells whether p has f; a loop makes it from the top.
use Prim.Native.Nat.{ℕ, zero, suc, ◌+◌, ◌-◌, ◌*◌, ◌/◌, ◌%◌, ◌^◌, ◌≤◌, ◌<◌}
use mathlib.Core.Path.{◌≡◌, refl, ap, ◌∙◌}
use mathlib.Core.Bool.{Bool, true, false, not, ◌||◌, cond as if}
use native.Mathlib.Nat.{pow-suc, div-one, div-div-eq-div-mul}
use native.Mathlib.Omega.{arith}
use lib.Arith.{digits_div, digits_mod}
use lib.Count.{count_leading_zeros, leading_unique}
use lib.Dec.{eqb, lit≤, lit<}
use lib.Pow.{pow_mono}
use Rattle.basics.specs.Lists.{bit}
use Rattle.basics.specs.Find.{highest_below, word_below}
use Rattle.basics.proofs.Finds.{high_is}

-- ---- it has no bit from n on
under-step : (n w : ℕ) (b : Bool) → w < 2 ^ n → bit b * 2 ^ n + w < 2 ^ suc n
under-step n w true h = rw (pow-suc 2 n) (omega arith)
under-step n w false h = rw (pow-suc 2 n) (omega arith)

pub word-under : (n : ℕ) (f : ℕ → Bool) → word_below n f < 2 ^ n
unfolding word_below
word-under zero f = lit< tt
word-under (suc n) f = under-step n (word_below n f) (f n) (word-under n f)

-- with the word of those that lack f it makes up all n bits
rest-step : (n v w : ℕ) (b : Bool) → v + w + 1 ≡ 2 ^ n → bit (not b) * 2 ^ n + v + (bit b * 2 ^ n + w) + 1 ≡ 2 ^ suc n
rest-step n v w true h = rw (pow-suc 2 n) (omega arith)
rest-step n v w false h = rw (pow-suc 2 n) (omega arith)

word-rest : (n : ℕ) (f : ℕ → Bool) → word_below n (λ i. not (f i)) + word_below n f + 1 ≡ 2 ^ n
unfolding word_below
word-rest zero f = refl
word-rest (suc n) f = rest-step n (word_below n (λ i. not (f i))) (word_below n f) (f n) (word-rest n f)

pub word-others : (n : ℕ) (f : ℕ → Bool) → 2 ^ n - 1 - word_below n (λ i. not (f i)) ≡ word_below n f
word-others n f = let all = word-rest n f in omega arith

-- ---- its length is one more than the greatest number that has f
-- w has m bits, the top one set; 0 has none
record Long (w m : ℕ) : Type 0 where
  under : w < 2 ^ m
  over : 2 ^ m ≤ 2 * w + 1

long-step : (n m w : ℕ) (b : Bool) → w < 2 ^ n → Long w m → Long (bit b * 2 ^ n + w) (if b (suc n) m)
long-step n m w true h l = record { under = rw (pow-suc 2 n) (omega arith); over = rw (pow-suc 2 n) (omega arith) }
long-step n m w false h l = record { under = omega (arith, l.under); over = omega (arith, l.over) }

word-long : (n : ℕ) (f : ℕ → Bool) → Long (word_below n f) (highest_below n f)
unfolding word_below highest_below
word-long zero f = record { under = lit< tt; over = lit≤ tt }
word-long (suc n) f = long-step n (highest_below n f) (word_below n f) (f n) (word-under n f) (word-long n f)

-- so in a word of k bits its leading zeros tell that
pub leading-highest : (k n : ℕ) (f : ℕ → Bool) → n ≤ k → k - count_leading_zeros k (word_below n f) ≡ highest_below n f
leading-highest k n f l =
    let top = (high_is n f).high in
    let long = word-long n f in
    let zeros = leading_unique k (word_below n f) (k - highest_below n f) (highest_below n f) (omega arith) long.under long.over in
    omega arith

-- ---- its bits
-- the lowest bit stands apart; the rest is the word of the next numbers, one place up
low_step : (n w v : ℕ) (b c : Bool) → v ≡ w * 2 + bit c → bit b * 2 ^ suc n + v ≡ (bit b * 2 ^ n + w) * 2 + bit c
low_step n w v true c e = rw (pow-suc 2 n) (omega arith)
low_step n w v false c e = omega arith

word_low : (n : ℕ) (g : ℕ → Bool) → word_below (suc n) g ≡ word_below n (λ i. g (suc i)) * 2 + bit (g 0)
unfolding word_below
word_low zero g = omega arith
word_low (suc n) g = low_step n (word_below n (λ i. g (suc i))) (word_below (suc n) g) (g (suc n)) (g 0) (word_low n g)

bit-under : (b : Bool) → bit b < 2
bit-under true = lit< tt
bit-under false = lit< tt

pub word-bit : (n p : ℕ) (f : ℕ → Bool) → p < n → word_below n f / 2 ^ p % 2 ≡ bit (f p)
word-bit zero p f l = absurd (omega arith)
word-bit (suc n) zero f l = rw (word_low n f, div-one) (digits_mod (word_below n (λ i. f (suc i))) (bit-under (f 0)))
word-bit (suc n) (suc p) f l =
    let w = word_below n (λ i. f (suc i)) in
    let two : 2 ^ suc p ≡ 2 * 2 ^ p = rw (pow-suc 2 p) (omega arith) in
    let half : (w * 2 + bit (f 0)) / (2 * 2 ^ p) ≡ w / 2 ^ p = rw (← div-div-eq-div-mul (w * 2 + bit (f 0)) 2 (2 ^ p), digits_div w (bit-under (f 0))) in
    rw (word_low n f, two, half) (word-bit n p (λ i. f (suc i)) (omega arith))

-- ---- a loop makes it from the top: come down to p, it has the bits p to n - 1, p places lower
pub record Made (n : ℕ) (f : ℕ → Bool) (p w : ℕ) : Type 0 where
  pub inside : p ≤ n
  pub word : w ≡ word_below (n - p) (λ i. f (p + i))

word_same : (n : ℕ) (f g : ℕ → Bool) → ((i : ℕ) → f i ≡ g i) → word_below n f ≡ word_below n g
unfolding word_below
word_same zero f g e = refl
word_same (suc n) f g e = rw (e n, word_same n f g e)

pub made_none : (n : ℕ) (f : ℕ → Bool) → Made n f n 0
unfolding word_below
made_none n f = let e : n - n ≡ 0 = omega arith in record { inside = omega arith; word = rw e }

pub made_more : (n : ℕ) (f : ℕ → Bool) (p : ℕ) {w b : ℕ} → 0 < p → Made n f p w → b ≡ bit (f (p - 1)) → Made n f (p - 1) (w * 2 + b)
made_more n f p {w} {b} l m q =
    let in_p = m.inside in
    let one : n - (p - 1) ≡ suc (n - p) = omega arith in
    let here : p - 1 + 0 ≡ p - 1 = omega arith in
    let at : (i : ℕ) → p - 1 + suc i ≡ p + i = λ i. omega arith in
    let same : word_below (n - p) (λ i. f (p - 1 + suc i)) ≡ word_below (n - p) (λ i. f (p + i)) = word_same (n - p) _ _ (λ i. ap f (at i)) in
    record { inside = omega arith; word = rw (one, word_low (n - p) (λ i. f (p - 1 + i)), same, here, m.word, q) }

pub made_all : (n : ℕ) (f : ℕ → Bool) {p w : ℕ} → p ≤ 0 → Made n f p w → w ≡ word_below n f
made_all n f {p} l m =
    let none : p ≡ 0 = omega arith in
    let all : n - 0 ≡ n = omega arith in
    let at : (i : ℕ) → 0 + i ≡ i = λ i. omega arith in
    rw (none, all) at m.word ∙ word_same n _ f (λ i. ap f (at i))

-- while bits are missing, a word of suc k bits has room for the next
pub made-room : (k n : ℕ) (f : ℕ → Bool) {p w : ℕ} → n ≤ suc k → 0 < p → Made n f p w → w * 2 + 1 < 2 ^ suc k
made-room k n f {p} {w} l h m =
    let at = word-under (n - p) (λ i. f (p + i)) in
    let in_p = m.inside in
    let few : n - p ≤ k = omega arith in
    let most : 2 ^ (n - p) ≤ 2 ^ k = pow_mono few in
    rw (pow-suc 2 k) (omega (arith, m.word))

-- ---- worked: nobody; 0 alone; 0 and 15; all of 32
none : word_below 16 (λ p. false) ≡ 0
unfolding word_below
none = refl

lowest : word_below 16 (λ p. eqb p 0) ≡ 1
unfolding word_below
lowest = refl

ends : word_below 16 (λ p. eqb p 0 || eqb p 15) ≡ 0x8001
unfolding word_below
ends = refl

all : word_below 32 (λ p. true) ≡ 0xffffffff
unfolding word_below
all = refl

-- of 0x8001 the highest is 15, and one more is 16
ends-highest : 32 - count_leading_zeros 32 0x8001 ≡ 16
unfolding count_leading_zeros
ends-highest = refl

-- of nobody it is 0
none-highest : 32 - count_leading_zeros 32 0 ≡ 0
unfolding count_leading_zeros
none-highest = refl
