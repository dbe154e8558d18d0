-- Tests over the numbers below a bound: all of them, the least that passes, the greatest that passes, one bit for each that passes.
use Rattle.std.specs.Prelude.{ℕ, zero, suc, ◌+◌, ◌*◌, ◌^◌, Bool, true, ◌&&◌, cond as if}
use Rattle.basics.specs.Lists.{bit}

-- f holds of each number below n
unfoldable pub all_below : ℕ → (ℕ → Bool) → Bool
all_below zero f = true
all_below (suc n) f = all_below n f && f n

-- of k numbers from i on, the first that has f; i + k where none has
unfoldable pub first_from : ℕ → ℕ → (ℕ → Bool) → ℕ
first_from i zero f = i
first_from i (suc k) f = let later = first_from (i + 1) k f in if (f i) i later

-- the least number below n that has f; n where none has
unfoldable pub first_below : ℕ → (ℕ → Bool) → ℕ
first_below n f = first_from 0 n f

-- one more than the greatest number below n that has f; 0 where none has
unfoldable pub highest_below : ℕ → (ℕ → Bool) → ℕ
highest_below zero f = 0
highest_below (suc n) f = let lower = highest_below n f in if (f n) (suc n) lower

-- a word with one bit for each number below n that has f: bit p is set where f holds of p
unfoldable pub word_below : ℕ → (ℕ → Bool) → ℕ
word_below zero f = 0
word_below (suc n) f = bit (f n) * 2 ^ n + word_below n f

-- x after a step for each number below n, in rising order
unfoldable pub rising : {A : Type 0} → ℕ → (A → ℕ → A) → A → A
rising zero f x = x
rising (suc n) f x = f (rising n f x) n
