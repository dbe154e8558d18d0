-- How numbers are told: each followed by a space, those of many objects one after the other.
use Rattle.std.specs.Prelude.{ℕ, zero, suc, ◌+◌, Bool, ◌&&◌, cond as if, List, [], ◌∷◌, ◌++◌, eqb, length, get_or}
use Rattle.std.specs.Prelude.{◌<◌}
use Rattle.std.specs.Borrow.{MutBor}
use Rattle.basics.specs.Lists.{bit}
use Rattle.basics.specs.Find.{all_below}
use Rattle.rules.specs.Text.{decimal, space}
use Rattle.text.specs.Put.{Put}

-- "Each number .. is followed by a space"; "Numbers are plain decimal"
unfoldable pub columns : List ℕ → List ℕ
columns [] = []
columns (x ∷ xs) = (decimal x ++ space) ++ columns xs

-- what f tells of each number below n, one after the other
unfoldable pub each_below : ℕ → (ℕ → List ℕ) → List ℕ
each_below zero f = []
each_below (suc n) f = each_below n f ++ f n

-- how many numbers below n have f
unfoldable pub count_below : ℕ → (ℕ → Bool) → ℕ
count_below zero f = 0
count_below (suc n) f = count_below n f + bit (f n)

-- two lists are the same
unfoldable pub same_list : List ℕ → List ℕ → Bool
same_list xs ys = eqb (length xs) (length ys) && all_below (length xs) (λ k. eqb (get_or xs k 0) (get_or ys k 0))

-- these numbers, where the test says so
abbrev pub told : Bool → List ℕ → List ℕ
told b xs = if b xs []

-- these numbers are told at a place of text xs, which is now ys, and end at r
abbrev pub PutNumbers : List ℕ → ℕ → List ℕ → List ℕ → ℕ → Type 0
PutNumbers xs at numbers ys r = Put xs at (columns numbers) ys r

-- what a step does to a text, at a place and a number: for each number i below n it tells f i there, and says where that ends
abbrev pub TellsBelow : ℕ → (MutBor (List ℕ) → ℕ → ℕ → ℕ → MutBor (List ℕ) → Type 0) → (ℕ → List ℕ) → Type 0
TellsBelow n does f = (i at r : ℕ) (m q : MutBor (List ℕ)) → i < n → does m at i r q → PutNumbers m.now at (f i) q.now r
