-- What is said of lists: of those who stand in a line, of a table's words, of a log's bytes.
use Rattle.std.specs.Prelude.{ℕ, zero, suc, ◌+◌, Bool, true, false, ◌&&◌, cond as if, List, [], ◌∷◌, ◌++◌, take, drop, replicate, eqb}

abbrev pub bit : Bool → ℕ
bit true = 1
bit false = 0

-- how often x stands in the list
unfoldable pub count : ℕ → List ℕ → ℕ
count x [] = 0
count x (y ∷ ys) = bit (eqb y x) + count x ys

-- the members other than x
unfoldable pub without : ℕ → List ℕ → List ℕ
without x [] = []
without x (y ∷ ys) = if (eqb y x) (without x ys) (y ∷ without x ys)

-- x put in behind the first i; behind all, where there are fewer
unfoldable pub put_at : ℕ → ℕ → List ℕ → List ℕ
put_at i x xs = take i xs ++ (x ∷ drop i xs)

-- how many stand in front of the first that passes the test; all, where none passes
unfoldable pub first_where : (ℕ → Bool) → List ℕ → ℕ
first_where t [] = 0
first_where t (y ∷ ys) = if (t y) 0 (suc (first_where t ys))

-- those in front of y; all, where y does not stand there
unfoldable pub ahead : ℕ → List ℕ → List ℕ
ahead y [] = []
ahead y (z ∷ zs) = if (eqb z y) [] (z ∷ ahead y zs)

-- every member passes the test
unfoldable pub all_of : (ℕ → Bool) → List ℕ → Bool
all_of t [] = true
all_of t (y ∷ ys) = t y && all_of t ys

abbrev pub zeros : ℕ → List ℕ
zeros n = replicate n 0

-- the first n entries, 0 past the end
unfoldable pub firsts : ℕ → List ℕ → List ℕ
firsts zero xs = []
firsts (suc n) [] = 0 ∷ firsts n []
firsts (suc n) (x ∷ xs) = x ∷ firsts n xs

-- n entries from place a on, 0 past the end
unfoldable pub reads : List ℕ → ℕ → ℕ → List ℕ
reads t a n = firsts n (drop a t)
