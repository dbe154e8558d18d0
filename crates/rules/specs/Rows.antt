-- A table is one list of numbers: rows of w words each. Every definition here is total: a row or a field that is not there reads 0, and
-- writing it changes nothing.
use Rattle.std.specs.Prelude.{ℕ, ◌+◌, ◌*◌, ◌-◌, min, ◌&&◌, cond as if, List, ◌++◌, ltb, length, get_or, set}
use Rattle.std.proofs.lemmas.List.Edits.{sets}
use Rattle.basics.specs.Lists.{zeros, reads}

-- field f of row i of a table of n rows of w words
unfoldable pub field : ℕ → ℕ → List ℕ → ℕ → ℕ → ℕ
field w n t i f = if (ltb i n && ltb f w) (get_or t (i * w + f) 0) 0

-- the table, but that this field is x
unfoldable pub with_field : ℕ → ℕ → List ℕ → ℕ → ℕ → ℕ → List ℕ
with_field w n t i f x = if (ltb i n && ltb f w) (set t (i * w + f) x) t

-- the table, but that row i has these words
unfoldable pub with_row : ℕ → ℕ → List ℕ → ℕ → List ℕ → List ℕ
with_row w n t i ws = if (ltb i n) (sets t (i * w) ws) t

-- A list kept in a row, at place a: how many there are, at most m, and then they themselves. More than m there counts as m.
unfoldable pub listed : ℕ → List ℕ → ℕ → List ℕ
listed m t a = reads t (a + 1) (min (get_or t a 0) m)

-- the table, but that the list at place a is xs: they, zeros in the places given up, and their number; the places past both are as they were
unfoldable pub with_listed : ℕ → List ℕ → ℕ → List ℕ → List ℕ
with_listed m t a xs = set (sets t (a + 1) (xs ++ zeros (min (get_or t a 0) m - length xs))) a (length xs)

-- the places behind the list at place a, up to m
unfoldable pub behind : ℕ → List ℕ → ℕ → List ℕ
behind m t a = reads t (a + 1 + min (get_or t a 0) m) (m - min (get_or t a 0) m)
