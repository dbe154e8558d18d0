-- "Call numbers fall into ranges of sixteen": a number in a range, and one past it.
use Prim.Native.Nat.{ℕ, ◌+◌, ◌≤◌, ◌<◌}
use mathlib.Core.Path.{◌≡◌}
use mathlib.Core.Bool.{true, false, and-false}
use native.Mathlib.Nat.{le_trans}
use borrow.Author.Tests.{lt-ltb, le-ltb, le-leb, leb-true}
use lib.Dec.{leb}
use Rattle.rules.specs.Answer.{range_size}
use Rattle.rules.specs.Step.{in_range}

pub within : (n k : ℕ) → k ≤ n → n < k + range_size → in_range n k ≡ true
within n k l h = rw (le-leb k n l) (lt-ltb n (k + range_size) h)

pub past : (n m : ℕ) → m ≤ n → (k : ℕ) → leb (k + range_size) m ≡ true → in_range n k ≡ false
past n m l k e = rw (le-ltb n (k + range_size) (le_trans (leb-true (k + range_size) m e) l)) (and-false (leb k n))
