-- How long a text is at most, whatever its numbers are.
use Prim.Native.Nat.{ℕ, zero, suc, ◌+◌, ◌/◌, ◌%◌, ◌≤◌}
use mathlib.Core.Bool.{Bool, true, false, cond as if}
use mathlib.Core.List.{List, [], ◌∷◌, ◌++◌}
use native.Mathlib.Omega.{arith}
use lib.Dec.{ltb}
use lib.ListN.{length, length-append}
use Rattle.rules.specs.Text.{digits, decimal, line_feed, thread_text, line_text, word_text}
use Rattle.rules.specs.declared.Answer.{Answer}
use Rattle.rules.specs.declared.Thread.{Thread}
use Rattle.rules.specs.declared.Thread.TheVariants.{Task, Swi, Interrupt}

either : (b : Bool) (s t : List ℕ) (m : ℕ) → length s ≤ m → length t ≤ m → length (if b s t) ≤ m
either true s t m h g = h
either false s t m h g = g

digits-most : (k n : ℕ) → length (digits k n) ≤ k
unfolding digits
digits-most zero n = omega arith
digits-most (suc k) n =
    let ih = digits-most k (n / 10) in
    either (ltb n 10) _ _ (suc k) (omega arith) (omega (arith, length-append (digits k (n / 10)) ((48 + n % 10) ∷ [])))

pub decimal-most : (n : ℕ) → length (decimal n) ≤ 20
unfolding decimal
decimal-most n = digits-most 20 n

pub thread-most : (x : Thread) → length (thread_text x) ≤ 21
unfolding thread_text
thread-most (Task n) = omega (arith, decimal-most n)
thread-most (Swi n) = omega (arith, decimal-most n)
thread-most Interrupt = omega arith

pub line-most : (n : ℕ) (r : Answer) (x : Thread) → length (line_text n r x ++ line_feed) ≤ 106
unfolding line_text
line-most n r x =
    simp length-append
    (omega (arith, decimal-most n, decimal-most r.code, decimal-most r.outcome, decimal-most r.value, thread-most x))

pub word-most : (w : List ℕ) (n : ℕ) → length (word_text w n ++ line_feed) ≤ length w + 22
word-most w n = simp length-append (omega (arith, decimal-most n))
