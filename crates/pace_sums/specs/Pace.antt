-- What a program that times calls works on, and what it sums up.
use Rattle.std.specs.Prelude.{ℕ, zero, suc, ◌+◌, ◌-◌, ◌*◌, ◌%◌, ◌^◌, cond as if, ◌&&◌, List, [], ◌∷◌, ◌++◌, bit_xor, nat_le, nat_lt, slice_index}
use Rattle.rules.specs.Log.{handed_out, argument}
use Rattle.rules.specs.declared.Answer.{Answer}
use Rattle.rules.specs.declared.Thread.{Thread}
use Rattle.rules.specs.declared.Thread.TheVariants.{Task, Swi, Interrupt}

-- a call by its number and its sixteen argument bytes
abbrev pub words_of : ℕ → List ℕ → List ℕ
words_of number bytes = number ∷ argument bytes 0 ∷ argument bytes 1 ∷ argument bytes 2 ∷ argument bytes 3 ∷ []

-- record k of a log
abbrev pub record_words : List ℕ → ℕ → List ℕ
record_words s k = words_of (slice_index s (k * 20 + 3)) (handed_out s (k * 20 + 4))

-- the first n records, one after the other
unfoldable pub call_words : ℕ → List ℕ → List ℕ
call_words zero s = []
call_words (suc n) s = call_words n s ++ record_words s n

-- the letter of a thread and its number
unfoldable pub thread_word : Thread → ℕ
thread_word (Task i) = bit_xor 84 i
thread_word (Swi i) = bit_xor 83 i
thread_word Interrupt = 73

-- a sum of 32 bits
abbrev pub sum_of : ℕ → ℕ → ℕ
sum_of a b = (a + b) % 2 ^ 32

-- the sum goes on by an answer and a thread
unfoldable pub added : ℕ → Answer → Thread → ℕ
added sum r x = sum_of (bit_xor (sum_of (bit_xor sum r.code) r.value) r.outcome) (thread_word x)

-- ten to the power of a digit from 0 to 4; once for any other byte
abbrev pub rounds_by : ℕ → ℕ
rounds_by b = if (nat_le 48 b && nat_lt b 53) (10 ^ (b - 48)) 1

-- by an argument's first byte
unfoldable pub rounds_for : List ℕ → ℕ
rounds_for name = rounds_by (slice_index name 0)

-- "sum"
abbrev pub sum_word : List ℕ
sum_word = 115 ∷ 117 ∷ 109 ∷ []
