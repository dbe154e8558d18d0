-- 01, 'The call log': what is printed, down to the bytes. "Threads print as T or S with a number, or I; numbers in plain decimal."
use Rattle.std.specs.Prelude.{ℕ, zero, suc, ◌+◌, ◌/◌, ◌%◌, cond as if, List, [], ◌∷◌, ◌++◌, ltb}
use Rattle.rules.specs.declared.Answer.{Answer}
use Rattle.rules.specs.declared.Thread.{Thread}
use Rattle.rules.specs.declared.Thread.TheVariants.{Task, Swi, Interrupt}

-- n in decimal, of at most k digits, the highest first and no zeros in front
unfoldable pub digits : ℕ → ℕ → List ℕ
digits zero n = []
digits (suc k) n = let higher = digits k (n / 10) in if (ltb n 10) ((48 + n) ∷ []) (higher ++ ((48 + n % 10) ∷ []))

-- twenty digits hold every 64-bit number
unfoldable pub decimal : ℕ → List ℕ
decimal n = digits 20 n

abbrev pub space : List ℕ
space = 32 ∷ []

abbrev pub line_feed : List ℕ
line_feed = 10 ∷ []

-- the thread's letter and number
unfoldable pub thread_text : Thread → List ℕ
thread_text (Task n) = 84 ∷ decimal n
thread_text (Swi n) = 83 ∷ decimal n
thread_text Interrupt = 73 ∷ []

-- "Columns: record, code, outcome, value, thread."
unfoldable pub line_text : ℕ → Answer → Thread → List ℕ
line_text n r x =
    decimal n
    ++ (space ++ (decimal r.code ++ (space ++ (decimal r.outcome ++ (space ++ (decimal r.value ++ (space ++ thread_text x)))))))

-- a word and a number: "end 5", "cut 40"
abbrev pub word_text : List ℕ → ℕ → List ℕ
word_text w n = w ++ (space ++ decimal n)

abbrev pub end_word : List ℕ
end_word = 101 ∷ 110 ∷ 100 ∷ []

abbrev pub cut_word : List ℕ
cut_word = 99 ∷ 117 ∷ 116 ∷ []

abbrev pub length_word : List ℕ
length_word = 108 ∷ 101 ∷ 110 ∷ 103 ∷ 116 ∷ 104 ∷ []

abbrev pub version_word : List ℕ
version_word = 118 ∷ 101 ∷ 114 ∷ 115 ∷ 105 ∷ 111 ∷ 110 ∷ []

-- the lines one after the other, each ended by a line feed
unfoldable pub text_of : List (List ℕ) → List ℕ
text_of [] = []
text_of (l ∷ ls) = l ++ (line_feed ++ text_of ls)
