-- 01, 'The answer': code, outcome, value; the order of the checks; what a refusal leaves.
use Rattle.std.specs.Prelude.{ℕ, ◌+◌, ◌/◌, ◌<◌, Bool, true, false, not, ◌&&◌, ◌||◌, cond as if, List, [], ◌∷◌, eqb, ltb}
use Rattle.rules.specs.Tables.{word_end}
use Rattle.rules.specs.declared.Call.{Call}
use Rattle.rules.specs.declared.Answer.{Answer}

-- ---- what goes in, and what comes out
-- a call: its number and its four arguments
abbrev pub asked : ℕ → ℕ → ℕ → ℕ → ℕ → Call
asked number a b c d = record { number = number; a = a; b = b; c = c; d = d }

-- what is said of four arguments, at the four of a call
infix 10 ◌by◌
abbrev pub ◌by◌ : {A : Type 0} → (ℕ → ℕ → ℕ → ℕ → A) → Call → A
of by q = of q.a q.b q.c q.d

-- "All arguments are unsigned 32-bit"
pub record Words (q : Call) : Type 0 where
  pub a : q.a < word_end
  pub b : q.b < word_end
  pub c : q.c < word_end
  pub d : q.d < word_end

abbrev pub answer : ℕ → ℕ → ℕ → Answer
answer k o v = record { code = k; outcome = o; value = v }

-- "outcome (0 done, 1 not met, 2 now waiting)"
abbrev pub done : ℕ
done = 0

abbrev pub not_met : ℕ
not_met = 1

abbrev pub now_waiting : ℕ
now_waiting = 2

-- ---- A call's cases: of each code, whether what the table has under 'Given when' holds
abbrev pub Cases : Type 0
Cases = ℕ → Bool

abbrev pub never : Cases
never k = false

abbrev pub given : ℕ → Bool → Cases → Cases
given code holds rest k = if (eqb k code) holds (rest k)

-- No. 2: "Code 3 stays for a number outside its table. A number inside the table whose object is not in use gets a new code", 11. Of object number a in
-- a table of n; `used` is what the table has of it: 0 where it is not in use, and outside
abbrev pub on_object : ℕ → ℕ → ℕ → Cases → Cases
on_object n a used rest = given 3 (eqb used 0 && not (ltb a n)) (given 11 (eqb used 0 && ltb a n) rest)

-- which of the two it is, where `used` is 0
unfoldable pub absent_code : ℕ → ℕ → ℕ
absent_code a n = if (ltb a n) 11 3

-- "Checks run in the order of this table":
-- 10 the tables are not sound; 1 unknown call number; 2 wrong context, or a limit other than 0 outside a task; 3 an object number out of range,
-- 11 one not in use (No. 2: "same place in the order as 3; both never apply"); 4 a bad argument, or an unused one not 0; 5 the object's state
-- forbids it; 6 no free number in the table; 7 count or depth at its end; 8 no heap room; 9 a yield, end, sleep above 0 or wait that begins, while
-- either switch is off, or a Swi end while Swis are off
abbrev pub order : List ℕ
order = 10 ∷ 1 ∷ 2 ∷ 3 ∷ 11 ∷ 4 ∷ 5 ∷ 6 ∷ 7 ∷ 8 ∷ 9 ∷ []

-- "a code is given exactly in its case": the first case that holds gives the code; 0 where none does
unfoldable pub first_given : List ℕ → Cases → ℕ
first_given [] c = 0
first_given (k ∷ ks) c = if (c k) k (first_given ks c)

abbrev pub code_of : Cases → ℕ
code_of c = first_given order c

-- ---- what a call leaves: its answer, and the tables that calls of its kind may change
pub record Effect (A : Type 0) : Type 0 where
  pub answer : Answer
  pub next : A

abbrev pub with_answer : {A : Type 0} → Answer → A → Effect A
with_answer r t = record { answer = r; next = t }

-- accepted, with an outcome and a value
abbrev pub accepted : {A : Type 0} → ℕ → ℕ → A → Effect A
accepted o v t = with_answer (answer 0 o v) t

-- "A refusal has outcome 0, value 0 and no change"; with codes 3 and 11 the value is put in by `named`
abbrev pub refused : {A : Type 0} → ℕ → A → Effect A
refused k t = with_answer (answer k 0 0) t

-- "Call numbers fall into ranges of sixteen, one range for each kind"
abbrev pub range_size : ℕ
range_size = 16

-- No. 2: "The answer's value names the table: 1 tasks, 2 Swis, 3 semaphores, 4 events, 5 mailboxes, 6 clocks.": of a call
-- that takes an object's number, and so can be refused with code 3 or 11: its kind's, by the ranges of sixteen; call 50 takes a Swi's
unfoldable pub table_of : ℕ → ℕ
table_of number = if (eqb number 0x50) 2 (number / range_size + 1)

-- the answer to this call as it leaves the core: "for these two codes the value is no longer 0"
unfoldable pub named : ℕ → Answer → Answer
named number r = if (eqb r.code 3 || eqb r.code 11) (answer r.code r.outcome (table_of number)) r

-- the rule of a call: when each code is given, and what it does where none is
pub record CallRule (A : Type 0) : Type 0 where
  pub cases : Cases
  pub effect : Effect A

abbrev pub called : {A : Type 0} → Cases → Effect A → CallRule A
called c e = record { cases = c; effect = e }

abbrev pub unknown : {A : Type 0} → A → CallRule A
unknown t = called (given 1 true never) (accepted done 0 t)

-- what a call on these tables leaves
abbrev pub guarded : {A : Type 0} → ℕ → A → Effect A → Effect A
guarded k t e = if (eqb k 0) e (refused k t)

abbrev pub answered : {A : Type 0} → A → CallRule A → Effect A
answered t c = guarded (code_of c.cases) t c.effect

-- ---- tests that many calls share
-- "Letters: T the running task, S the running Swi, I an interrupt": the context as a number
abbrev pub T : ℕ
T = 0

abbrev pub S : ℕ
S = 1

abbrev pub I : ℕ
I = 2

-- called by another than T; than S; than I; than T and S
abbrev pub not_t : ℕ → Bool
not_t x = not (eqb x T)

abbrev pub not_s : ℕ → Bool
not_s x = not (eqb x S)

abbrev pub not_i : ℕ → Bool
not_i x = not (eqb x I)

abbrev pub not_ts : ℕ → Bool
not_ts x = eqb x I

-- "an unused one not 0": an argument after the last that the call names; one that it names stands here as 0
unfoldable pub unused : ℕ → ℕ → ℕ → ℕ → Bool
unused a b c d = not (eqb a 0) || not (eqb b 0) || not (eqb c 0) || not (eqb d 0)
