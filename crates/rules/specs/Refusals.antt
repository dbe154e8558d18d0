-- 01, 'The answer': why a call is refused, and what that answers.
use Rattle.std.specs.Prelude.{ℕ, Result, Ok, Err}
use Rattle.rules.specs.Answer.{answer}
use Rattle.rules.specs.declared.Answer.{Answer}
use Rattle.rules.specs.declared.Refusal.{Refusal}
use Rattle.rules.specs.declared.Refusal.TheVariants.{UnknownCall, WrongContext, OutOfRange, BadArgument, Forbidden, NoneFree, AtEnd, NoRoom, SwitchedOff, Unsound, NotInUse}

-- the code of each: "1 unknown call number", "2 wrong context", "3 an object number out of range", "4 a bad argument", "5 the object's state forbids
-- it", "6 no free number in the table", "7 count or depth at its end", "8 no heap room", 9 "while either switch is off", "10 the tables are not sound",
-- and 11 "a number inside the table whose object is not in use" (No. 2)
abbrev pub code : Refusal → ℕ
code UnknownCall = 1
code WrongContext = 2
code OutOfRange = 3
code BadArgument = 4
code Forbidden = 5
code NoneFree = 6
code AtEnd = 7
code NoRoom = 8
code SwitchedOff = 9
code Unsound = 10
code NotInUse = 11

-- the code that a call is given: 0 where it is not refused
abbrev pub code_said : {A : Type 0} → Result A Refusal → ℕ
code_said (Ok a) = 0
code_said (Err r) = code r

-- the answer to a call: "A refusal has outcome 0, value 0"
abbrev pub answer_said : Result Answer Refusal → Answer
answer_said (Ok a) = a
answer_said (Err r) = answer (code r) 0 0
