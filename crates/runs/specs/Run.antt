-- Calls one after the other, refused ones included.
use Prim.{Unit}
use Rattle.std.specs.Prelude.{List, [], ◌∷◌}
use Rattle.rules.specs.Tables.{Typed}
use Rattle.rules.specs.Answer.{Words}
use Rattle.rules.specs.Step.{call}
use Rattle.rules.specs.declared.Call.{Call}
use Rattle.rules.specs.declared.Tables.{Tables}
use Rattle.rules.specs.declared.Step.{Step}

-- what the types say of a call and of the tables on which it is made: the arrays' lengths, and that arguments are words
abbrev pub ByType : Tables → Call → Type 0
ByType t q = Typed t × Words q

-- the call made on these tables
abbrev pub made : Tables → Call → Step
made t q = call t q.number q.a q.b q.c q.d

abbrev pub next : Tables → Call → Tables
next t q = (made t q).tables

-- ---- calls one after the other
-- the tables after them
unfoldable pub after : Tables → List Call → Tables
after t [] = t
after t (q ∷ qs) = after (next t q) qs

-- P holds of each call and the tables on which it is made
unfoldable pub Each : (Tables → Call → Type 0) → Tables → List Call → Type 0
Each P t [] = Unit {0}
Each P t (q ∷ qs) = P t q × Each P (next t q) qs

-- P holds of the tables at the start and after each call
unfoldable pub Always : (Tables → Type 0) → Tables → List Call → Type 0
Always P t [] = P t
Always P t (q ∷ qs) = P t × Always P (next t q) qs

-- all arguments are words
abbrev pub AllWords : Tables → List Call → Type 0
AllWords t qs = Each (λ u q. Words q) t qs
