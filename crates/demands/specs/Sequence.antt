-- Entry calls one after the other, as a caller sees them: each is made on the tables that the one before it left, and of each the caller has the
-- call and what it left. Demand 3 speaks of `Run.after` and `Turn.posts`: `demands/proofs/Sequence` shows that these are what such a sequence leaves.
use Prim.{Unit}
use Rattle.std.specs.Prelude.{ℕ, ◌+◌, ◌≡◌, Bool, ◌&&◌, List, [], ◌∷◌, eqb}
use Rattle.basics.specs.Lists.{bit}
use Rattle.rules.specs.Tables.{Typed}
use Rattle.rules.specs.Sound.{Sound}
use Rattle.rules.specs.declared.Tables.{Tables}
use Rattle.rules.specs.declared.Step.{Step}
use Rattle.runs.specs.Run.{after, AllWords}
use Rattle.runs.specs.Turn.{posts_on}
use Rattle.demands.specs.Promised.{Promised}
use Rattle.rules.specs.declared.Call.{Call}

-- an entry call: what was asked, and what it left
pub record Entered : Type 0 where
  pub call : Call
  pub left : Step

-- each of these is an entry call on the tables that the one before it left, and left what an entry promises
unfoldable pub Sequence : Tables → List Entered → Type 0
Sequence t [] = Unit {0}
Sequence t (e ∷ es) = Promised t e.call e.left × Sequence e.left.tables es

-- the calls, the tables after the last one, and how many were posts on semaphore s that were answered with code 0
unfoldable pub calls : List Entered → List Call
calls [] = []
calls (e ∷ es) = e.call ∷ calls es

unfoldable pub tables_after : Tables → List Entered → Tables
tables_after t [] = t
tables_after t (e ∷ es) = tables_after e.left.tables es

abbrev pub is_posted : ℕ → Entered → Bool
is_posted s e = eqb e.call.number 0x23 && eqb e.call.a s && eqb e.left.answer.code 0

unfoldable pub posts_in : ℕ → List Entered → ℕ
posts_in s [] = 0
posts_in s (e ∷ es) = bit (is_posted s e) + posts_in s es

-- what demand 3 speaks of is what the entry calls left
pub record AsEntered (t : Tables) (es : List Entered) : Type 0 where
  pub tables : tables_after t es ≡ after t (calls es)
  pub posts : (s : ℕ) → posts_in s es ≡ posts_on s t (calls es)
  pub words : AllWords t (calls es)
  pub sound : Sound (tables_after t es)
  pub typed : Typed t → Typed (tables_after t es)
