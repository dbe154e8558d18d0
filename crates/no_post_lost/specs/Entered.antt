-- Request No. 12 of entry calls, as a caller sees them: the history is what was asked and answered, and the tables now are what the last call left.
use Rattle.std.specs.Prelude.{ℕ, List, [], ◌∷◌}
use Rattle.rules.specs.Fresh.{made_fresh}
use Rattle.rules.specs.Sound.{Sound}
use Rattle.rules.specs.declared.Tables.{Tables}
use Rattle.demands.specs.Sequence.{Entered, Sequence, tables_after}
use Rattle.no_post_lost.specs.NoPostLost.{CallAndAnswer, LastSet, Counting, Balanced}

-- what the caller asked and was answered, call by call
unfoldable pub history_of : List Entered → List CallAndAnswer
history_of [] = []
history_of (e ∷ es) = record { asked = e.call; answer = e.left.answer } ∷ history_of es

-- of entry calls from sound tables on, and any counting semaphore whose last creation or accepted reset is among them
abbrev pub NoPostLostEntered : Type 0
NoPostLostEntered =
    (t : Tables) → Sound t → (es : List Entered) → Sequence t es → (s : ℕ) → Counting s (tables_after t es)
    → (x : LastSet s (history_of es)) → Balanced s (history_of es) x (tables_after t es)

-- from fresh tables on, with whatever number of levels they are asked for, every counting semaphore has one
abbrev pub NoPostLostEnteredFromFresh : Type 0
NoPostLostEnteredFromFresh =
    (levels : ℕ) → let t = (made_fresh levels).tables in
    (es : List Entered) → Sequence t es → (s : ℕ) → Counting s (tables_after t es)
    → (x : LastSet s (history_of es)) × Balanced s (history_of es) x (tables_after t es)
