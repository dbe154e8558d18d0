-- What the calls of a list leave that were made one after the other on tables t, with this room for their answers.
use Rattle.std.specs.Prelude.{ℕ, ◌≡◌, List}
use Rattle.std.proofs.lemmas.List.Edits.{sets}
use Rattle.rules.specs.declared.Tables.{Tables}
use Rattle.runs.specs.Run.{ByType, after, Each}
use Rattle.runs.specs.CallList.{answers_to, words_of}
use Rattle.rules.specs.declared.Call.{Call}

pub record ListMade (t : Tables) (qs : List Call) (room : List ℕ) (left : Tables) (out : List ℕ) : Type 0 where
  pub tables : left ≡ after t qs
  pub answers : out ≡ sets room 0 (words_of (answers_to t qs))
  pub types : Each ByType t qs
