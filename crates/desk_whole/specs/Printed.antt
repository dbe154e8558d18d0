-- The text of a log's replay in a buffer of any length.
use Rattle.std.specs.Prelude.{ℕ, min, ◌≡◌, List, length, take}
use Rattle.std.proofs.lemmas.List.Edits.{sets}
use Rattle.rules.specs.Replay.{replay_text}

-- the text of log w stands in front of buffer xs, as far as it fits, and the buffer is now ys: r bytes are put, and every other byte is as it was
pub record Printed (w xs ys : List ℕ) (r : ℕ) : Type 0 where
  pub bytes : ys ≡ sets xs 0 (take (length xs) (replay_text w))
  pub count : r ≡ min (length xs) (length (replay_text w))
