-- The table of lines in few words: who stands where.
use Prim.Native.Nat.{ℕ, ◌*◌}
use mathlib.Core.List.{List, [], ◌∷◌}
use Rattle.basics.specs.Lists.{zeros}
use Rattle.rules.specs.Lines.{with_line, line_count, line_width}

infix 70 ◌has◌
-- who stands in a line
pub data Standing : Type 0 where
  ◌has◌ : ℕ → List ℕ → Standing

-- the lines in which these stand, and nobody else
unfoldable pub lines_with : List Standing → List ℕ
lines_with [] = zeros (line_count * line_width)
lines_with (j has xs ∷ rest) = with_line (lines_with rest) j xs
