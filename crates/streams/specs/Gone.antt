-- When a write failed because nobody reads.
use Rattle.std.specs.Prelude.{ℤ, pos, negsuc, Bool, false, ◌||◌, ◌==◌, Option, Some, None}

-- by the system's number of the error: a descriptor that is closed is 9, a pipe that nobody reads is 32
abbrev pub is_gone : Option ℤ → Bool
is_gone (Some (pos k)) = k == 32 || k == 9
is_gone (Some (negsuc k)) = false
is_gone None = false
