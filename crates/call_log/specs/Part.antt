-- A part of the log: which bytes it has, and where it lies.
use Rattle.std.specs.Prelude.{◌≡◌, ℕ, ◌+◌, ◌≤◌, List, length}
use Rattle.std.specs.Borrow.{Bor}
use Rattle.rules.specs.Log.{handed_out}

-- r is the part of the log that is handed out from `start` on: it has these bytes, and where sixteen are there it lies `start` bytes after the log's
-- own place, so it is that part and no copy, nor another part with the same bytes. Of an empty part the bytes are said alone.
pub record PartAt (log : Bor (List ℕ)) (start : ℕ) (r : Bor (List ℕ)) : Type 0 where
  pub bytes : r.now ≡ handed_out log.now start
  pub place : start + 16 ≤ length log.now → r.ref_ptr ≡ (log.ref_ptr.0, start + log.ref_ptr.1)
