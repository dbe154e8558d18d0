-- `put_in` meets its contract: past the buffer's end nothing fits, and before it the text is copied as far as there is room.
use Rattle.std.proofs.Common.{arith}
use Rattle.text.proofs.Puts.{put-out, put_copied}
use Rattle.text.proofs.put_in.Goals as goal

pub returns-then-at-out : goal.returns-then-at-out
returns-then-at-out c = put-out _ _ _ _ c.if-at-out.true

pub returns : goal.returns
returns c = put_copied _ _ _ _ _ _ c.if-at-out.false c.min-n.ensures (omega arith) c.copy_from_slice.ensures.after
