-- `put_bar` meets its contract: one byte after the other.
use Rattle.text.proofs.Puts.{put-more}
use Rattle.trace_line.proofs.put_bar.Goals as goal

pub returns : goal.returns
returns c = put-more c.put_byte-p.ensures c.put_byte.ensures
