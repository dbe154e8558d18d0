-- `put_thread` meets its contract: the thread and the space behind it.
use Rattle.text.proofs.Puts.{put-more}
use Rattle.trace_line.proofs.put_thread.Goals as goal

pub returns : goal.returns
returns c = put-more c.put_thread-p.ensures c.put_byte.ensures
