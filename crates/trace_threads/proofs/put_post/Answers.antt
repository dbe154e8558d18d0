-- `put_post` meets its contract: three numbers, one after the other.
use Rattle.trace_changes.proofs.Steps.{bit-is}
use Rattle.trace_changes.proofs.Telling.{tells_more}
use Rattle.trace_threads.proofs.put_post.Goals as goal

pub returns : goal.returns
returns c = tells_more _ _ c.put-p.ensures (rw (c.from.ensures, bit-is) at c.put_words.ensures)
