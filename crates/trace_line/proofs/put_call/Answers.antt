-- `put_call` meets its contract: numbers and threads, one after the other.
use Rattle.text.proofs.Puts.{put-more}
use Rattle.trace_changes.specs.Line.{call_text}
use Rattle.trace_changes.proofs.Telling.{tells_more}
use Rattle.trace_line.proofs.put_call.Goals as goal

pub returns : goal.returns
unfolding call_text
returns c =
    let n = tells_more _ _ c.put-tick.ensures c.put-caller.ensures in
    let caller = rw c.running.ensures at c.put_thread-asked.ensures in
    put-more n (put-more caller (put-more c.put_words-now.ensures c.put_thread.ensures))
