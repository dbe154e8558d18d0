-- `put_line` meets its contract: its columns one after the other are the line
use Rattle.text.proofs.Puts.{put-more, line-is}
use Rattle.text.proofs.put_line.Goals as goal

pub returns : goal.returns
returns c =
    rw (← line-is c.args.n c.args.answer c.args.thread)
    (put-more c.put_column-code.ensures
    (put-more c.put_column-outcome.ensures (put-more c.put_column-value.ensures
    (put-more c.put_column-last.ensures (put-more c.put_thread-end.ensures c.put_byte.ensures)))))
