-- `put_word` meets its contract: the word and the number one after the other
use Rattle.text.proofs.Puts.{put-more, word-is}
use Rattle.text.proofs.put_word.Goals as goal

pub returns : goal.returns
returns c =
    rw (← word-is c.args.word.now c.args.n) (put-more c.put_text-p.ensures
    (put-more c.put_byte-q.ensures (put-more c.put_decimal-end.ensures c.put_byte.ensures)))
