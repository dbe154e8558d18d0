-- `put_digits` meets its contract: the digits in front by the call that it makes of itself, and then the last one
use Rattle.text.proofs.Puts.{put-digits-none, put-digit, put-digits-more}
use Rattle.text.proofs.+put_digits.Goals as goal

pub returns-then-k-eq0 : goal.returns-then-k-eq0
returns-then-k-eq0 t c = put-digits-none c.args.out.now c.args.at c.args.k c.args.n c.if-k-eq0.true

pub returns-then-n-lt10 : goal.returns-then-n-lt10
returns-then-n-lt10 t c = put-digit c.args.k c.args.n c.if-k-eq0.false c.if-n-lt10.true c.put_byte.ensures

pub returns : goal.returns
returns t c = put-digits-more c.args.k c.args.n c.if-k-eq0.false c.if-n-lt10.false c.put_digits-p.ensures c.put_byte-2.ensures
