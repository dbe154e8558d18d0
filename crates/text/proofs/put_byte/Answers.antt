use Rattle.text.proofs.Puts.{put_one, put-out}
use Rattle.text.proofs.put_byte.Goals as goal

pub returns-then-at-lt-TEXT_BYTES : goal.returns-then-at-lt-TEXT_BYTES
returns-then-at-lt-TEXT_BYTES c = put_one 16384 c.args.out.now c.args.at c.args.b c.if-at-lt-TEXT_BYTES.true

pub returns : goal.returns
returns c = put-out 16384 c.args.out.now c.args.at _ c.if-at-lt-TEXT_BYTES.false
