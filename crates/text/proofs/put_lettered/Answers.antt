use Rattle.text.proofs.Puts.{put-more}
use Rattle.text.proofs.put_lettered.Goals as goal

pub returns : goal.returns
returns c = put-more c.put_byte-p.ensures c.put_decimal.ensures
