use Rattle.text.proofs.Puts.{put-more}
use Rattle.text.proofs.put_column.Goals as goal

pub returns : goal.returns
returns c = put-more c.put_decimal-p.ensures c.put_byte.ensures
