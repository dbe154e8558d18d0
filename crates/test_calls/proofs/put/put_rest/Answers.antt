use Rattle.text.proofs.Puts.{put-more}
use Rattle.test_calls.proofs.put.put_rest.Goals as goal

pub returns : goal.returns
returns c = put-more c.put_text-p.ensures c.put_byte.ensures
