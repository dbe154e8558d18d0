-- `put_last` puts nothing for a record; the check finds the other cases.
use Rattle.text.proofs.Puts.{put-none}
use Rattle.desk_parts.specs.Part.{last_text}
use Rattle.desk_reads.proofs.last.put_last.Goals as goal

pub returns-in-Record : goal.returns-in-Record
unfolding last_text
returns-in-Record c = rw c.in-Record.is (put-none _ _ _)
