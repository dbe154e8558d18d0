-- `next_line` meets its contract: by what the step found it is a record, whose line is put, or it ends the replay
use Rattle.std.proofs.Common.{refl}
use Rattle.rules.specs.Log.{read_in}
use Rattle.desk_parts.specs.Part.{version_by}
use Rattle.desk_reads.proofs.Reading.{went-last, went-record}
use Rattle.desk_reads.proofs.next_line.Goals as goal

pub returns-in_default : goal.returns-in_default
returns-in_default c =
    let a = c.args in
    went-last (read_in (version_by a.t.now.state) a.log.now a.ran.at) a.log.now a.offset a.t.now a.ran c.next-read.result c.next-read.ensures
    c.in_default.not-Record c.ended_at.ensures

pub returns : goal.returns
returns c =
    let a = c.args in
    went-record (read_in (version_by a.t.now.state) a.log.now a.ran.at) a.log.now a.offset a.t.now a.ran c.next-read.result c.next-read.ensures
    _ _ c.in-Record.is refl c.put_replayed-len.ensures c.place_at.ensures
