-- `desk::replay_part` meets its contract: a log that begins sets the levels and leaves safe tables; the text so far and what is still to come is all, each
-- read comes nearer to the end and keeps the tables safe; what the records of all bytes leave is what the turn's definition says, their text fits, and
-- the rest is in front.
use Rattle.std.proofs.Common.{ℕ, eqb, List}
use borrow.Author.Tests.{not-true, not-false}
use Rattle.rules.specs.Tables.{tables}
use Rattle.rules.specs.declared.Tables.{Tables}
use Rattle.desk_reads.proofs.Beginning.{begun-safe}
use Rattle.desk.proofs.Going.{sofar-none, sofar-next, sofar-less, sofar-ended, sofar-waits, turned}
use Rattle.desk_parts.specs.Part.{part_of}
use Rattle.desk.proofs.Going.{PartLeaves}
use Rattle.desk.proofs.replay_part.Goals as goal
use Rattle.desk.proofs.replay_part.Goals.{then-loop-ran-test+else-more-log, else-loop-ran-test}

pub loop-ran-init : goal.loop-ran-init
loop-ran-init c =
    let a = c.args in
    let t : Tables = c.t.inside.tables in
    let began : Tables = tables t.tasks t.lines t.semaphores t.events t.mailboxes t.swis t.clocks t.heap c.begin.new.state in
    sofar-none (eqb a.more 0) c.front-log.result.now a.p.offset a.p.count began a.out.now c.place_at-ran.ensures

pub invariant_of-t : goal.invariant_of-t
invariant_of-t c = rw c.begin.ensures (begun-safe _ _ c.t.inside.tables c.t.invariant)

pub loop-ran-smaller : goal.loop-ran-smaller
loop-ran-smaller c =
    let a = c.args in
    let t : Tables = c.t.inside.tables in
    let began : Tables = tables t.tasks t.lines t.semaphores t.events t.mailboxes t.swis t.clocks t.heap c.begin.new.state in
    sofar-less (eqb a.more 0) c.front-log.result.now a.p.offset a.p.count began a.out.now
    c.loop-ran.invariant (not-true _ c.loop-ran-test.true) c.if-more-log.true c.next_line-ran.ensures

pub loop-ran-preserved : goal.loop-ran-preserved
loop-ran-preserved c =
    let a = c.args in
    let t : Tables = c.t.inside.tables in
    let began : Tables = tables t.tasks t.lines t.semaphores t.events t.mailboxes t.swis t.clocks t.heap c.begin.new.state in
    sofar-next (eqb a.more 0) c.front-log.result.now a.p.offset a.p.count began a.out.now
    c.loop-ran.invariant (not-true _ c.loop-ran-test.true) c.if-more-log.true c.next_line-ran.ensures

pub returns : goal.returns
returns c =
    let a = c.args in
    let t : Tables = c.t.inside.tables in
    let began : Tables = tables t.tasks t.lines t.semaphores t.events t.mailboxes t.swis t.clocks t.heap c.begin.new.state in
    let s : List ℕ = c.front-log.result.now in
    let l = c.loop-ran in
    let sofar = l.invariant in
    let went : PartLeaves (part_of (eqb a.more 0) s a.p.offset a.p.count began) s a.p.offset l.t a.out.now l.out l.ran =
    elim c.loop-ran-test.branch [
      | then-loop-ran-test+else-more-log w ↦
          sofar-waits (eqb a.more 0) s a.p.offset a.p.count began a.out.now sofar (not-true _ w.loop-ran-test.true) w.if-more-log.false
      | else-loop-ran-test w ↦ sofar-ended (eqb a.more 0) s a.p.offset a.p.count began a.out.now sofar (not-false _ w.loop-ran-test.false)
    ] in
    rw c.t.view_is at (
    turned (eqb a.more 0) a.p a.more t a.part.now a.out.now c.told-part c.sized.ensures c.end_of-n.ensures
    c.front-log.ensures.bytes c.begin.ensures l.ran went c.to_front.ensures c.come_to.ensures
    )
