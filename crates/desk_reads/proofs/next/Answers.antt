-- `next` meets its contract: what is read with the version that the tables tell is a record, whose call is made, or nothing is called
use Rattle.std.proofs.Common.{◌≡◌}
use Rattle.rules.specs.Log.{read_in}
use Rattle.kernel.specs.Safe.{Safe}
use Rattle.desk_parts.specs.Part.{version_by}
use Rattle.desk_reads.proofs.Reading.{step-without, step-with}
use Rattle.desk_reads.proofs.next.Goals as goal

pub returns-in_default : goal.returns-in_default
returns-in_default c =
    let a = c.args in
    let found-is : c.step_in-step.result.found ≡ read_in (version_by a.t.now.state) a.log.now a.at =
    rw (c.version_by.ensures, c.t.view_is) at c.step_in-step.ensures.0 in
    step-without _ a.log.now a.at a.t.now found-is c.step_in-step.ensures.1 c.in_default.not-Record c.not_called.ensures

pub returns : goal.returns
returns c =
    let a = c.args in
    let found-is : c.step_in-step.result.found ≡ read_in (version_by a.t.now.state) a.log.now a.at =
    rw (c.version_by.ensures, c.t.view_is) at c.step_in-step.ensures.0 in
    let safe : Safe a.t.now = rw c.t.view_is at c.t.invariant in
    step-with _ a.log.now a.at a.t.now found-is c.step_in-step.ensures.1 safe _ _ c.in-Record.is c.record_call-asked.ensures c.step-said.ensures
    c.called.ensures
