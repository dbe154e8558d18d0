-- `kernel::ranges::any_call` meets its contract: in the range of a kind the call is what the kind's own call promises, and in none it is unknown.
use Rattle.kernel.proofs.OfKind.{task-range, swi-range, semaphore-range, event-range, mailbox-range, clock-range, heap-range, switch-range, no-range, no-code}
use Rattle.std.proofs.Common.{arith, refl}
use Rattle.kernel.proofs.ranges.any_call.Goals as goal

pub returns-in-0-to-15 : goal.returns-in-0-to-15
returns-in-0-to-15 c =
    let k = task-range _ c.context-x.ensures c.args.q.number _ _ _ _ (omega arith) in
    record { leaves = k.answers c.task_call.ensures.leaves; tells = k.codes c.task_call.ensures.tells }

pub returns-in-16-to-31 : goal.returns-in-16-to-31
returns-in-16-to-31 c =
    let k = swi-range _ c.context-x.ensures c.args.q.number _ _ _ _ (omega arith) (omega arith) in
    record { leaves = k.answers c.swi_call.ensures.leaves; tells = k.codes c.swi_call.ensures.tells }

pub returns-in-32-to-47 : goal.returns-in-32-to-47
returns-in-32-to-47 c =
    let k = semaphore-range _ c.context-x.ensures c.args.q.number _ _ _ _ (omega arith) (omega arith) in
    record { leaves = k.answers c.semaphore_call.ensures.leaves; tells = k.codes c.semaphore_call.ensures.tells }

pub returns-in-48-to-63 : goal.returns-in-48-to-63
returns-in-48-to-63 c =
    let k = event-range _ c.context-x.ensures c.args.q.number _ _ _ _ (omega arith) (omega arith) in
    record { leaves = k.answers c.event_call.ensures.leaves; tells = k.codes c.event_call.ensures.tells }

pub returns-in-64-to-79 : goal.returns-in-64-to-79
returns-in-64-to-79 c =
    let k = mailbox-range _ c.context-x.ensures c.args.q.number _ _ _ _ (omega arith) (omega arith) in
    record { leaves = k.answers c.mailbox_call.ensures.leaves; tells = k.codes c.mailbox_call.ensures.tells }

pub returns-in-80-to-95 : goal.returns-in-80-to-95
returns-in-80-to-95 c =
    let k = clock-range _ c.context-x.ensures c.args.q.number _ _ _ _ (omega arith) (omega arith) in
    record { leaves = k.answers c.clock_call.ensures.leaves; tells = k.codes c.clock_call.ensures.tells }

pub returns-in-96-to-111 : goal.returns-in-96-to-111
returns-in-96-to-111 c =
    let k = heap-range _ c.context-x.ensures c.args.q.number _ _ _ _ (omega arith) (omega arith) in
    record { leaves = k.answers c.heap_call.ensures.leaves; tells = k.codes c.heap_call.ensures.tells }

pub returns-in-112-to-127 : goal.returns-in-112-to-127
returns-in-112-to-127 c =
    let k = switch-range _ c.context-x.ensures c.args.q.number _ _ _ _ (omega arith) (omega arith) in
    record { leaves = k.answers c.switch_call.ensures.leaves; tells = k.codes c.switch_call.ensures.tells }

pub returns-in_default : goal.returns-in_default
returns-in_default c = record {
  leaves = no-range _ c.context-x.ensures c.args.q.number _ _ _ _ (omega arith) refl;
  tells = no-code _ c.context-x.ensures c.args.q.number _ _ _ _ (omega arith);
}
