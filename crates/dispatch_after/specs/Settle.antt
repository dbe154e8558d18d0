-- Dispatch after a call on sound tables. On those it had nothing left to do, so each part of the rule is done only where the call can have changed
-- who is due, and that shows in the call's number and its answer.
use Rattle.std.specs.Prelude.{ℕ, Bool, true, false, not, ◌&&◌, ◌||◌, cond as if, eqb}
use Rattle.rules.specs.Tables.{LineTable, SwiTable, StateRow}
use Rattle.rules.specs.Answer.{not_met, now_waiting}
use Rattle.rules.specs.Swis.{SwiQueues, swi_queues}
use Rattle.rules.specs.Dispatch.{DispatchTables, dispatch_tables, swi_dispatched, task_dispatched}
use Rattle.rules.specs.Step.{in_range}
use Rattle.rules.specs.declared.Answer.{Answer}
use Rattle.dispatch_after.specs.declared.Parts.{Parts}

-- which parts of the rule can have something to do: the tasks' at most; both
abbrev pub tasks_only : Bool → Parts
tasks_only some = record { swis = false; tasks = some }

abbrev pub both_parts : Parts
both_parts = record { swis = true; tasks = true }

-- at semaphores and events only a wait that begins, and the post (23, 33) where it wakes somebody, move a task. No. 8: a post's value is "the woken task's
-- number, and 0 if none was woken; task 0 never waits"
abbrev pub waits_or_wakes : ℕ → ℕ → ℕ → ℕ → Bool
waits_or_wakes post number o v = eqb o now_waiting || (eqb number post && not (eqb v 0))

-- at mailboxes a post (42) that waits or wakes somebody, and a pend (43) unless it is not met: it waits, or may let a writer in
abbrev pub mailbox_moves : ℕ → ℕ → ℕ → Bool
mailbox_moves number o v = if (eqb number 0x42) (eqb o now_waiting || not (eqb v 0)) (eqb number 0x43 && not (eqb o not_met))

-- Calls of tasks, semaphores, events and mailboxes move no Swi. Of tasks, a delete (01) and a last result (06) move nobody. Calls of clocks and of the
-- heap move nobody; calls of Swis and of switches may leave anything to do.
unfoldable pub left_by : ℕ → ℕ → ℕ → Parts
left_by number o v =
    if (in_range number 0x00) (tasks_only (not (eqb number 0x01) && not (eqb number 0x06)))
    (if (in_range number 0x10) both_parts
    (if (in_range number 0x20) (tasks_only (waits_or_wakes 0x23 number o v))
    (if (in_range number 0x30) (tasks_only (waits_or_wakes 0x33 number o v))
    (if (in_range number 0x40) (tasks_only (mailbox_moves number o v))
    (if (in_range number 0x50) (tasks_only false)
    (if (in_range number 0x60) (tasks_only false) both_parts))))))

-- these parts of the rule
unfoldable pub parts_settled : Parts → SwiTable → LineTable → StateRow → DispatchTables
parts_settled p ws ls st =
    let x : SwiQueues = if p.swis (swi_dispatched st (swi_queues ws ls)) (swi_queues ws ls) in
    dispatch_tables x.swis x.lines (if p.tasks (task_dispatched x.lines st) st)

-- nothing after a refusal
unfoldable pub settled_after : ℕ → Answer → SwiTable → LineTable → StateRow → DispatchTables
settled_after number r ws ls st = if (eqb r.code 0) (parts_settled (left_by number r.outcome r.value) ws ls st) (dispatch_tables ws ls st)
