-- What post and pend share where they are not done at once.
use Rattle.std.specs.Prelude.{ℕ, cond as if, eqb}
use Rattle.rules.specs.Answer.{Effect, accepted, not_met, now_waiting}
use Rattle.rules.specs.Tables.{StateRow, task, current}
use Rattle.rules.specs.Lines.{moved, at_back}
use Rattle.rules.specs.Waits.{WaitTables, queues_of, with_queues, waiting}

-- "Limit 0 instead of a wait: outcome 1. Waiters in arrival order.": the current task waits in this mode at mailbox a, holding the word
abbrev pub not_done : WaitTables → StateRow → ℕ → ℕ → ℕ → ℕ → Effect WaitTables
not_done q st mode a limit word =
    if (eqb limit 0) (accepted not_met 0 q)
    (accepted now_waiting 0 (with_queues q (moved at_back (current st) (waiting (task q.tasks (current st)) mode a limit word 0) (queues_of q))))
