-- 01, 'Mailboxes': calls 40 to 43. "A message is one 32-bit word."
use Rattle.std.specs.Prelude.{ℕ, ◌-◌, Bool, not, ◌&&◌, ◌||◌, cond as if, [], ◌∷◌, ◌++◌, eqb, leb, drop, get_or}
use Rattle.rules.specs.Tables.{TaskTable, LineTable, MailboxTable, StateRow, mailbox_count, mailbox_width, mailbox_most, mailbox, mailbox_row, messages}
use Rattle.rules.specs.Tables.{with_messages, task, current, reading, writing, CAPACITY, MESSAGES}
use Rattle.basics.specs.Lists.{zeros}
use Rattle.basics.specs.Find.{first_below}
use Rattle.rules.specs.Answer.{Cases, given, on_object, never, CallRule, called, Effect, accepted, unknown, done, not_met, now_waiting, not_t, unused}
use Rattle.rules.specs.Lines.{mailbox_line, anyone, front_of, moved, at_back}
use Rattle.rules.specs.Waits.{WaitTables, wait_tables, queues_of, with_queues, outside, switch_off, idle, waiting, woken, wakes_first}

unfoldable pub free_mailbox : MailboxTable → ℕ
free_mailbox ms = first_below mailbox_count (λ i. eqb (mailbox ms i CAPACITY) 0)

-- someone waits at the mailbox, and the first is in this mode: "to the first waiting reader", "the first waiting writer's word"
unfoldable pub waits_first : TaskTable → LineTable → ℕ → ℕ → Bool
waits_first ts ls a mode = anyone ls (mailbox_line a) && eqb (task ts (front_of ls (mailbox_line a))).mode mode

unfoldable pub is_full : MailboxTable → ℕ → Bool
is_full ms a = leb (mailbox ms a CAPACITY) (mailbox ms a MESSAGES)

-- ---- "40 create (capacity; T): value its number." "mailboxes of 1 to 8 messages"
unfoldable pub create_cases : MailboxTable → ℕ → ℕ → ℕ → ℕ → ℕ → Cases
create_cases ms x capacity b c d =
    given 2 (not_t x)
    (given 4 (eqb capacity 0 || not (leb capacity mailbox_most) || unused 0 b c d)
    (given 6 (eqb (free_mailbox ms) mailbox_count) never))

unfoldable pub create_effect : WaitTables → ℕ → Effect WaitTables
create_effect q capacity =
    accepted done (free_mailbox q.objects)
    (wait_tables q.tasks q.lines (mailbox_row q.objects (free_mailbox q.objects) (capacity ∷ zeros (mailbox_width - 1))))

abbrev pub create_call : WaitTables → ℕ → ℕ → ℕ → ℕ → ℕ → CallRule WaitTables
create_call q x a b c d = called (create_cases q.objects x a b c d) (create_effect q a)

-- ---- "41 delete (T): 5 with waiters or messages."
unfoldable pub delete_cases : LineTable → MailboxTable → ℕ → ℕ → ℕ → ℕ → ℕ → Cases
delete_cases ls ms x a b c d =
    given 2 (not_t x)
    (on_object mailbox_count a (mailbox ms a CAPACITY)
    (given 4 (unused 0 b c d)
    (given 5 (anyone ls (mailbox_line a) || not (eqb (mailbox ms a MESSAGES) 0)) never)))

unfoldable pub delete_effect : WaitTables → ℕ → Effect WaitTables
delete_effect q a = accepted done 0 (wait_tables q.tasks q.lines (mailbox_row q.objects a (zeros mailbox_width)))

abbrev pub delete_call : WaitTables → ℕ → ℕ → ℕ → ℕ → ℕ → CallRule WaitTables
delete_call q x a b c d = called (delete_cases q.lines q.objects x a b c d) (delete_effect q a)

-- ---- "42 post (mailbox, word, limit): to the first waiting reader, else to the back, else wait holding the word."
-- No. 8: "a mailbox post that goes straight to a reader answers that reader's number"
unfoldable pub post_waits : TaskTable → LineTable → MailboxTable → ℕ → ℕ → Bool
post_waits ts ls ms a limit = not (waits_first ts ls a reading) && is_full ms a && not (eqb limit 0)

unfoldable pub post_cases : TaskTable → LineTable → MailboxTable → StateRow → ℕ → ℕ → ℕ → ℕ → Cases
post_cases ts ls ms st x a limit d =
    given 2 (outside x limit)
    (on_object mailbox_count a (mailbox ms a CAPACITY)
    (given 4 (unused 0 0 0 d)
    (given 5 (post_waits ts ls ms a limit && idle st)
    (given 9 (post_waits ts ls ms a limit && switch_off st) never))))

-- "Limit 0 instead of a wait: outcome 1. Waiters in arrival order."
unfoldable pub post_effect : WaitTables → StateRow → ℕ → ℕ → ℕ → Effect WaitTables
post_effect q st a word limit =
    if (waits_first q.tasks q.lines a reading)
    (wakes_first (mailbox_line a) word q)
    (if (is_full q.objects a)
    (if (eqb limit 0) (accepted not_met 0 q)
    (accepted now_waiting 0
    (with_queues q (moved at_back (current st) (waiting (task q.tasks (current st)) writing a limit word 0) (queues_of q)))))
    (accepted done 0 (wait_tables q.tasks q.lines (with_messages q.objects a (messages q.objects a ++ (word ∷ []))))))

abbrev pub post_call : WaitTables → StateRow → ℕ → ℕ → ℕ → ℕ → ℕ → CallRule WaitTables
post_call q st x a b c d = called (post_cases q.tasks q.lines q.objects st x a c d) (post_effect q st a b c)

-- ---- "43 pend (mailbox, limit): value the oldest word; the first waiting writer's word then joins the back and that writer is ready."
unfoldable pub pend_waits : MailboxTable → ℕ → ℕ → Bool
pend_waits ms a limit = eqb (mailbox ms a MESSAGES) 0 && not (eqb limit 0)

unfoldable pub pend_cases : MailboxTable → StateRow → ℕ → ℕ → ℕ → ℕ → ℕ → Cases
pend_cases ms st x a limit c d =
    given 2 (outside x limit)
    (on_object mailbox_count a (mailbox ms a CAPACITY)
    (given 4 (unused 0 0 c d)
    (given 5 (pend_waits ms a limit && idle st)
    (given 9 (pend_waits ms a limit && switch_off st) never))))

-- the oldest message is gone, and the first waiting writer's word, if any, is at the back
unfoldable pub oldest_taken : WaitTables → ℕ → WaitTables
oldest_taken q a =
    if (waits_first q.tasks q.lines a writing)
    (with_queues
    (wait_tables q.tasks q.lines
    (with_messages q.objects a (drop 1 (messages q.objects a) ++ ((task q.tasks (front_of q.lines (mailbox_line a))).held ∷ []))))
    (woken (front_of q.lines (mailbox_line a)) done 0 (queues_of q)))
    (wait_tables q.tasks q.lines (with_messages q.objects a (drop 1 (messages q.objects a))))

unfoldable pub pend_effect : WaitTables → StateRow → ℕ → ℕ → Effect WaitTables
pend_effect q st a limit =
    if (eqb (mailbox q.objects a MESSAGES) 0)
    (if (eqb limit 0) (accepted not_met 0 q)
    (accepted now_waiting 0
    (with_queues q (moved at_back (current st) (waiting (task q.tasks (current st)) reading a limit 0 0) (queues_of q)))))
    (accepted done (get_or (messages q.objects a) 0 0) (oldest_taken q a))

abbrev pub pend_call : WaitTables → StateRow → ℕ → ℕ → ℕ → ℕ → ℕ → CallRule WaitTables
pend_call q st x a b c d = called (pend_cases q.objects st x a b c d) (pend_effect q st a b)

-- ---- the calls by number
unfoldable pub mailbox_call : WaitTables → StateRow → ℕ → ℕ → ℕ → ℕ → ℕ → ℕ → CallRule WaitTables
mailbox_call q st x number a b c d =
    if (eqb number 0x40) (create_call q x a b c d)
    (if (eqb number 0x41) (delete_call q x a b c d)
    (if (eqb number 0x42) (post_call q st x a b c d)
    (if (eqb number 0x43) (pend_call q st x a b c d) (unknown q))))
