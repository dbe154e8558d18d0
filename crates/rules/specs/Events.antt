-- 01, 'Events': calls 30 to 33.
use Rattle.std.specs.Prelude.{ℕ, Bool, not, ◌&&◌, ◌||◌, cond as if, [], ◌∷◌, eqb}
use Rattle.std.specs.Int.Bits.{bit_and, bit_or}
use Rattle.rules.specs.Tables.{TaskTable, LineTable, EventTable, StateRow, event_count, event_width, event, with_event, event_row, task, current, at_event}
use Rattle.rules.specs.Tables.{USED, BITS}
use Rattle.basics.specs.Lists.{zeros}
use Rattle.basics.specs.Find.{first_below}
use Rattle.rules.specs.Answer.{Cases, given, on_object, never, CallRule, called, Effect, accepted, unknown, done, not_met, now_waiting, not_t, unused}
use Rattle.rules.specs.Lines.{event_line, anyone, front_of, moved, at_back}
use Rattle.rules.specs.Waits.{WaitTables, wait_tables, queues_of, with_queues, outside, switch_off, idle, waiting, wakes_first}
use Rattle.rules.specs.Swis.{cleared}

unfoldable pub free_event : EventTable → ℕ
free_event es = first_below event_count (λ i. eqb (event es i USED) 0)

-- "Matched bits are the posted bits in the or-mask, and the whole and-mask if all its bits are posted."
unfoldable pub matched : ℕ → ℕ → ℕ → ℕ
matched bits and_mask or_mask = bit_or (bit_and bits or_mask) (if (eqb (bit_and bits and_mask) and_mask) and_mask 0)

-- ---- "30 create (T): value its number."
unfoldable pub create_cases : EventTable → ℕ → ℕ → ℕ → ℕ → ℕ → Cases
create_cases es x a b c d = given 2 (not_t x) (given 4 (unused a b c d) (given 6 (eqb (free_event es) event_count) never))

unfoldable pub create_effect : WaitTables → Effect WaitTables
create_effect q =
    accepted done (free_event q.objects) (wait_tables q.tasks q.lines (event_row q.objects (free_event q.objects) (1 ∷ 0 ∷ [])))

abbrev pub create_call : WaitTables → ℕ → ℕ → ℕ → ℕ → ℕ → CallRule WaitTables
create_call q x a b c d = called (create_cases q.objects x a b c d) (create_effect q)

-- ---- "31 delete (T): 5 with a waiter."
unfoldable pub delete_cases : LineTable → EventTable → ℕ → ℕ → ℕ → ℕ → ℕ → Cases
delete_cases ls es x a b c d =
    given 2 (not_t x) (on_object event_count a (event es a USED) (given 4 (unused 0 b c d) (given 5 (anyone ls (event_line a)) never)))

unfoldable pub delete_effect : WaitTables → ℕ → Effect WaitTables
delete_effect q a = accepted done 0 (wait_tables q.tasks q.lines (event_row q.objects a (zeros event_width)))

abbrev pub delete_call : WaitTables → ℕ → ℕ → ℕ → ℕ → ℕ → CallRule WaitTables
delete_call q x a b c d = called (delete_cases q.lines q.objects x a b c d) (delete_effect q a)

-- ---- "32 pend (event, and-mask, or-mask, limit): both masks 0 is 4; a waiter there already is 5."
unfoldable pub pend_waits : EventTable → ℕ → ℕ → ℕ → ℕ → Bool
pend_waits es a and_mask or_mask limit = eqb (matched (event es a BITS) and_mask or_mask) 0 && not (eqb limit 0)

unfoldable pub pend_cases : LineTable → EventTable → StateRow → ℕ → ℕ → ℕ → ℕ → ℕ → Cases
pend_cases ls es st x a and_mask or_mask limit =
    given 2 (outside x limit)
    (on_object event_count a (event es a USED)
    (given 4 (eqb and_mask 0 && eqb or_mask 0)
    (given 5 (anyone ls (event_line a) || (pend_waits es a and_mask or_mask limit && idle st))
    (given 9 (pend_waits es a and_mask or_mask limit && switch_off st) never))))

-- "Any matched: they are cleared and are the value; else as in call 22."
unfoldable pub pend_effect : WaitTables → StateRow → ℕ → ℕ → ℕ → ℕ → Effect WaitTables
pend_effect q st a and_mask or_mask limit =
    if (eqb (matched (event q.objects a BITS) and_mask or_mask) 0)
    (if (eqb limit 0) (accepted not_met 0 q)
    (accepted now_waiting 0
    (with_queues q (moved at_back (current st) (waiting (task q.tasks (current st)) at_event a limit and_mask or_mask) (queues_of q)))))
    (accepted done (matched (event q.objects a BITS) and_mask or_mask)
    (wait_tables q.tasks q.lines
    (with_event q.objects a BITS (cleared (event q.objects a BITS) (matched (event q.objects a BITS) and_mask or_mask)))))

abbrev pub pend_call : WaitTables → StateRow → ℕ → ℕ → ℕ → ℕ → ℕ → CallRule WaitTables
pend_call q st x a b c d = called (pend_cases q.lines q.objects st x a b c d) (pend_effect q st a b c d)

-- ---- "33 post (event, mask; T S I): sets bits, then by the same match serves the waiter; value 1 if it did, else 0. Bits persist."
-- No. 8, in place of value 1: "the woken task's number, and 0 if none was woken"
unfoldable pub post_cases : EventTable → ℕ → ℕ → ℕ → Cases
post_cases es a c d = on_object event_count a (event es a USED) (given 4 (unused 0 0 c d) never)

-- what of these bits the event's waiter matches; 0 where nobody waits
unfoldable pub waiter_match : TaskTable → LineTable → ℕ → ℕ → ℕ
waiter_match ts ls a bits =
    if (anyone ls (event_line a)) (matched bits (task ts (front_of ls (event_line a))).held (task ts (front_of ls (event_line a))).mask) 0

-- with these bits posted
unfoldable pub posted_bits : WaitTables → ℕ → ℕ → Effect WaitTables
posted_bits q a bits =
    if (eqb (waiter_match q.tasks q.lines a bits) 0) (accepted done 0 (wait_tables q.tasks q.lines (with_event q.objects a BITS bits)))
    (wakes_first (event_line a) (waiter_match q.tasks q.lines a bits)
    (wait_tables q.tasks q.lines (with_event q.objects a BITS (cleared bits (waiter_match q.tasks q.lines a bits)))))

abbrev pub post_effect : WaitTables → ℕ → ℕ → Effect WaitTables
post_effect q a mask = posted_bits q a (bit_or (event q.objects a BITS) mask)

abbrev pub post_call : WaitTables → ℕ → ℕ → ℕ → ℕ → CallRule WaitTables
post_call q a b c d = called (post_cases q.objects a c d) (post_effect q a b)

-- ---- the calls by number
unfoldable pub event_call : WaitTables → StateRow → ℕ → ℕ → ℕ → ℕ → ℕ → ℕ → CallRule WaitTables
event_call q st x number a b c d =
    if (eqb number 0x30) (create_call q x a b c d)
    (if (eqb number 0x31) (delete_call q x a b c d)
    (if (eqb number 0x32) (pend_call q st x a b c d)
    (if (eqb number 0x33) (post_call q a b c d) (unknown q))))
