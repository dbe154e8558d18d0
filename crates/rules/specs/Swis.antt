-- 01, 'Swis': calls 10 to 18.
use Rattle.std.specs.Prelude.{ℕ, ◌+◌, ◌-◌, ◌%◌, Bool, not, ◌&&◌, ◌||◌, cond as if, [], ◌∷◌, eqb, ltb, length, get_or}
use Rattle.std.specs.Int.Bits.{bit_and, bit_or}
use Rattle.rules.specs.Tables.{LineTable, SwiTable, ClockTable, StateRow, swi_count, swi_width, swi_levels, clock_count, word_end, swi, with_swi, swi_row, clock}
use Rattle.rules.specs.Tables.{state, USED, PRIORITY, TRIGGER, POSTED, TAKEN, SWIS}
use Rattle.basics.specs.Lists.{zeros, count}
use Rattle.basics.specs.Find.{all_below, first_below}
use Rattle.rules.specs.Answer.{Cases, given, on_object, never, CallRule, called, Effect, accepted, unknown, done, not_t, not_s, unused}
use Rattle.rules.specs.Lines.{line, out_of, joined, posted_line, active_line}

-- what a Swi's calls may change
pub record SwiQueues : Type 0 where
  pub swis : SwiTable
  pub lines : LineTable

abbrev pub swi_queues : SwiTable → LineTable → SwiQueues
swi_queues ws ls = record { swis = ws; lines = ls }

-- the top active Swi: the last to start
unfoldable pub top : LineTable → ℕ
top ls = get_or (line ls active_line) (length (line ls active_line) - 1) 0

unfoldable pub is_active : LineTable → ℕ → Bool
is_active ls i = ltb 0 (count i (line ls active_line))

-- "named by a clock"
unfoldable pub is_named : ClockTable → ℕ → Bool
is_named cs i = not (all_below clock_count (λ n. not (eqb (clock cs n).used 1 && eqb (clock cs n).swi i)))

unfoldable pub free_swi : SwiTable → ℕ
free_swi ws = first_below swi_count (λ i. eqb (swi ws i USED) 0)

-- "A Swi already posted is not queued again"; it joins its priority's queue at the back; no Swi i, no change
unfoldable pub posted : ℕ → SwiQueues → SwiQueues
posted i p =
    if (ltb i swi_count && eqb (swi p.swis i POSTED) 0)
    (swi_queues (with_swi p.swis i POSTED 1) (joined (posted_line (swi p.swis i PRIORITY)) i p.lines))
    p

-- Swi i's trigger is this now
abbrev pub triggered : ℕ → ℕ → SwiQueues → SwiQueues
triggered i v p = swi_queues (with_swi p.swis i TRIGGER v) p.lines

-- "The tick count and the triggers go round at 4,294,967,296."
abbrev pub one_up : ℕ → ℕ
one_up v = (v + 1) % word_end

abbrev pub one_down : ℕ → ℕ
one_down v = if (eqb v 0) (word_end - 1) (v - 1)

-- the bits of v that are not in the mask
abbrev pub cleared : ℕ → ℕ → ℕ
cleared v mask = bit_and v (word_end - 1 - mask)

-- ---- "10 create (priority 0 to 15, initial trigger; T): value its number."
unfoldable pub create_cases : SwiTable → ℕ → ℕ → ℕ → ℕ → ℕ → Cases
create_cases ws x priority initial c d =
    given 2 (not_t x) (given 4 (not (ltb priority swi_levels) || unused 0 0 c d) (given 6 (eqb (free_swi ws) swi_count) never))

unfoldable pub create_effect : SwiQueues → ℕ → ℕ → Effect SwiQueues
create_effect p priority initial =
    accepted done (free_swi p.swis)
    (swi_queues (swi_row p.swis (free_swi p.swis) (1 ∷ priority ∷ initial ∷ initial ∷ 0 ∷ 0 ∷ [])) p.lines)

abbrev pub create_call : SwiQueues → ℕ → ℕ → ℕ → ℕ → ℕ → CallRule SwiQueues
create_call p x a b c d = called (create_cases p.swis x a b c d) (create_effect p a b)

-- ---- "11 delete (T): 5 if posted, active or named by a clock."
unfoldable pub delete_cases : SwiTable → LineTable → ClockTable → ℕ → ℕ → ℕ → ℕ → ℕ → Cases
delete_cases ws ls cs x a b c d =
    given 2 (not_t x)
    (on_object swi_count a (swi ws a USED)
    (given 4 (unused 0 b c d)
    (given 5 (not (eqb (swi ws a POSTED) 0) || is_active ls a || is_named cs a) never)))

unfoldable pub delete_effect : SwiQueues → ℕ → Effect SwiQueues
delete_effect p a = accepted done 0 (swi_queues (swi_row p.swis a (zeros swi_width)) p.lines)

abbrev pub delete_call : SwiQueues → ClockTable → ℕ → ℕ → ℕ → ℕ → ℕ → CallRule SwiQueues
delete_call p cs x a b c d = called (delete_cases p.swis p.lines cs x a b c d) (delete_effect p a)

-- ---- "T S I: 12 post; 13 add one and post; 14 take one and post if now 0; 15 set mask bits and post; 16 clear mask bits and post if now 0."
-- "A Swi already posted is not queued again, its trigger still changes. An active one may be posted."
unfoldable pub post_cases : SwiTable → ℕ → ℕ → ℕ → ℕ → Cases
post_cases ws a b c d = on_object swi_count a (swi ws a USED) (given 4 (unused 0 b c d) never)

-- the same for the calls with a mask
unfoldable pub mask_cases : SwiTable → ℕ → ℕ → ℕ → Cases
mask_cases ws a c d = on_object swi_count a (swi ws a USED) (given 4 (unused 0 0 c d) never)

unfoldable pub post_effect : SwiQueues → ℕ → Effect SwiQueues
post_effect p a = accepted done 0 (posted a p)

-- the trigger is v now, and the Swi posted
unfoldable pub change_effect : SwiQueues → ℕ → ℕ → Effect SwiQueues
change_effect p a v = accepted done 0 (posted a (triggered a v p))

-- the trigger is v now, and the Swi posted if that is 0
unfoldable pub zero_effect : SwiQueues → ℕ → ℕ → Effect SwiQueues
zero_effect p a v = accepted done 0 (if (eqb v 0) (posted a (triggered a v p)) (triggered a v p))

abbrev pub post_call : SwiQueues → ℕ → ℕ → ℕ → ℕ → CallRule SwiQueues
post_call p a b c d = called (post_cases p.swis a b c d) (post_effect p a)

abbrev pub add_call : SwiQueues → ℕ → ℕ → ℕ → ℕ → CallRule SwiQueues
add_call p a b c d = called (post_cases p.swis a b c d) (change_effect p a (one_up (swi p.swis a TRIGGER)))

abbrev pub take_call : SwiQueues → ℕ → ℕ → ℕ → ℕ → CallRule SwiQueues
take_call p a b c d = called (post_cases p.swis a b c d) (zero_effect p a (one_down (swi p.swis a TRIGGER)))

abbrev pub set_bits_call : SwiQueues → ℕ → ℕ → ℕ → ℕ → CallRule SwiQueues
set_bits_call p a mask c d = called (mask_cases p.swis a c d) (change_effect p a (bit_or (swi p.swis a TRIGGER) mask))

abbrev pub clear_bits_call : SwiQueues → ℕ → ℕ → ℕ → ℕ → CallRule SwiQueues
clear_bits_call p a mask c d = called (mask_cases p.swis a c d) (zero_effect p a (cleared (swi p.swis a TRIGGER) mask))

-- ---- "17 end (S): 9 while Swis are off."
unfoldable pub end_cases : StateRow → ℕ → ℕ → ℕ → ℕ → ℕ → Cases
end_cases st x a b c d = given 2 (not_s x) (given 4 (unused a b c d) (given 9 (eqb (state st SWIS) 0) never))

-- "the taken trigger of a Swi not active" is 0
unfoldable pub end_effect : SwiQueues → Effect SwiQueues
end_effect p = accepted done 0 (swi_queues (with_swi p.swis (top p.lines) TAKEN 0) (out_of active_line (top p.lines) p.lines))

abbrev pub end_call : SwiQueues → StateRow → ℕ → ℕ → ℕ → ℕ → ℕ → CallRule SwiQueues
end_call p st x a b c d = called (end_cases st x a b c d) (end_effect p)

-- ---- "18 taken trigger (S): value."
unfoldable pub taken_cases : ℕ → ℕ → ℕ → ℕ → ℕ → Cases
taken_cases x a b c d = given 2 (not_s x) (given 4 (unused a b c d) never)

unfoldable pub taken_effect : SwiQueues → Effect SwiQueues
taken_effect p = accepted done (swi p.swis (top p.lines) TAKEN) p

abbrev pub taken_call : SwiQueues → ℕ → ℕ → ℕ → ℕ → ℕ → CallRule SwiQueues
taken_call p x a b c d = called (taken_cases x a b c d) (taken_effect p)

-- ---- the calls by number
unfoldable pub swi_call : SwiQueues → ClockTable → StateRow → ℕ → ℕ → ℕ → ℕ → ℕ → ℕ → CallRule SwiQueues
swi_call p cs st x number a b c d =
    if (eqb number 0x10) (create_call p x a b c d)
    (if (eqb number 0x11) (delete_call p cs x a b c d)
    (if (eqb number 0x12) (post_call p a b c d)
    (if (eqb number 0x13) (add_call p a b c d)
    (if (eqb number 0x14) (take_call p a b c d)
    (if (eqb number 0x15) (set_bits_call p a b c d)
    (if (eqb number 0x16) (clear_bits_call p a b c d)
    (if (eqb number 0x17) (end_call p st x a b c d)
    (if (eqb number 0x18) (taken_call p x a b c d) (unknown p)))))))))
