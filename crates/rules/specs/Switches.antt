-- 01, 'Switches', as No. 10 amends it: calls 74, 75, 77 and 78; 76, the tick, is in Tick.
use Rattle.std.specs.Prelude.{ℕ, ◌+◌, ◌-◌, Bool, not, ◌&&◌, ◌||◌, cond as if, eqb, ltb}
use Rattle.std.specs.Int.Bits.{bit_and, bit_or}
use Rattle.rules.specs.Tables.{StateRow, most_depth, state, with_state, DEPTH, SWIS, TASKS}
use Rattle.rules.specs.Answer.{Cases, given, never, CallRule, called, Effect, accepted, done, S, not_i, not_ts, unused}

-- ---- No. 10: "77 (which; T S) turns off Swis (1), tasks (2) or both (3)": the bits by which a call names the switches
abbrev pub swis_bit : ℕ
swis_bit = 1

abbrev pub tasks_bit : ℕ
tasks_bit = 2

abbrev pub both_bits : ℕ
both_bits = 3

abbrev pub has : ℕ → ℕ → Bool
has bits bit = not (eqb (bit_and bits bit) 0)

-- a switch is 1 (on) or 0 (off); what is on has its bit
abbrev pub on : ℕ
on = 1

abbrev pub off : ℕ
off = 0

abbrev pub setting : ℕ → ℕ → ℕ
setting switch bit = if (eqb switch off) 0 bit

abbrev pub settings : StateRow → ℕ
settings st = bit_or (setting (state st SWIS) swis_bit) (setting (state st TASKS) tasks_bit)

-- the switches that these bits name are v now, and the others as they were
abbrev pub turned : ℕ → ℕ → StateRow → StateRow
turned bits v st =
    let swis = if (has bits swis_bit) (with_state st SWIS v) st in
    if (has bits tasks_bit) (with_state swis TASKS v) swis

-- "T S", and "2 for a Swi naming anything but 1"
abbrev pub may_not_name : ℕ → ℕ → Bool
may_not_name x which = not_ts x || (eqb x S && not (eqb which swis_bit))

-- "4 for 0, for values above 3"
abbrev pub bad_which : ℕ → Bool
bad_which which = eqb which 0 || ltb both_bits which

-- "4 .. for key bits not named"
abbrev pub bad_key : ℕ → ℕ → Bool
bad_key which key = not (eqb (bit_and which key) key)

-- "for a Swi, code 2 comes first": so it stands in the order of the codes
unfoldable pub off_cases : ℕ → ℕ → ℕ → ℕ → ℕ → Cases
off_cases x which b c d = given 2 (may_not_name x which) (given 4 (bad_which which || unused 0 b c d) never)

unfoldable pub restore_cases : ℕ → ℕ → ℕ → ℕ → ℕ → Cases
restore_cases x which key c d = given 2 (may_not_name x which) (given 4 (bad_which which || bad_key which key || unused 0 0 c d) never)

-- "turns off Swis (1), tasks (2) or both (3) and answers the named ones' old settings in the same bits"
unfoldable pub off_effect : StateRow → ℕ → Effect StateRow
off_effect st which = accepted done (bit_and (settings st) which) (turned which off st)

abbrev pub off_call : StateRow → ℕ → ℕ → ℕ → ℕ → ℕ → CallRule StateRow
off_call st x a b c d = called (off_cases x a b c d) (off_effect st a)

-- "78 (which, key; T S) turns on those of the named switches whose bit in the key is set and changes no other"
unfoldable pub restore_effect : StateRow → ℕ → ℕ → Effect StateRow
restore_effect st which key = accepted done 0 (turned (bit_and which key) on st)

abbrev pub restore_call : StateRow → ℕ → ℕ → ℕ → ℕ → ℕ → CallRule StateRow
restore_call st x a b c d = called (restore_cases x a b c d) (restore_effect st a b)

-- ---- "74 interrupt in (T S I), 7 at depth 8; 75 out, 76 tick (I)." "Interrupt depth 0 to 8"
unfoldable pub in_cases : StateRow → ℕ → ℕ → ℕ → ℕ → Cases
in_cases st a b c d = given 4 (unused a b c d) (given 7 (not (ltb (state st DEPTH) most_depth)) never)

unfoldable pub in_effect : StateRow → Effect StateRow
in_effect st = accepted done 0 (if (ltb (state st DEPTH) most_depth) (with_state st DEPTH (state st DEPTH + 1)) st)

abbrev pub in_call : StateRow → ℕ → ℕ → ℕ → ℕ → CallRule StateRow
in_call st a b c d = called (in_cases st a b c d) (in_effect st)

-- of 75 out and of the tick, 76, which an interrupt alone may make
unfoldable pub interrupt_cases : ℕ → ℕ → ℕ → ℕ → ℕ → Cases
interrupt_cases x a b c d = given 2 (not_i x) (given 4 (unused a b c d) never)

unfoldable pub out_effect : StateRow → Effect StateRow
out_effect st = accepted done 0 (with_state st DEPTH (state st DEPTH - 1))

abbrev pub out_call : StateRow → ℕ → ℕ → ℕ → ℕ → ℕ → CallRule StateRow
out_call st x a b c d = called (interrupt_cases x a b c d) (out_effect st)
