-- 01, 'Clocks': calls 50 to 53.
use Rattle.std.specs.Prelude.{ℕ, ◌||◌, cond as if, eqb}
use Rattle.rules.specs.Tables.{SwiTable, ClockTable, swi_count, clock_count, clock, with_clock, no_clock, swi, USED}
use Rattle.basics.specs.Find.{first_below}
use Rattle.rules.specs.Answer.{Cases, given, on_object, never, CallRule, called, Effect, accepted, unknown, done, not_t, unused}
use Rattle.rules.specs.declared.Clock.{Clock}

unfoldable pub free_clock : ClockTable → ℕ
free_clock cs = first_below clock_count (λ i. eqb (clock cs i).used 0)

-- the clock with this many ticks left; with none it is stopped
abbrev pub with_left : Clock → ℕ → Clock
with_left k n = record { used = k.used; swi = k.swi; first = k.first; period = k.period; left = n }

-- ---- "50 create (Swi, first ticks from 1, period from 0; T): value its number; stopped."
unfoldable pub create_cases : ClockTable → SwiTable → ℕ → ℕ → ℕ → ℕ → Cases
create_cases cs ws x i ticks d =
    given 2 (not_t x)
    (on_object swi_count i (swi ws i USED)
    (given 4 (eqb ticks 0 || unused 0 0 0 d)
    (given 6 (eqb (free_clock cs) clock_count) never)))

unfoldable pub create_effect : ClockTable → ℕ → ℕ → ℕ → Effect ClockTable
create_effect cs i ticks period =
    accepted done (free_clock cs) (with_clock cs (free_clock cs) (record { used = 1; swi = i; first = ticks; period = period; left = 0 }))

abbrev pub create_call : ClockTable → SwiTable → ℕ → ℕ → ℕ → ℕ → ℕ → CallRule ClockTable
create_call cs ws x a b c d = called (create_cases cs ws x a b d) (create_effect cs a b c)

-- ---- "51 delete (T)."
unfoldable pub delete_cases : ClockTable → ℕ → ℕ → ℕ → ℕ → ℕ → Cases
delete_cases cs x a b c d = given 2 (not_t x) (on_object clock_count a (clock cs a).used (given 4 (unused 0 b c d) never))

unfoldable pub delete_effect : ClockTable → ℕ → Effect ClockTable
delete_effect cs a = accepted done 0 (with_clock cs a no_clock)

abbrev pub delete_call : ClockTable → ℕ → ℕ → ℕ → ℕ → ℕ → CallRule ClockTable
delete_call cs x a b c d = called (delete_cases cs x a b c d) (delete_effect cs a)

-- ---- "52 start, 53 stop (T S I): start sets the first ticks again."
unfoldable pub start_stop_cases : ClockTable → ℕ → ℕ → ℕ → ℕ → Cases
start_stop_cases cs a b c d = on_object clock_count a (clock cs a).used (given 4 (unused 0 b c d) never)

unfoldable pub start_effect : ClockTable → ℕ → Effect ClockTable
start_effect cs a = accepted done 0 (with_clock cs a (with_left (clock cs a) (clock cs a).first))

abbrev pub start_call : ClockTable → ℕ → ℕ → ℕ → ℕ → CallRule ClockTable
start_call cs a b c d = called (start_stop_cases cs a b c d) (start_effect cs a)

-- "a stopped clock's ticks" are 0
unfoldable pub stop_effect : ClockTable → ℕ → Effect ClockTable
stop_effect cs a = accepted done 0 (with_clock cs a (with_left (clock cs a) 0))

abbrev pub stop_call : ClockTable → ℕ → ℕ → ℕ → ℕ → CallRule ClockTable
stop_call cs a b c d = called (start_stop_cases cs a b c d) (stop_effect cs a)

-- ---- the calls by number
unfoldable pub clock_call : ClockTable → SwiTable → ℕ → ℕ → ℕ → ℕ → ℕ → ℕ → CallRule ClockTable
clock_call cs ws x number a b c d =
    if (eqb number 0x50) (create_call cs ws x a b c d)
    (if (eqb number 0x51) (delete_call cs x a b c d)
    (if (eqb number 0x52) (start_call cs a b c d)
    (if (eqb number 0x53) (stop_call cs a b c d) (unknown cs))))
