-- Examples in few words: calls by their names, what they said, and what a run of calls says.
-- In this order: what is asked and said; calls one after the other; and the calls by name: tasks, Swis, semaphores, events, mailboxes, clocks, the
-- heap, switches.
use Prim.Native.Nat.{ℕ}
use Prim.Native.Char.{code}
use Prim.Native.String.{String, [] as no_text, ◌∷◌ as ◌then◌}
use mathlib.Core.Path.{◌≡◌}
use mathlib.Core.List.{List, [], ◌∷◌}
use lib.ListN.{length}
use Rattle.rules.specs.Tables.{semaphore, event, swi, clock, state, COUNT, BITS, TRIGGER, POSTED, TICK}
use Rattle.rules.specs.Lines.{line, semaphore_line}
use Rattle.rules.specs.Step.{call}
use Rattle.rules.specs.declared.Tables.{Tables}
use Rattle.rules.specs.declared.Step.{Step}
use Rattle.rules.specs.declared.Thread.{Thread}
use Rattle.rules.specs.declared.Thread.TheVariants.{Task, Swi, Interrupt}

infix 20 ◌runs◌
infix 70 ◌⇒◌
-- a call's number and four arguments; or a look at the tables between two calls
pub data Asked : Type 0 where
  asked : ℕ → ℕ → ℕ → ℕ → ℕ → Asked
  look : (Tables → ℕ) → Asked

-- the columns of 01's sample: code, outcome, value, thread; or what was seen
pub data Said : Type 0 where
  said : ℕ → ℕ → ℕ → Thread → Said
  saw : ℕ → Said

-- a call, and what it says
pub data Line : Type 0 where
  ◌⇒◌ : Asked → Said → Line

-- "Threads print as T or S with a number, or I"
abbrev pub T : ℕ → Thread
T n = Task n

abbrev pub S : ℕ → Thread
S n = Swi n

abbrev pub I : Thread
I = Interrupt

-- ---- the calls one after the other, by `call`, so that soundness is tested before each
abbrev pub first : Step → (Tables → List Said) → List Said
first s others = said s.answer.code s.answer.outcome s.answer.value s.thread ∷ others s.tables

unfoldable pub says : Tables → List Asked → List Said
says t [] = []
says t (asked n a b c d ∷ xs) = first (call t n a b c d) (λ u. says u xs)
says t (look f ∷ xs) = saw (f t) ∷ says t xs

abbrev pub calls : List Line → List Asked
calls [] = []
calls ((x ⇒ y) ∷ ls) = x ∷ calls ls

abbrev pub answers : List Line → List Said
answers [] = []
answers ((x ⇒ y) ∷ ls) = y ∷ answers ls

-- from these tables on, each call says what stands beside it
pub record ◌runs◌ (t : Tables) (ls : List Line) : Type 0 where
  pub so : says t (calls ls) ≡ answers ls

-- several runs, each from these tables
abbrev pub AllRun : Tables → List (List Line) → Type 0
AllRun t [] = Unit {0}
AllRun t (ls ∷ rest) = (t runs ls) × AllRun t rest

-- a text's bytes, for a text whose characters are one byte each
unfoldable pub ascii : String → List ℕ
ascii no_text = []
ascii (c then s) = code c ∷ ascii s

-- ---- tasks
abbrev pub create_task : ℕ → Asked
create_task priority = asked 0x00 priority 0 0 0

abbrev pub delete_task : ℕ → Asked
delete_task i = asked 0x01 i 0 0 0

abbrev pub set_priority : ℕ → ℕ → Asked
set_priority i priority = asked 0x02 i priority 0 0

abbrev pub yield : Asked
yield = asked 0x03 0 0 0 0

abbrev pub end : Asked
end = asked 0x04 0 0 0 0

abbrev pub sleep : ℕ → Asked
sleep n = asked 0x05 n 0 0 0

abbrev pub last_result : ℕ → Asked
last_result i = asked 0x06 i 0 0 0

-- ---- Swis
abbrev pub create_swi : ℕ → ℕ → Asked
create_swi priority trigger = asked 0x10 priority trigger 0 0

abbrev pub delete_swi : ℕ → Asked
delete_swi i = asked 0x11 i 0 0 0

abbrev pub post_swi : ℕ → Asked
post_swi i = asked 0x12 i 0 0 0

abbrev pub add_one : ℕ → Asked
add_one i = asked 0x13 i 0 0 0

abbrev pub take_one : ℕ → Asked
take_one i = asked 0x14 i 0 0 0

abbrev pub clear_bits : ℕ → ℕ → Asked
clear_bits i mask = asked 0x16 i mask 0 0

abbrev pub end_swi : Asked
end_swi = asked 0x17 0 0 0 0

abbrev pub taken_trigger : Asked
taken_trigger = asked 0x18 0 0 0 0

abbrev pub trigger_of : ℕ → Asked
trigger_of i = look λ t. swi t.swis i TRIGGER

abbrev pub posted_of : ℕ → Asked
posted_of i = look λ t. swi t.swis i POSTED

-- ---- semaphores
abbrev pub create_semaphore : ℕ → ℕ → Asked
create_semaphore kind count = asked 0x20 kind count 0 0

abbrev pub delete_semaphore : ℕ → Asked
delete_semaphore i = asked 0x21 i 0 0 0

abbrev pub pend : ℕ → ℕ → Asked
pend i limit = asked 0x22 i limit 0 0

abbrev pub post : ℕ → Asked
post i = asked 0x23 i 0 0 0

abbrev pub count_of : ℕ → Asked
count_of i = look λ t. semaphore t.semaphores i COUNT

abbrev pub waiters_at : ℕ → Asked
waiters_at i = look λ t. length (line t.lines (semaphore_line i))

-- ---- events
abbrev pub create_event : Asked
create_event = asked 0x30 0 0 0 0

abbrev pub delete_event : ℕ → Asked
delete_event i = asked 0x31 i 0 0 0

abbrev pub pend_event : ℕ → ℕ → ℕ → ℕ → Asked
pend_event i and_mask or_mask limit = asked 0x32 i and_mask or_mask limit

abbrev pub post_event : ℕ → ℕ → Asked
post_event i mask = asked 0x33 i mask 0 0

abbrev pub bits_of : ℕ → Asked
bits_of i = look λ t. event t.events i BITS

-- ---- mailboxes
abbrev pub create_mailbox : ℕ → Asked
create_mailbox capacity = asked 0x40 capacity 0 0 0

abbrev pub delete_mailbox : ℕ → Asked
delete_mailbox i = asked 0x41 i 0 0 0

abbrev pub post_mailbox : ℕ → ℕ → ℕ → Asked
post_mailbox i word limit = asked 0x42 i word limit 0

abbrev pub pend_mailbox : ℕ → ℕ → Asked
pend_mailbox i limit = asked 0x43 i limit 0 0

-- ---- clocks
abbrev pub create_clock : ℕ → ℕ → ℕ → Asked
create_clock i first_ticks period = asked 0x50 i first_ticks period 0

abbrev pub delete_clock : ℕ → Asked
delete_clock i = asked 0x51 i 0 0 0

abbrev pub start_clock : ℕ → Asked
start_clock i = asked 0x52 i 0 0 0

abbrev pub stop_clock : ℕ → Asked
stop_clock i = asked 0x53 i 0 0 0

abbrev pub ticks_of : ℕ → Asked
ticks_of i = look λ t. (clock t.clocks i).left

-- ---- the heap
abbrev pub take : ℕ → Asked
take bytes = asked 0x60 bytes 0 0 0

abbrev pub give_back : ℕ → ℕ → Asked
give_back offset bytes = asked 0x61 offset bytes 0 0

-- ---- switches
-- the switches named by their bits: Swis 1, tasks 2
abbrev pub turn_off : ℕ → Asked
turn_off which = asked 0x77 which 0 0 0

abbrev pub restore : ℕ → ℕ → Asked
restore which key = asked 0x78 which key 0 0

abbrev pub swis_off : Asked
swis_off = turn_off 1

abbrev pub restore_swis : ℕ → Asked
restore_swis key = restore 1 key

abbrev pub tasks_off : Asked
tasks_off = turn_off 2

abbrev pub restore_tasks : ℕ → Asked
restore_tasks key = restore 2 key

abbrev pub interrupt_in : Asked
interrupt_in = asked 0x74 0 0 0 0

abbrev pub interrupt_out : Asked
interrupt_out = asked 0x75 0 0 0 0

abbrev pub tick : Asked
tick = asked 0x76 0 0 0 0

abbrev pub tick_count : Asked
tick_count = look λ t. state t.state TICK
