-- 01, 'Both sides of each line': cases a to l, under a single proof. Each is computed from the definitions.
use Prim.Native.Nat.{ℕ}
use mathlib.Core.Path.{◌≡◌, refl, ap, ◌∙◌}
use mathlib.Core.Bool.{true}
use mathlib.Core.List.{List, [], ◌∷◌, ◌++◌}
use Rattle.rules.specs.Tables.{tables, Typed}
use Rattle.rules.specs.Fresh.{fresh, fresh_with}
use Rattle.rules.specs.Sound.{sound}
use Rattle.rules.specs.Text.{text_of}
use Rattle.rules.specs.Replay.{replay_lines, replay_text}
use Rattle.rules.specs.declared.Tables.{Tables}
use Rattle.rules_laws.proofs.Runs.{Line, ◌runs◌, AllRun, ◌⇒◌, said, saw, T, S, I, ascii, create_task, last_result, create_swi, post_swi, take_one, clear_bits}
use Rattle.rules_laws.proofs.Runs.{taken_trigger, trigger_of, posted_of, create_semaphore, pend, post, count_of, waiters_at, create_event, pend_event, post_event}
use Rattle.rules_laws.proofs.Runs.{bits_of, take, give_back, interrupt_in, interrupt_out, tick, tick_count}
use Rattle.rules.proofs.Computed.{computed}
use Rattle.rules_laws.proofs.Fresh.{fresh-sound, fresh-typed}
use Rattle.demand_2_soundness.proofs.RunsBySteps.{runs-by-steps, steps}

-- ---- "Replay of: create at 5; semaphore kind 0 count 0; pend on 0 without end; post 0; post 7."
-- a record: length 00 12, version 01, the call number, and four arguments of four bytes
unfoldable pub sample : List ℕ
sample =
    (0x00 ∷ 0x12 ∷ 0x01 ∷ 0x00 ∷ 0x00 ∷ 0x00 ∷ 0x00 ∷ 0x05 ∷ 0 ∷ 0 ∷ 0 ∷ 0 ∷ 0 ∷ 0 ∷ 0 ∷ 0 ∷ 0 ∷ 0 ∷ 0 ∷ 0 ∷ [])
    ++ (0x00 ∷ 0x12 ∷ 0x01 ∷ 0x20 ∷ 0x00 ∷ 0x00 ∷ 0x00 ∷ 0x00 ∷ 0 ∷ 0 ∷ 0 ∷ 0 ∷ 0 ∷ 0 ∷ 0 ∷ 0 ∷ 0 ∷ 0 ∷ 0 ∷ 0 ∷ [])
    ++ (0x00 ∷ 0x12 ∷ 0x01 ∷ 0x22 ∷ 0x00 ∷ 0x00 ∷ 0x00 ∷ 0x00 ∷ 0xff ∷ 0xff ∷ 0xff ∷ 0xff ∷ 0 ∷ 0 ∷ 0 ∷ 0 ∷ 0 ∷ 0 ∷ 0 ∷ 0 ∷ [])
    ++ (0x00 ∷ 0x12 ∷ 0x01 ∷ 0x23 ∷ 0x00 ∷ 0x00 ∷ 0x00 ∷ 0x00 ∷ 0 ∷ 0 ∷ 0 ∷ 0 ∷ 0 ∷ 0 ∷ 0 ∷ 0 ∷ 0 ∷ 0 ∷ 0 ∷ 0 ∷ [])
    ++ (0x00 ∷ 0x12 ∷ 0x01 ∷ 0x23 ∷ 0x00 ∷ 0x00 ∷ 0x00 ∷ 0x07 ∷ 0 ∷ 0 ∷ 0 ∷ 0 ∷ 0 ∷ 0 ∷ 0 ∷ 0 ∷ 0 ∷ 0 ∷ 0 ∷ 0 ∷ [])

-- "Columns: record, code, outcome, value, thread."; No. 2: "the sample's fifth line reads `5 11 0 3 T1`"
unfoldable pub printed : List (List ℕ)
printed =
    ascii "1 0 0 1 T1"
    ∷ ascii "2 0 0 0 T1"
    ∷ ascii "3 0 2 0 T0"
    ∷ ascii "4 0 0 1 T1"
    ∷ ascii "5 11 0 3 T1"
    ∷ ascii "end 5"
    ∷ []

-- fresh tables, but that the tick count is two ticks from its end
unfoldable pub late : Tables
unfolding fresh_with
late =
    tables fresh.tasks fresh.lines fresh.semaphores fresh.events fresh.mailboxes fresh.swis fresh.clocks fresh.heap
    (0 ∷ 1 ∷ 1 ∷ 4294967294 ∷ 0 ∷ 16 ∷ [])

-- "(b) counting post at 65,534 accepted, at 65,535 code 7", of kind 0 and of kind 2
abbrev pub case-b : List Line
case-b =
    create_semaphore 0 65534 ⇒ said 0 0 0 (T 0)
    ∷ create_semaphore 2 65534 ⇒ said 0 0 1 (T 0)
    ∷ post 0 ⇒ said 0 0 0 (T 0)
    ∷ count_of 0 ⇒ saw 65535
    ∷ post 0 ⇒ said 7 0 0 (T 0)
    ∷ count_of 0 ⇒ saw 65535
    ∷ post 1 ⇒ said 0 0 0 (T 0)
    ∷ count_of 1 ⇒ saw 65535
    ∷ post 1 ⇒ said 7 0 0 (T 0)
    ∷ count_of 1 ⇒ saw 65535
    ∷ []

-- "(c) binary post at 1 stays 1", of kind 1 and of kind 3: one pend is done and the next is not met; from 0 it goes to 1
abbrev pub case-c : List Line
case-c =
    create_semaphore 1 1 ⇒ said 0 0 0 (T 0)
    ∷ create_semaphore 3 1 ⇒ said 0 0 1 (T 0)
    ∷ post 0 ⇒ said 0 0 0 (T 0)
    ∷ count_of 0 ⇒ saw 1
    ∷ pend 0 0 ⇒ said 0 0 0 (T 0)
    ∷ pend 0 0 ⇒ said 0 1 0 (T 0)
    ∷ post 0 ⇒ said 0 0 0 (T 0)
    ∷ count_of 0 ⇒ saw 1
    ∷ post 1 ⇒ said 0 0 0 (T 0)
    ∷ count_of 1 ⇒ saw 1
    ∷ pend 1 0 ⇒ said 0 0 0 (T 0)
    ∷ pend 1 0 ⇒ said 0 1 0 (T 0)
    ∷ []

-- "(d) trigger 1 taken down posts, 0 taken down becomes 4,294,967,295 and does not"
abbrev pub case-d : List Line
case-d =
    create_swi 3 1 ⇒ said 0 0 0 (T 0)
    ∷ create_swi 3 0 ⇒ said 0 0 1 (T 0)
    ∷ take_one 1 ⇒ said 0 0 0 (T 0)
    ∷ trigger_of 1 ⇒ saw 4294967295
    ∷ posted_of 1 ⇒ saw 0
    ∷ take_one 0 ⇒ said 0 0 0 (S 0)
    ∷ taken_trigger ⇒ said 0 0 0 (S 0)
    ∷ trigger_of 0 ⇒ saw 1
    ∷ []

-- "(e) clearing bits of a zero trigger posts"; a trigger that is not 0 then does not
abbrev pub case-e : List Line
case-e =
    create_swi 3 0 ⇒ said 0 0 0 (T 0)
    ∷ create_swi 3 6 ⇒ said 0 0 1 (T 0)
    ∷ clear_bits 1 2 ⇒ said 0 0 0 (T 0)
    ∷ trigger_of 1 ⇒ saw 4
    ∷ posted_of 1 ⇒ saw 0
    ∷ clear_bits 0 5 ⇒ said 0 0 0 (S 0)
    ∷ []

-- "(f) and-mask 3, or-mask 0 with bit 1 only posted does not match", for either bit alone; both do
abbrev pub case-f : List Line
case-f =
    create_event ⇒ said 0 0 0 (T 0)
    ∷ post_event 0 1 ⇒ said 0 0 0 (T 0)
    ∷ pend_event 0 3 0 0 ⇒ said 0 1 0 (T 0)
    ∷ post_event 0 2 ⇒ said 0 0 0 (T 0)
    ∷ pend_event 0 3 0 0 ⇒ said 0 0 3 (T 0)
    ∷ bits_of 0 ⇒ saw 0
    ∷ post_event 0 2 ⇒ said 0 0 0 (T 0)
    ∷ pend_event 0 3 0 0 ⇒ said 0 1 0 (T 0)
    ∷ bits_of 0 ⇒ saw 2
    ∷ []

-- "(g) heap 2,048 taken, then 1 is code 8, given back, 2,048 again"
abbrev pub case-g : List Line
case-g =
    take 2048 ⇒ said 0 0 0 (T 0)
    ∷ take 1 ⇒ said 8 0 0 (T 0)
    ∷ give_back 0 2048 ⇒ said 0 0 0 (T 0)
    ∷ take 2048 ⇒ said 0 0 0 (T 0)
    ∷ []

-- "(h) 9 bytes take 2 units", so that the next block is at byte 16; 8 bytes take 1
abbrev pub case-h : List Line
case-h =
    take 9 ⇒ said 0 0 0 (T 0)
    ∷ take 8 ⇒ said 0 0 16 (T 0)
    ∷ take 1 ⇒ said 0 0 24 (T 0)
    ∷ []

-- "(i) priority 15 is made, 16 is code 4"
abbrev pub case-i : List Line
case-i =
    create_task 15 ⇒ said 0 0 1 (T 1)
    ∷ create_task 16 ⇒ said 4 0 0 (T 1)
    ∷ []

-- "(j) limit 1 expires on the next tick": task 1's, and task 2's limit of 2 does not
abbrev pub case-j : List Line
case-j =
    create_semaphore 0 0 ⇒ said 0 0 0 (T 0)
    ∷ create_task 5 ⇒ said 0 0 1 (T 1)
    ∷ pend 0 1 ⇒ said 0 2 0 (T 0)
    ∷ create_task 4 ⇒ said 0 0 2 (T 2)
    ∷ pend 0 2 ⇒ said 0 2 0 (T 0)
    ∷ interrupt_in ⇒ said 0 0 0 I
    ∷ tick ⇒ said 0 0 0 I
    ∷ waiters_at 0 ⇒ saw 1
    ∷ last_result 1 ⇒ said 0 1 0 I
    ∷ last_result 2 ⇒ said 0 0 0 I
    ∷ interrupt_out ⇒ said 0 0 0 (T 1)
    ∷ []

-- "(k) equal Swi does not preempt"; a higher one does
abbrev pub case-k : List Line
case-k =
    create_swi 3 0 ⇒ said 0 0 0 (T 0)
    ∷ create_swi 3 0 ⇒ said 0 0 1 (T 0)
    ∷ create_swi 4 0 ⇒ said 0 0 2 (T 0)
    ∷ post_swi 0 ⇒ said 0 0 0 (S 0)
    ∷ post_swi 1 ⇒ said 0 0 0 (S 0)
    ∷ post_swi 2 ⇒ said 0 0 0 (S 2)
    ∷ []

-- "(l) tick beyond 4,294,967,295 gives 0"
abbrev pub case-l : List Line
case-l =
    interrupt_in ⇒ said 0 0 0 I
    ∷ tick ⇒ said 0 0 0 I
    ∷ tick_count ⇒ saw 4294967295
    ∷ tick ⇒ said 0 0 0 I
    ∷ tick_count ⇒ saw 0
    ∷ []

abbrev pub from-b-to-k : List (List Line)
from-b-to-k = case-b ∷ case-c ∷ case-d ∷ case-e ∷ case-f ∷ case-g ∷ case-h ∷ case-i ∷ case-j ∷ case-k ∷ []

pub record CasesAToL : Type 0 where
  -- "(a) the five calls above": the lines, the whole text, and the first line's bytes
  pub a : replay_lines sample ≡ printed
  pub a-text : replay_text sample ≡ ascii "1 0 0 1 T1\n2 0 0 0 T1\n3 0 2 0 T0\n4 0 0 1 T1\n5 11 0 3 T1\nend 5\n"
  pub a-bytes : ascii "1 0 0 1 T1" ≡ 0x31 ∷ 0x20 ∷ 0x30 ∷ 0x20 ∷ 0x30 ∷ 0x20 ∷ 0x31 ∷ 0x20 ∷ 0x54 ∷ 0x31 ∷ []
  pub b-to-k : AllRun fresh from-b-to-k
  pub l : late runs case-l

replayed : replay_lines sample ≡ printed
unfolding computed ascii sample printed
replayed = refl

replayed-text : text_of printed ≡ ascii "1 0 0 1 T1\n2 0 0 0 T1\n3 0 2 0 T0\n4 0 0 1 T1\n5 11 0 3 T1\nend 5\n"
unfolding text_of ascii printed
replayed-text = refl

late-typed : Typed late
unfolding fresh_with late
late-typed =
    record { tasks = refl; lines = refl; semaphores = refl; events = refl; mailboxes = refl; swis = refl; clocks = refl; heap = refl; state = refl }

late-sound : sound late ≡ true
unfolding computed late
late-sound = refl

l-alone : AllRun late (case-l ∷ [])
unfolding steps late
l-alone = runs-by-steps late (case-l ∷ []) late-typed late-sound refl refl

pub cases-a-to-l : CasesAToL
unfolding steps replay_text ascii
cases-a-to-l =
    record {
      a = replayed;
      a-text = ap text_of replayed ∙ replayed-text;
      a-bytes = refl;
      b-to-k = runs-by-steps fresh from-b-to-k fresh-typed fresh-sound refl refl;
      l = l-alone.0;
    }
