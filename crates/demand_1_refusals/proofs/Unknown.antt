-- A call of an unknown number: of its cases that of code 1 holds, whatever its range.
use Prim.Native.Nat.{ℕ}
use mathlib.Core.Path.{◌≡◌, refl, ap}
use mathlib.Core.Bool.{Bool, true, false, cond as if}
use mathlib.Core.List.{List}
use native.Mathlib.Omega.{arith}
use borrow.Author.Tests.{ne_eqb, ltb-true}
use lib.Dec.{eqb, ltb}
use Rattle.basics.specs.Lists.{count}
use Rattle.rules.specs.Answer.{Cases, CallRule, given, never}
use Rattle.rules.specs.Lines.{TaskQueues}
use Rattle.rules.specs.Waits.{WaitTables}
use Rattle.rules.specs.Tasks.{task_call}
use Rattle.rules.specs.Swis.{SwiQueues, swi_call}
use Rattle.rules.specs.Semaphores.{semaphore_call}
use Rattle.rules.specs.Events.{event_call}
use Rattle.rules.specs.Mailboxes.{mailbox_call}
use Rattle.rules.specs.Clocks.{clock_call}
use Rattle.rules.specs.Heap.{heap_call}
use Rattle.rules.specs.Tick.{TickTables, switch_call}
use Rattle.rules.specs.Step.{in_range, call_of}
use Rattle.rules.specs.declared.Tables.{Tables}
use Rattle.rules_laws.proofs.Calls.{chosen}
use Rattle.demand_1_refusals.specs.Refusals.{known}

abbrev pub only_one : Cases
only_one = given 1 true never

pick : (b : Bool) (u v : CallRule Tables) → u.cases ≡ only_one → v.cases ≡ only_one → (if b u v).cases ≡ only_one
pick b u v e f = chosen (λ (c : CallRule Tables). c.cases ≡ only_one) b u v (λ _. e) (λ _. f)

module _ (n : ℕ) (out : count n known ≡ 0) where
  isnt : (m : ℕ) → ltb 0 (count m known) ≡ true → eqb n m ≡ false
  isnt m h = ne_eqb n m (λ (e : n ≡ m). omega (arith, out, ltb-true 0 (count m known) h, ap (λ (k : ℕ). count k known) e))

  no-task : (q : TaskQueues) (st : List ℕ) (x a b c d : ℕ) → (task_call q st x n a b c d).cases ≡ only_one
  unfolding count task_call
  no-task q st x a b c d = rw (isnt 0x00 refl, isnt 0x01 refl, isnt 0x02 refl, isnt 0x03 refl, isnt 0x04 refl, isnt 0x05 refl, isnt 0x06 refl)

  no-swi : (p : SwiQueues) (cs st : List ℕ) (x a b c d : ℕ) → (swi_call p cs st x n a b c d).cases ≡ only_one
  unfolding count swi_call
  no-swi p cs st x a b c d =
      rw (isnt 0x10 refl, isnt 0x11 refl, isnt 0x12 refl, isnt 0x13 refl, isnt 0x14 refl, isnt 0x15 refl, isnt 0x16 refl, isnt 0x17 refl, isnt 0x18 refl)

  no-semaphore : (q : WaitTables) (st : List ℕ) (x a b c d : ℕ) → (semaphore_call q st x n a b c d).cases ≡ only_one
  unfolding count semaphore_call
  no-semaphore q st x a b c d = rw (isnt 0x20 refl, isnt 0x21 refl, isnt 0x22 refl, isnt 0x23 refl, isnt 0x24 refl)

  no-event : (q : WaitTables) (st : List ℕ) (x a b c d : ℕ) → (event_call q st x n a b c d).cases ≡ only_one
  unfolding count event_call
  no-event q st x a b c d = rw (isnt 0x30 refl, isnt 0x31 refl, isnt 0x32 refl, isnt 0x33 refl)

  no-mailbox : (q : WaitTables) (st : List ℕ) (x a b c d : ℕ) → (mailbox_call q st x n a b c d).cases ≡ only_one
  unfolding count mailbox_call
  no-mailbox q st x a b c d = rw (isnt 0x40 refl, isnt 0x41 refl, isnt 0x42 refl, isnt 0x43 refl)

  no-clock : (cs ws : List ℕ) (x a b c d : ℕ) → (clock_call cs ws x n a b c d).cases ≡ only_one
  unfolding count clock_call
  no-clock cs ws x a b c d = rw (isnt 0x50 refl, isnt 0x51 refl, isnt 0x52 refl, isnt 0x53 refl)

  no-heap : (h : List ℕ) (x a b c d : ℕ) → (heap_call h x n a b c d).cases ≡ only_one
  unfolding count heap_call
  no-heap h x a b c d = rw (isnt 0x60 refl, isnt 0x61 refl)

  no_switch : (t : TickTables) (x a b c d : ℕ) → (switch_call t x n a b c d).cases ≡ only_one
  unfolding count switch_call
  no_switch t x a b c d = rw (isnt 0x74 refl, isnt 0x75 refl, isnt 0x76 refl, isnt 0x77 refl, isnt 0x78 refl)

  pub unknown-cases : (t : Tables) (x a b c d : ℕ) → (call_of t x n a b c d).cases ≡ only_one
  unfolding call_of
  unknown-cases t x a b c d =
      pick (in_range n 0x00) _ _ (no-task _ _ x a b c d)
      (pick (in_range n 0x10) _ _ (no-swi _ _ _ x a b c d)
      (pick (in_range n 0x20) _ _ (no-semaphore _ _ x a b c d)
      (pick (in_range n 0x30) _ _ (no-event _ _ x a b c d)
      (pick (in_range n 0x40) _ _ (no-mailbox _ _ x a b c d)
      (pick (in_range n 0x50) _ _ (no-clock _ _ x a b c d)
      (pick (in_range n 0x60) _ _ (no-heap _ x a b c d)
      (pick (in_range n 0x70) _ _ (no_switch _ x a b c d) refl)))))))
