-- What a kind's call reads of the state is the same with 32 levels: every other word, and the levels where no priority above 15 is named.
use Prim.Native.Nat.{ℕ}
use mathlib.Core.Path.{◌≡◌, refl}
use mathlib.Core.Logic.{⊎_elim}
use mathlib.Core.Bool.{Bool, true, false, cond as if}
use mathlib.Core.List.{List}
use native.Mathlib.Omega.{arith}
use lib.Dec.{eqb}
use lib.ListN.{length}
use borrow.Author.Tests.{eqb-true, lt-ltb, le-ltb}
use Rattle.rules.specs.Tables.{few_levels, most_levels, levels, state, current, LEVELS, raised_state}
use Rattle.rules.specs.Answer.{CallRule}
use Rattle.rules.specs.Lines.{TaskQueues}
use Rattle.rules.specs.Waits.{WaitTables, switch_off, idle}
use Rattle.rules.specs.Tasks.{is_priority, create_cases, set_priority_cases, yield_cases, yield_effect, end_cases, end_effect, sleep_cases, sleep_effect, task_call}
use Rattle.rules.specs.Swis.{SwiQueues, swi_call}
use Rattle.rules.specs.Swis as Swis
use Rattle.rules.specs.Semaphores.{semaphore_call}
use Rattle.rules.specs.Semaphores as Semaphores
use Rattle.rules.specs.Events.{event_call}
use Rattle.rules.specs.Events as Events
use Rattle.rules.specs.Mailboxes.{mailbox_call}
use Rattle.rules.specs.Mailboxes as Mailboxes
use Rattle.rules.specs.Dispatch.{context, running}
use Rattle.demand_2_soundness.proofs.Raised.{raised-levels, raised-depth, raised-swis, raised-tasks, raised-current}
use Rattle.log_twins.specs.Twin.{Low, LowCall}

-- a choice is another one's image where both its cases are
pub alike : {A B : Type 0} (f : A → B) (b : Bool) {x y : B} {v w : A} → (b ≡ true → x ≡ f v) → y ≡ f w → if b x y ≡ f (if b v w)
alike f true p q = p refl
alike f false p q = q

-- ---- levels and priorities
pub levels-few : (st : List ℕ) → state st LEVELS ≡ few_levels → levels st ≡ few_levels
unfolding levels
levels-few st few = rw few

-- a low number is a priority of 32 levels exactly if it is one of 16
low-priority : (p : ℕ) → Low p → is_priority most_levels p ≡ is_priority few_levels p
unfolding is_priority
low-priority p low =
    ⊎_elim
    (λ h. rw (lt-ltb p most_levels (omega arith), lt-ltb p few_levels (omega arith)))
    (λ h. rw (le-ltb p most_levels (omega arith), le-ltb p few_levels (omega arith)))
    low

module _ (st : List ℕ) where
  -- ---- who is current, whether a switch is off, and who runs
  current-same : current (raised_state st) ≡ current st
  unfolding current
  current-same = rw (raised-current st)

  idle-same : idle (raised_state st) ≡ idle st
  unfolding idle
  idle-same = rw current-same

  off-same : switch_off (raised_state st) ≡ switch_off st
  unfolding switch_off
  off-same = rw (raised-swis st, raised-tasks st)

  pub context-same : (ls : List ℕ) → context ls (raised_state st) ≡ context ls st
  unfolding context
  context-same ls = rw (raised-depth st)

  pub running-same : (ls : List ℕ) → running ls (raised_state st) ≡ running ls st
  unfolding running
  running-same ls = rw (raised-depth st, current-same)

  -- ---- the calls of Swis, semaphores, events and mailboxes
  pub swis-alike : (p : SwiQueues) (cs : List ℕ) (x number a b c d : ℕ)
      → swi_call p cs (raised_state st) x number a b c d ≡ swi_call p cs st x number a b c d
  unfolding swi_call Swis.end_cases
  swis-alike p cs x number a b c d = rw (raised-swis st)

  pub semaphores-alike : (q : WaitTables) (x number a b c d : ℕ)
      → semaphore_call q (raised_state st) x number a b c d ≡ semaphore_call q st x number a b c d
  unfolding semaphore_call Semaphores.pend_cases Semaphores.pend_effect
  semaphores-alike q x number a b c d = rw (idle-same, off-same, current-same)

  pub events-alike : (q : WaitTables) (x number a b c d : ℕ) → event_call q (raised_state st) x number a b c d ≡ event_call q st x number a b c d
  unfolding event_call Events.pend_cases Events.pend_effect
  events-alike q x number a b c d = rw (idle-same, off-same, current-same)

  pub mailboxes-alike : (q : WaitTables) (x number a b c d : ℕ)
      → mailbox_call q (raised_state st) x number a b c d ≡ mailbox_call q st x number a b c d
  unfolding mailbox_call Mailboxes.post_cases Mailboxes.post_effect Mailboxes.pend_cases Mailboxes.pend_effect
  mailboxes-alike q x number a b c d = rw (idle-same, off-same, current-same)

  -- ---- the calls of tasks, on a state of 16 levels
  module _ (size : length st ≡ 6) (few : state st LEVELS ≡ few_levels) where
    priority-same : (p : ℕ) → Low p → is_priority (levels (raised_state st)) p ≡ is_priority (levels st) p
    priority-same p low = rw (raised-levels st size, levels-few st few) (low-priority p low)

    pub tasks-alike : (q : TaskQueues) (x number a b c d : ℕ) → LowCall number a b
        → task_call q (raised_state st) x number a b c d ≡ task_call q st x number a b c d
    unfolding task_call create_cases set_priority_cases yield_cases yield_effect end_cases end_effect sleep_cases sleep_effect
    tasks-alike q x number a b c d low =
        let same : CallRule TaskQueues → CallRule TaskQueues = λ k. k in
        alike same (eqb number 0x00) (λ e. rw (priority-same a (low.create (eqb-true number 0 e))))
        (alike same (eqb number 0x01) (λ _. refl)
        (alike same (eqb number 0x02) (λ e. rw (priority-same b (low.set_priority (eqb-true number 2 e)), current-same))
        (rw (current-same, idle-same, off-same))))
