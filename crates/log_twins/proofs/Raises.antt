-- A call that names no priority above 15 does with 32 levels what it does with 16: it reads and changes the same words, and dispatch chooses the
-- same task, for nobody stands in a queue past the 16.
use Prim.Native.Nat.{ℕ}
use mathlib.Core.Path.{◌≡◌, refl, sym, ap, ◌∙◌}
use mathlib.Core.Bool.{Bool, true, false, cond as if}
use mathlib.Core.List.{List}
use native.Mathlib.Omega.{arith}
use lib.Dec.{eqb}
use lib.ListN.{length, length-set}
use Rattle.rules.specs.Answer.{Effect, CallRule, code_of, answered, asked, Words}
use Rattle.rules.specs.Tables.{Typed, raised, few_levels, most_levels, state, CURRENT, LEVELS, raised_state}
use Rattle.rules.specs.Lines.{task_queues}
use Rattle.rules.specs.Waits.{wait_tables}
use Rattle.rules.specs.Swis.{SwiQueues, swi_queues}
use Rattle.rules.specs.Tick.{tick_tables}
use Rattle.rules.specs.Dispatch.{context, front, task_due, swi_dispatched, task_dispatched, DispatchTables, dispatch_tables, dispatched}
use Rattle.rules.specs.Sound.{Sound}
use Rattle.rules.specs.Step.{over, in_range, call_of, settled, step_of, finished, step, call}
use Rattle.rules.specs.declared.Tables.{Tables}
use Rattle.rules.specs.declared.Step.{Step}
use Rattle.rules.proofs.Agree.{means-sound}
use Rattle.rules_laws.proofs.Calls.{chosen, mapped, mapped-guarded}
use Rattle.rules_laws.proofs.Levels.{dispatch-keeps, step_keeps}
use Rattle.demand_2_soundness.proofs.Keeps.{step_typed, step-sound}
use Rattle.demand_2_soundness.proofs.Raised.{raised-levels, raised-swi-due, raised-task-due, raised-front, raised-sound}
use Rattle.log_twins.specs.Twin.{LowCall, CallsAlike}
use Rattle.log_twins.proofs.KindCalls.{alike, levels-few, context-same, running-same, tasks-alike, swis-alike, semaphores-alike, events-alike}
use Rattle.log_twins.proofs.KindCalls.{mailboxes-alike}
use Rattle.log_twins.proofs.Switched.{store-aside, switches-alike}

-- ---- the call before dispatch
abbrev raised_call : CallRule Tables → CallRule Tables
raised_call k = over raised k

module _ (t : Tables) (typed : Typed t) (few : state t.state LEVELS ≡ few_levels) (number a b c d : ℕ) (low : LowCall number a b) where
  call-alike : (x : ℕ) → call_of (raised t) x number a b c d ≡ raised_call (call_of t x number a b c d)
  unfolding call_of
  call-alike x =
      alike raised_call (in_range number 0x00)
      (λ _. rw (tasks-alike t.state typed.state few (task_queues t.tasks t.lines) x number a b c d low))
      (alike raised_call (in_range number 0x10)
      (λ _. rw (swis-alike t.state (swi_queues t.swis t.lines) t.clocks x number a b c d))
      (alike raised_call (in_range number 0x20)
      (λ _. rw (semaphores-alike t.state (wait_tables t.tasks t.lines t.semaphores) x number a b c d))
      (alike raised_call (in_range number 0x30)
      (λ _. rw (events-alike t.state (wait_tables t.tasks t.lines t.events) x number a b c d))
      (alike raised_call (in_range number 0x40)
      (λ _. rw (mailboxes-alike t.state (wait_tables t.tasks t.lines t.mailboxes) x number a b c d))
      (alike raised_call (in_range number 0x50) (λ _. refl)
      (alike raised_call (in_range number 0x60) (λ _. refl)
      (alike raised_call (in_range number 0x70)
      (λ _. rw (switches-alike (tick_tables t.tasks t.lines t.swis t.clocks t.state) x number a b c d))
      refl)))))))

-- ---- dispatch
-- what dispatch leaves has 16 levels, and its front is the same with 32
record Fits (ls st : List ℕ) : Type 0 where
  size : length st ≡ 6
  few : state st LEVELS ≡ few_levels
  front : front most_levels ls ≡ front few_levels ls

sound-fits : (t : Tables) → Typed t → Sound t → state t.state LEVELS ≡ few_levels → Fits t.lines t.state
sound-fits t typed s few =
    record {
      size = typed.state;
      few = few;
      front = raised-front t typed s ∙ ap (λ (n : ℕ). front n t.lines) (levels-few t.state few);
    }

dispatch-size : (ls st : List ℕ) → length (task_dispatched ls st) ≡ length st
unfolding task_dispatched
dispatch-size ls st =
    chosen (λ (su : List ℕ). length su ≡ length st) (task_due ls st) _ _ (λ _. length-set st CURRENT _) (λ _. refl)

task-alike : (ls st : List ℕ) → Fits ls (task_dispatched ls st) → task_dispatched ls (raised_state st) ≡ raised_state (task_dispatched ls st)
unfolding task_dispatched
task-alike ls st fits =
    let size : length st ≡ 6 = sym (dispatch-size ls st) ∙ fits.size in
    let few : state st LEVELS ≡ few_levels = sym (dispatch-keeps st ls) ∙ fits.few in
    rw (raised-task-due st ls, raised-levels st size, levels-few st few, fits.front)
    (alike raised_state (task_due ls st) (λ _. store-aside st CURRENT _ (λ e. omega arith)) refl)

swi-alike : (st : List ℕ) (x : SwiQueues) → swi_dispatched (raised_state st) x ≡ swi_dispatched st x
unfolding swi_dispatched
swi-alike st x = rw (raised-swi-due st x.swis x.lines)

abbrev raised_dispatched : DispatchTables → DispatchTables
raised_dispatched x = dispatch_tables x.swis x.lines (raised_state x.state)

dispatched-alike : (ws ls st : List ℕ) → Fits (dispatched ws ls st).lines (dispatched ws ls st).state
    → dispatched ws ls (raised_state st) ≡ raised_dispatched (dispatched ws ls st)
unfolding dispatched
dispatched-alike ws ls st fits = rw (swi-alike st (swi_queues ws ls), task-alike (swi_dispatched st (swi_queues ws ls)).lines st fits)

settled-alike : (code : ℕ) (ws ls st : List ℕ) → Fits (settled code ws ls st).lines (settled code ws ls st).state
    → settled code ws ls (raised_state st) ≡ raised_dispatched (settled code ws ls st)
settled-alike code ws ls st = go (eqb code 0)
  where
    chosen_by : Bool → List ℕ → DispatchTables
    chosen_by b su = if b (dispatched ws ls su) (dispatch_tables ws ls su)

    go : (b : Bool) → Fits (chosen_by b st).lines (chosen_by b st).state → chosen_by b (raised_state st) ≡ raised_dispatched (chosen_by b st)
    go true fits = dispatched-alike ws ls st fits
    go false fits = refl

-- ---- the whole call
abbrev raised_step : Step → Step
raised_step s = step_of (raised s.tables) s.answer s.thread

finished-alike : (number : ℕ) (r : Effect Tables) → Fits (finished number r).tables.lines (finished number r).tables.state
    → finished number (mapped raised r) ≡ raised_step (finished number r)
unfolding finished
finished-alike number r fits =
    let x : DispatchTables = settled r.answer.code r.next.swis r.next.lines r.next.state in
    rw (settled-alike r.answer.code r.next.swis r.next.lines r.next.state fits, running-same x.state x.lines)

module _ (t : Tables) (typed : Typed t) (s : Sound t) (few : state t.state LEVELS ≡ few_levels) (number a b c d : ℕ)
    (w : Words (asked number a b c d)) (low : LowCall number a b) where
  step_fits : Fits (step t number a b c d).tables.lines (step t number a b c d).tables.state
  step_fits =
      sound-fits (step t number a b c d).tables (step_typed t typed s number a b c d w) (step-sound t typed s number a b c d w)
      (step_keeps t number a b c d ∙ few)

  pub raised-step : step (raised t) number a b c d
      ≡ step_of (raised (step t number a b c d).tables) (step t number a b c d).answer (step t number a b c d).thread
  unfolding step
  raised-step =
      let x : ℕ = context t.lines t.state in
      let k : CallRule Tables = call_of t x number a b c d in
      rw (context-same t.state t.lines, call-alike t typed few number a b c d low x, ← (mapped-guarded raised (code_of k.cases) t k.effect))
      (finished-alike number (answered t k) step_fits)

  pub raised-call : call (raised t) number a b c d
      ≡ step_of (raised (call t number a b c d).tables) (call t number a b c d).answer (call t number a b c d).thread
  unfolding call
  raised-call = rw (means-sound (raised t) (raised-sound t typed s), means-sound t s) raised-step

pub calls-alike : CallsAlike
calls-alike t typed s few q w low =
    raised-call t typed s few q.number q.a q.b q.c q.d
    (record { a = w.a; b = w.b; c = w.c; d = w.d }) low
