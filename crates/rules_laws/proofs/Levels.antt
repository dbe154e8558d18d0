-- The number of levels: its bounds, and that no call changes the word in which it stands, whatever the tables are.
use Prim.Native.Nat.{ℕ, ◌≤◌, ◌<◌}
use mathlib.Core.Path.{◌≡◌, refl, sym, ◌∙◌}
use mathlib.Core.Logic.{◌≢◌}
use mathlib.Core.Bool.{cond as if}
use mathlib.Core.List.{List}
use native.Mathlib.Omega.{arith}
use lib.Bits.{bit_and}
use lib.Dec.{eqb, ltb}
use lib.Seq.{get_or-set_other}
use Rattle.rules.specs.Answer.{CallRule, Effect, code_of, refused, answered, unknown}
use Rattle.rules.specs.Tables.{few_levels, most_levels, state, with_state, DEPTH, SWIS, TASKS, TICK, CURRENT, LEVELS, levels, most_depth}
use Rattle.rules.specs.Lines.{task_queues}
use Rattle.rules.specs.Waits.{wait_tables}
use Rattle.rules.specs.Swis.{swi_queues}
use Rattle.rules.specs.Switches.{swis_bit, tasks_bit, has, on, off, turned, off_effect, restore_effect, in_effect, out_effect}
use Rattle.rules.specs.Tick.{TickTables, tick_tables, ticked, switch_call}
use Rattle.rules.specs.Dispatch.{DispatchTables, dispatch_tables, swi_dispatched, task_due, task_dispatched, dispatched}
use Rattle.rules.specs.Sound.{sound}
use Rattle.rules.specs.Step.{in_range, call_of, with_ticked, finished, step, call}
use Rattle.rules.specs.declared.Tables.{Tables}
use Rattle.rules.specs.declared.Step.{Step}
use Rattle.rules_laws.proofs.Calls.{chosen}

-- ---- 16 at least, 32 at most
pub levels-under : (st : List ℕ) → levels st ≤ most_levels
unfolding levels
levels-under st =
    chosen (λ (n : ℕ). n ≤ most_levels) (eqb (state st LEVELS) most_levels) most_levels few_levels (λ _. omega arith) (λ _. omega arith)

pub levels-some : (st : List ℕ) → few_levels ≤ levels st
unfolding levels
levels-some st =
    chosen (λ (n : ℕ). few_levels ≤ n) (eqb (state st LEVELS) most_levels) most_levels few_levels (λ _. omega arith) (λ _. omega arith)

-- ---- another word of the state
pub word-stays : (st : List ℕ) (f v : ℕ) → LEVELS ≢ f → state (with_state st f v) LEVELS ≡ state st LEVELS
word-stays st f v n = get_or-set_other st f LEVELS v 0 n

pub levels-same : (st : List ℕ) (f v : ℕ) → LEVELS ≢ f → levels (with_state st f v) ≡ levels st
unfolding levels
levels-same st f v n = rw (word-stays st f v n)

-- ---- a call's effect, dispatch and the whole call keep the word
module _ (st : List ℕ) where
  abbrev Same : List ℕ → Type 0
  Same su = state su LEVELS ≡ state st LEVELS

  turned-keeps : (bits v : ℕ) → Same (turned bits v st)
  turned-keeps bits v =
      let su : List ℕ = if (has bits swis_bit) (with_state st SWIS v) st in
      let swis = chosen Same (has bits swis_bit) (with_state st SWIS v) st (λ _. word-stays st SWIS v (λ e. omega arith)) (λ _. refl) in
      chosen Same (has bits tasks_bit) (with_state su TASKS v) su (λ _. word-stays su TASKS v (λ e. omega arith) ∙ swis) (λ _. swis)

  in-keeps : Same (in_effect st).next
  unfolding in_effect
  in-keeps = chosen Same (ltb (state st DEPTH) most_depth) _ st (λ _. word-stays st DEPTH _ (λ e. omega arith)) (λ _. refl)

  out-keeps : Same (out_effect st).next
  unfolding out_effect
  out-keeps = word-stays st DEPTH _ (λ e. omega arith)

  off-keeps : (which : ℕ) → Same (off_effect st which).next
  unfolding off_effect
  off-keeps which = turned-keeps which off

  restore-keeps : (which key : ℕ) → Same (restore_effect st which key).next
  unfolding restore_effect
  restore-keeps which key = turned-keeps (bit_and which key) on

  pub dispatch-keeps : (ls : List ℕ) → Same (task_dispatched ls st)
  unfolding task_dispatched
  dispatch-keeps ls = chosen Same (task_due ls st) _ st (λ _. word-stays st CURRENT _ (λ e. omega arith)) (λ _. refl)

switch-keeps : (t : TickTables) (x number a b c d : ℕ) → Same t.state (switch_call t x number a b c d).effect.next.state
unfolding switch_call ticked
switch-keeps t x number a b c d =
    let P : CallRule TickTables → Type 0 = λ k. Same t.state k.effect.next.state in
    chosen P (eqb number 0x74) _ _ (λ _. in-keeps t.state) (λ _.
    chosen P (eqb number 0x75) _ _ (λ _. out-keeps t.state) (λ _.
    chosen P (eqb number 0x76) _ _ (λ _. word-stays t.state TICK _ (λ e. omega arith)) (λ _.
    chosen P (eqb number 0x77) _ _ (λ _. off-keeps t.state a) (λ _.
    chosen P (eqb number 0x78) _ _ (λ _. restore-keeps t.state a b) (λ _. refl)))))

module _ (t : Tables) (number a b c d : ℕ) where
  -- of all calls those of the switches alone touch the state
  call-keeps : (x : ℕ) → Same t.state (call_of t x number a b c d).effect.next.state
  unfolding call_of
  call-keeps x =
      let P : CallRule Tables → Type 0 = λ k. Same t.state k.effect.next.state in
      chosen P (in_range number 0x00) _ _ (λ _. refl) (λ _.
      chosen P (in_range number 0x10) _ _ (λ _. refl) (λ _.
      chosen P (in_range number 0x20) _ _ (λ _. refl) (λ _.
      chosen P (in_range number 0x30) _ _ (λ _. refl) (λ _.
      chosen P (in_range number 0x40) _ _ (λ _. refl) (λ _.
      chosen P (in_range number 0x50) _ _ (λ _. refl) (λ _.
      chosen P (in_range number 0x60) _ _ (λ _. refl) (λ _.
      chosen P (in_range number 0x70) _ _
      (λ _. switch-keeps (tick_tables t.tasks t.lines t.swis t.clocks t.state) x number a b c d)
      (λ _. refl))))))))

finished-keeps : (number : ℕ) (r : Effect Tables) → Same r.next.state (finished number r).tables.state
unfolding finished dispatched
finished-keeps number r =
    chosen (λ (x : DispatchTables). Same r.next.state x.state) (eqb r.answer.code 0) _ _
    (λ _. dispatch-keeps r.next.state _) (λ _. refl)

pub step_keeps : (t : Tables) (number a b c d : ℕ) → Same t.state (step t number a b c d).tables.state
unfolding step
step_keeps t number a b c d =
    finished-keeps number (answered t (call_of t _ number a b c d))
    ∙ chosen (λ (r : Effect Tables). Same t.state r.next.state) (eqb (code_of (call_of t _ number a b c d).cases) 0) _ (refused _ t)
    (λ _. call-keeps t number a b c d _) (λ _. refl)

-- "set when they are made fresh": no call changes the word
pub levels-kept : (t : Tables) (number a b c d : ℕ) → state (call t number a b c d).tables.state LEVELS ≡ state t.state LEVELS
unfolding call
levels-kept t number a b c d =
    chosen (λ (s : Step). Same t.state s.tables.state) (sound t) _ _ (λ _. step_keeps t number a b c d) (λ _. refl)
