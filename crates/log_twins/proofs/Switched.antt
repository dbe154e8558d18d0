-- The calls that change the state change the same words of it with 32 levels: a store to another word leaves the levels.
use Prim.Native.Nat.{ℕ}
use mathlib.Core.Path.{◌≡◌, refl, sym, ap}
use mathlib.Core.Logic.{◌≢◌}
use mathlib.Core.Bool.{Bool, cond as if}
use mathlib.Core.List.{List}
use native.Mathlib.Omega.{arith}
use lib.Bits.{bit_and}
use lib.Dec.{eqb, ltb}
use lib.Seq.{set_comm}
use Rattle.rules.specs.Tables.{most_levels, state, with_state, DEPTH, SWIS, TASKS, TICK, LEVELS, raised_state}
use Rattle.rules.specs.Answer.{with_answer, CallRule, called}
use Rattle.rules.specs.Switches.{swis_bit, tasks_bit, has, on, off, turned, in_cases, off_effect, restore_effect, in_effect, out_effect}
use Rattle.rules.specs.Tick.{TickTables, tick_tables, ticked, switch_call}
use Rattle.rules_laws.proofs.Calls.{mapped}
use Rattle.demand_2_soundness.proofs.Raised.{raised-word, raised-depth, raised-swis, raised-tasks}
use Rattle.log_twins.proofs.KindCalls.{alike}

abbrev pub raised_ticked : TickTables → TickTables
raised_ticked t = tick_tables t.tasks t.lines t.swis t.clocks (raised_state t.state)

-- ---- the effects on the state
pub store-aside : (st : List ℕ) (f v : ℕ) → f ≢ LEVELS → with_state (raised_state st) f v ≡ raised_state (with_state st f v)
store-aside st f v n = set_comm st LEVELS f most_levels v (λ e. n (sym e))

store-if-aside : (b : Bool) (st : List ℕ) (f v : ℕ) → f ≢ LEVELS
    → if b (with_state (raised_state st) f v) (raised_state st) ≡ raised_state (if b (with_state st f v) st)
store-if-aside b st f v n = alike raised_state b (λ _. store-aside st f v n) refl

turned-alike : (st : List ℕ) (bits v : ℕ) → turned bits v (raised_state st) ≡ raised_state (turned bits v st)
turned-alike st bits v =
    let su : List ℕ = if (has bits swis_bit) (with_state st SWIS v) st in
    rw (store-if-aside (has bits swis_bit) st SWIS v (λ e. omega arith)) (store-if-aside (has bits tasks_bit) su TASKS v (λ e. omega arith))

module _ (st : List ℕ) where
  in-alike : in_effect (raised_state st) ≡ mapped raised_state (in_effect st)
  unfolding in_effect
  in-alike = rw (raised-depth st) (ap (with_answer _) (store-if-aside (ltb (state st DEPTH) 8) st DEPTH _ (λ e. omega arith)))

  out-alike : out_effect (raised_state st) ≡ mapped raised_state (out_effect st)
  unfolding out_effect
  out-alike = rw (raised-depth st, store-aside st DEPTH _ (λ e. omega arith))

  off-alike : (which : ℕ) → off_effect (raised_state st) which ≡ mapped raised_state (off_effect st which)
  unfolding off_effect
  off-alike which = rw (raised-swis st, raised-tasks st, turned-alike st which off)

  restore-alike : (which key : ℕ) → restore_effect (raised_state st) which key ≡ mapped raised_state (restore_effect st which key)
  unfolding restore_effect
  restore-alike which key = rw (turned-alike st (bit_and which key) on)

  in-cases-same : (a b c d : ℕ) → in_cases (raised_state st) a b c d ≡ in_cases st a b c d
  unfolding in_cases
  in-cases-same a b c d = rw (raised-depth st)

tick-alike : (t : TickTables) → ticked (raised_ticked t) ≡ raised_ticked (ticked t)
unfolding ticked
tick-alike t = rw (raised-word t.state TICK (λ e. omega arith), store-aside t.state TICK _ (λ e. omega arith))

-- ---- the calls by number
abbrev raised_call : CallRule TickTables → CallRule TickTables
raised_call k = called k.cases (mapped raised_ticked k.effect)

pub switches-alike : (t : TickTables) (x number a b c d : ℕ)
    → switch_call (raised_ticked t) x number a b c d ≡ raised_call (switch_call t x number a b c d)
unfolding switch_call
switches-alike t x number a b c d =
    alike raised_call (eqb number 0x74) (λ _. rw (in-cases-same t.state a b c d, in-alike t.state))
    (alike raised_call (eqb number 0x75) (λ _. rw (out-alike t.state))
    (alike raised_call (eqb number 0x76) (λ _. rw (tick-alike t))
    (alike raised_call (eqb number 0x77) (λ _. rw (off-alike t.state a))
    (alike raised_call (eqb number 0x78) (λ _. rw (restore-alike t.state a b)) refl))))
