-- Calls 74 to 78 keep what dispatch starts from.
use Prim.Native.Nat.{ℕ, ◌+◌, ◌-◌, ◌<◌, ◌%◌, suc}
use mathlib.Core.Path.{◌≡◌, refl, sym, ◌∙◌}
use mathlib.Core.Logic.{◌≢◌, ◌⊎◌, inl, inr, ⊎_elim}
use mathlib.Core.List.{List}
use native.Mathlib.Omega.{arith}
use borrow.Author.Tests.{ltb-true}
use lib.Bits.{bit_and}
use lib.Dec.{eqb, ltb}
use lib.ListN.{length, length-set}
use lib.Seq.{get_or-set_same, get_or-set_other}
use Rattle.basics.proofs.Laws.{same?}
use Rattle.rules.specs.Answer.{Cases, CallRule, called, accepted, done, asked, Words}
use Rattle.rules.specs.Tables.{StateRow, Typed, word_end, tables, state, with_state, DEPTH, SWIS, TASKS, TICK, CURRENT, LEVELS, levels, most_depth, state_width}
use Rattle.rules.specs.Dispatch.{context}
use Rattle.rules.specs.Sound.{Sound}
use Rattle.rules.specs.Step.{with_ticked}
use Rattle.rules.specs.Switches.{swis_bit, tasks_bit, has, on, off, turned, off_effect, restore_effect, in_effect, interrupt_cases, out_effect, off_call}
use Rattle.rules.specs.Switches.{restore_call, in_call, out_call}
use Rattle.rules.specs.Tick.{TickTables, tick_tables, clocks_ticked, ticked, on_state, switch_call}
use Rattle.rules.specs.declared.Tables.{Tables}
use Rattle.rules_laws.proofs.Calls.{chosen}
use Rattle.rules_laws.proofs.Levels.{word-stays, levels-same}
use Rattle.demand_2_soundness.proofs.Groups.{Almost, others-change, Ranges, Settling, Keeps}
use Rattle.demand_2_soundness.proofs.Standing.{sound-almost}
use Rattle.demand_2_soundness.proofs.Waiting.{sound-ranges, still-ready}
use Rattle.demand_2_soundness.proofs.Chosen.{Kept, kept, chosen-kept, unknown-kept, sound-settles}
use Rattle.demand_2_soundness.proofs.Ticking.{with_clocked, clocks-tick, tasks-tick}

-- ---- the state changes alone
abbrev with_stated : Tables → List ℕ → Tables
with_stated t st =
    tables t.tasks t.lines t.semaphores t.events t.mailboxes t.swis t.clocks t.heap st

state-almost : (t : Tables) → Almost t → (st : List ℕ) → length st ≡ length t.state → levels st ≡ levels t.state → Almost (with_stated t st)
state-almost t a st all same =
    others-change t a t.semaphores t.events t.mailboxes t.clocks t.heap st refl refl refl refl refl all same
    a.semaphores a.events a.mailboxes a.clocks a.heap

-- one word of the state, not the current task, is v now
module _ (st : List ℕ) (all : length st ≡ state_width) (f v : ℕ) (front : f < CURRENT) where
  word-under : (g n : ℕ) → (g ≡ f → v < n) → state st g < n → state (with_state st f v) g < n
  word-under g n here h =
      ⊎_elim
      (λ (e : g ≡ f). rw (e, get_or-set_same st f v 0 (omega arith)) (here e))
      (λ (o : g ≢ f). rw (get_or-set_other st f g v 0 o) h)
      (same? g f)

  current-stays : state (with_state st f v) CURRENT ≡ state st CURRENT
  current-stays = get_or-set_other st f CURRENT v 0 (λ (e : CURRENT ≡ f). omega arith)

  levels-stay : state (with_state st f v) LEVELS ≡ state st LEVELS
  levels-stay = get_or-set_other st f LEVELS v 0 (λ (e : LEVELS ≡ f). omega arith)

  word-ranges : Ranges st → (f ≡ DEPTH → v < suc most_depth) → (f ≡ SWIS → v < 2) → (f ≡ TASKS → v < 2) → Ranges (with_state st f v)
  word-ranges r depth swis tasks =
      record {
        depth = word-under DEPTH (suc most_depth) (λ e. depth (sym e)) r.depth;
        swis = word-under SWIS 2 (λ e. swis (sym e)) r.swis;
        tasks = word-under TASKS 2 (λ e. tasks (sym e)) r.tasks;
        current = rw current-stays r.current;
        levels = rw levels-stay r.levels;
      }

-- a state with its words in range, and the current task and the levels of the one before
record Fits (before st : List ℕ) : Type 0 where
  all : length st ≡ state_width
  ranges : Ranges st
  same : state st CURRENT ≡ state before CURRENT
  leveled : levels st ≡ levels before

module _ (before st : List ℕ) (h : Fits before st) (f v : ℕ) where
  word_fits : f < CURRENT → (f ≡ DEPTH → v < suc most_depth) → (f ≡ SWIS → v < 2) → (f ≡ TASKS → v < 2) → Fits before (with_state st f v)
  word_fits front depth swis tasks =
      record {
        all = length-set st f v ∙ h.all;
        ranges = word-ranges st h.all f v front h.ranges depth swis tasks;
        same = current-stays st h.all f v front ∙ h.same;
        leveled = levels-same st f v (λ (e : LEVELS ≡ f). omega arith) ∙ h.leveled;
      }

  -- a switch, off or on
  switch_fits : (f ≡ SWIS) ⊎ (f ≡ TASKS) → v < 2 → Fits before (with_state st f v)
  switch_fits which small =
      word_fits (⊎_elim (λ (e : f ≡ SWIS). omega arith) (λ (e : f ≡ TASKS). omega arith) which) (λ _. omega arith) (λ _. small) (λ _. small)

-- the switches that these bits name, one after the other
turned-fits : (bits v : ℕ) → v < 2 → (st : List ℕ) → Fits st st → Fits st (turned bits v st)
turned-fits bits v small st h =
    let swis = chosen (Fits st) (has bits swis_bit) (with_state st SWIS v) st (λ _. switch_fits st st h SWIS v (inl refl) small) (λ _. h) in
    chosen (Fits st) (has bits tasks_bit) _ _ (λ _. switch_fits st _ swis TASKS v (inr refl) small) (λ _. swis)

module _ (t : Tables) (typed : Typed t) (s : Sound t) where
  unchanged : Fits t.state t.state
  unchanged = record { all = typed.state; ranges = sound-ranges t s; same = refl; leveled = refl }

  fits-settles : {st : List ℕ} → Fits t.state st → Settling (with_stated t st)
  fits-settles {st} h =
      record {
        almost = state-almost t (sound-almost t typed s) st (h.all ∙ sym typed.state) h.leveled;
        ranges = h.ranges;
        current = inl (rw h.same (still-ready t s));
      }

  off-settles : (which : ℕ) → Settling (with_stated t (off_effect t.state which).next)
  unfolding off_effect
  off-settles which = fits-settles (turned-fits which off (omega arith) t.state unchanged)

  restore-settles : (which key : ℕ) → Settling (with_stated t (restore_effect t.state which key).next)
  unfolding restore_effect
  restore-settles which key = fits-settles (turned-fits (bit_and which key) on (omega arith) t.state unchanged)

  -- the depth, one up or one down
  in-settles : Settling (with_stated t (in_effect t.state).next)
  unfolding in_effect
  in-settles =
      chosen (λ (st : List ℕ). Settling (with_stated t st)) (ltb (state t.state DEPTH) most_depth) _ _
      (λ e.
      let h = ltb-true (state t.state DEPTH) most_depth e in
      fits-settles (word_fits _ _ unchanged DEPTH _ (omega arith) (λ _. omega arith) (λ q. absurd (omega arith)) (λ q. absurd (omega arith))))
      (λ _. sound-settles t typed s)

  out-settles : Settling (with_stated t (out_effect t.state).next)
  unfolding out_effect
  out-settles =
      let h = (sound-ranges t s).depth in
      fits-settles (word_fits _ _ unchanged DEPTH _ (omega arith) (λ _. omega arith) (λ q. absurd (omega arith)) (λ q. absurd (omega arith)))

  -- the tick: the count, the clocks, then the tasks
  tick-settles : Settling (with_ticked t (ticked (tick_tables t.tasks t.lines t.swis t.clocks t.state)))
  unfolding ticked
  tick-settles =
      let u = with_clocked t (clocks_ticked t.clocks t.swis t.lines) in
      let (a, r) = tasks-tick u (state t.state CURRENT) (clocks-tick t (sound-almost t typed s)) (still-ready t s) in
      let v = (state t.state TICK + 1) % word_end in
      let h = word_fits _ _ unchanged TICK v (omega arith) (λ e. absurd (omega arith)) (λ e. absurd (omega arith)) (λ e. absurd (omega arith)) in
      record {
        almost = state-almost _ a (with_state t.state TICK v) (length-set t.state TICK v) h.leveled;
        ranges = h.ranges;
        current = inl (rw h.same r);
      }

  abbrev all : TickTables
  all = tick_tables t.tasks t.lines t.swis t.clocks t.state

  -- calls whose effect leaves such tables
  state-kept : (k : CallRule StateRow) → Settling (with_stated t k.effect.next) → Kept (with_ticked t) (on_state all k)
  state-kept k h = kept (with_ticked t) (on_state all k) (λ _. h)

  tick-kept : (c : Cases) → Kept (with_ticked t) (called c (accepted done 0 (ticked all)))
  tick-kept c = kept (with_ticked t) (called c (accepted done 0 (ticked all))) (λ _. tick-settles)

pub switches-keeps : (t : Tables) → Typed t → Sound t → (number a b c d : ℕ) → Words (asked number a b c d)
    → Keeps (with_ticked t) (switch_call (tick_tables t.tasks t.lines t.swis t.clocks t.state) (context t.lines t.state) number a b c d)
unfolding switch_call
switches-keeps t typed s number a b c d w =
    let x = context t.lines t.state in
    let k = state-kept t typed s in
    (chosen-kept (with_ticked t) (eqb number 0x74) (k (in_call t.state a b c d) (in-settles t typed s))
    (chosen-kept (with_ticked t) (eqb number 0x75) (k (out_call t.state x a b c d) (out-settles t typed s))
    (chosen-kept (with_ticked t) (eqb number 0x76) (tick-kept t typed s (interrupt_cases x a b c d))
    (chosen-kept (with_ticked t) (eqb number 0x77) (k (off_call t.state x a b c d) (off-settles t typed s a))
    (chosen-kept (with_ticked t) (eqb number 0x78) (k (restore_call t.state x a b c d) (restore-settles t typed s a b))
    (unknown-kept (with_ticked t) _)))))).keeps
