-- Swis are posted, start and end in lines of their own: the lines of tasks stay.
use Prim.Native.Nat.{ℕ, ◌-◌, ◌<◌}
use mathlib.Core.Path.{◌≡◌, refl, ◌∙◌}
use mathlib.Core.Bool.{◌&&◌}
use mathlib.Core.List.{List}
use native.Mathlib.Omega.{arith}
use lib.Dec.{eqb, ltb}
use lib.ListN.{length}
use Rattle.rules.specs.Tables.{swi_count, clock_count, swi, clock, PRIORITY, TRIGGER, POSTED, swi_levels}
use Rattle.rules.specs.Lines.{line, front_of, out_of, at_back, posted_line, active_line}
use Rattle.rules.specs.Swis.{SwiQueues, swi_queues, posted, triggered}
use Rattle.rules.specs.Tick.{ClockTables, clock_tables, clock_tick, clocks_ticked, aged}
use Rattle.rules.specs.Dispatch.{highest_posted, swi_due, started, swi_dispatched, dispatched}
use Rattle.rules_laws.proofs.Lines.{left_other, length-left, entered-other, length-entered}
use Rattle.rules_laws.proofs.Calls.{chosen}
use Rattle.demand_2_soundness.proofs.Groups.{OfTasks}
use Rattle.demand_2_soundness.proofs.Aside.{not-of-swis}
use Rattle.demand_2_soundness.proofs.SwiTables.{swi-other}
use Rattle.demand_2_soundness.proofs.Settles.{posted-high}
use Rattle.demand_2_soundness.proofs.Ticking.{rising-keeps}

-- ---- the lines of tasks are as in ls
pub record Aside (ls ms : List ℕ) : Type 0 where
  pub full : length ms ≡ length ls
  pub same : (j : ℕ) → OfTasks j → line ms j ≡ line ls j

pub aside-refl : (ls : List ℕ) → Aside ls ls
aside-refl ls = record { full = refl; same = λ j o. refl }

-- the top active Swi ends
pub ended-aside : (ls : List ℕ) (x : ℕ) → Aside ls (out_of active_line x ls)
ended-aside ls x =
    record {
      full = length-left ls active_line x;
      same = λ j o. left_other ls active_line x j (not-of-swis j active_line o (omega arith) (omega arith));
    }

-- dispatch: a posted Swi starts
module _ (ws ls st : List ℕ) where
  started-aside : (p x : ℕ) → p < swi_levels → Aside ls (started x (posted_line p) (swi_queues ws ls)).lines
  unfolding started
  started-aside p x l =
      record {
        full = length-entered (out_of (posted_line p) x ls) active_line x at_back ∙ length-left ls (posted_line p) x;
        same = λ j o.
            entered-other (out_of (posted_line p) x ls) active_line x at_back j (not-of-swis j active_line o (omega arith) (omega arith))
            ∙ left_other ls (posted_line p) x j (not-of-swis j (posted_line p) o (omega arith) (omega arith));
      }

  pub dispatched-aside : Aside ls (dispatched ws ls st).lines
  unfolding dispatched swi_dispatched
  dispatched-aside =
      chosen (λ (x : SwiQueues). Aside ls x.lines) (swi_due ws ls st) _ _
      (λ _. started-aside (highest_posted ls - 1) (front_of ls (posted_line (highest_posted ls - 1))) (omega (arith, (posted-high ls).high)))
      (λ _. aside-refl ls)

-- ---- posts: every Swi has a priority below 16
pub record Posting (ls : List ℕ) (p : SwiQueues) : Type 0 where
  pub low : (x : ℕ) → swi p.swis x PRIORITY < swi_levels
  pub aside : Aside ls p.lines

module _ (ls : List ℕ) (p : SwiQueues) (k : Posting ls p) where
  pub triggered-aside : (x v : ℕ) → Posting ls (triggered x v p)
  triggered-aside x v =
      record { low = λ y. rw (swi-other p.swis x TRIGGER v y PRIORITY (λ e. omega arith)) (k.low y); aside = k.aside }

  pub posted-aside : (x : ℕ) → Posting ls (posted x p)
  unfolding posted
  posted-aside x =
      chosen (λ (q : SwiQueues). Posting ls q) (ltb x swi_count && eqb (swi p.swis x POSTED) 0) _ _
      (λ _.
      let at = swi p.swis x PRIORITY in
      let under = k.low x in
      record {
        low = λ y. rw (swi-other p.swis x POSTED 1 y PRIORITY (λ e. omega arith)) (k.low y);
        aside =
            record {
              full = length-entered p.lines (posted_line at) x at_back ∙ k.aside.full;
              same = λ j o.
                  entered-other p.lines (posted_line at) x at_back j (not-of-swis j (posted_line at) o (omega arith) (omega arith))
                  ∙ k.aside.same j o;
            };
      })
      (λ _. k)

-- the clocks of a tick, one after the other
pub clocks-aside : (cs ws ls : List ℕ) → Posting ls (swi_queues ws ls) → Aside ls (clocks_ticked cs ws ls).lines
unfolding clock_tick
clocks-aside cs ws ls k =
    (rising-keeps (λ (x : ClockTables). Posting ls (swi_queues x.swis x.lines)) clock_tick (clock_tables cs ws ls) clock_count
    (λ x n h so_far.
    chosen (λ (q : SwiQueues). Posting ls q) (aged (clock x.clocks n)).fired _ _
    (λ _. posted-aside ls (swi_queues x.swis x.lines) so_far (clock x.clocks n).swi)
    (λ _. so_far))
    k).aside
