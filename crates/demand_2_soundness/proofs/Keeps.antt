-- Demand 2's core: one call on sound tables leaves sound tables.
use Prim.Native.Nat.{ℕ}
use mathlib.Core.Path.{◌≡◌}
use mathlib.Core.Logic.{◌≢◌}
use borrow.Author.Tests.{eqb-true, eqb-false, ne_eqb}
use lib.Dec.{eqb}
use Rattle.rules.specs.Answer.{Effect, CallRule, code_of, answered, refused, asked, Words}
use Rattle.rules.specs.Tables.{Typed}
use Rattle.rules.specs.Dispatch.{context, dispatched}
use Rattle.rules.specs.Sound.{Sound}
use Rattle.rules.specs.Step.{with_queued, with_posts, with_semaphores, with_events, with_mailboxes, with_clocks, with_heap, with_ticked, with_dispatched, over}
use Rattle.rules.specs.Step.{in_range, call_of, finished, step}
use Rattle.rules.specs.declared.Tables.{Tables}
use Rattle.rules_laws.proofs.Calls.{chosen}
use Rattle.rules_laws.proofs.Effects.{effect-code}
use Rattle.demand_2_soundness.proofs.Groups.{Settling, Keeps}
use Rattle.demand_2_soundness.proofs.Settles.{settled-typed, settled-sound}
use Rattle.demand_2_soundness.proofs.Chosen.{Kept, chosen-kept, unknown-kept}
use Rattle.demand_2_soundness.proofs.OfTasks.{tasks-keeps}
use Rattle.demand_2_soundness.proofs.OfSwis.{swis-keeps}
use Rattle.demand_2_soundness.proofs.OfSemaphores.{semaphores-keeps}
use Rattle.demand_2_soundness.proofs.OfEvents.{events-keeps}
use Rattle.demand_2_soundness.proofs.OfMailboxes.{mailboxes-keeps}
use Rattle.demand_2_soundness.proofs.OfClocks.{clocks-keeps}
use Rattle.demand_2_soundness.proofs.OfHeap.{heap-keeps}
use Rattle.demand_2_soundness.proofs.OfSwitches.{switches-keeps}

-- ---- a kind's call as a call on all tables
abbrev whole : Tables → Tables
whole u = u

over-kept : {A : Type 0} (put : A → Tables) (c : CallRule A) → Keeps put c → Kept whole (over put c)
over-kept put c h = record { keeps = h }

-- the tables that a call leaves: those of its effect after dispatch, or as they were
abbrev pub settled_by : Tables → Tables
settled_by u = with_dispatched u (dispatched u.swis u.lines u.state)

pub effect-leaves : (n : ℕ) (e : Effect Tables) → e.answer.code ≡ 0 → (finished n e).tables ≡ settled_by e.next
unfolding finished
effect-leaves n e z = rw z

refusal-leaves : (m k : ℕ) (t : Tables) → k ≢ 0 → (finished m (refused k t)).tables ≡ t
unfolding finished
refusal-leaves m k t n = rw (ne_eqb k 0 n)

-- so what holds of the tables before, and after dispatch, holds of what the call leaves
leaves : (n : ℕ) (P : Tables → Type 0) (t : Tables) (c : CallRule Tables) → c.effect.answer.code ≡ 0 → Keeps whole c → P t
    → ((u : Tables) → Settling u → P (settled_by u)) → P (finished n (answered t c)).tables
leaves n P t c code keeps before after =
    chosen (λ (r : Effect Tables). P (finished n r).tables) (eqb (code_of c.cases) 0) c.effect (refused (code_of c.cases) t)
    (λ e. rw (effect-leaves n c.effect code) (after c.effect.next (keeps (eqb-true (code_of c.cases) 0 e))))
    (λ e. rw (refusal-leaves n (code_of c.cases) t (eqb-false (code_of c.cases) 0 e)) before)

module _ (t : Tables) (typed : Typed t) (s : Sound t) (number a b c d : ℕ) (w : Words (asked number a b c d)) where
  settled : Keeps whole (call_of t (context t.lines t.state) number a b c d)
  unfolding call_of
  settled =
      (chosen-kept whole (in_range number 0x00) (over-kept (with_queued t) _ (tasks-keeps t typed s number a b c d w))
      (chosen-kept whole (in_range number 0x10) (over-kept (with_posts t) _ (swis-keeps t typed s number a b c d w))
      (chosen-kept whole (in_range number 0x20) (over-kept (with_semaphores t) _ (semaphores-keeps t typed s number a b c d w))
      (chosen-kept whole (in_range number 0x30) (over-kept (with_events t) _ (events-keeps t typed s number a b c d w))
      (chosen-kept whole (in_range number 0x40) (over-kept (with_mailboxes t) _ (mailboxes-keeps t typed s number a b c d w))
      (chosen-kept whole (in_range number 0x50) (over-kept (with_clocks t) _ (clocks-keeps t typed s number a b c d w))
      (chosen-kept whole (in_range number 0x60) (over-kept (with_heap t) _ (heap-keeps t typed s number a b c d w))
      (chosen-kept whole (in_range number 0x70) (over-kept (with_ticked t) _ (switches-keeps t typed s number a b c d w))
      (unknown-kept whole t))))))))).keeps

  left_by : (P : Tables → Type 0) → P t → ((u : Tables) → Settling u → P (settled_by u)) → P (step t number a b c d).tables
  unfolding step
  left_by P =
      let x = context t.lines t.state in
      leaves number P t (call_of t x number a b c d) (effect-code t x number a b c d) settled

  pub step_typed : Typed (step t number a b c d).tables
  step_typed = left_by (λ (u : Tables). Typed u) typed settled-typed

  pub step-sound : Sound (step t number a b c d).tables
  step-sound = left_by (λ (u : Tables). Sound u) s settled-sound
