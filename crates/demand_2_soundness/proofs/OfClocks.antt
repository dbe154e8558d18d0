-- Calls 50 to 53 keep what dispatch starts from.
use Prim.Native.Nat.{ℕ}
use mathlib.Core.Path.{refl}
use mathlib.Core.Logic.{◌≢◌, inl}
use native.Mathlib.Omega.{arith}
use borrow.Author.Tests.{eqb-false}
use lib.Dec.{eqb}
use Rattle.basics.specs.Rule.{Means}
use Rattle.rules.specs.Tables.{Typed, clock_count, clock_width, clock, with_clock, no_clock, swi}
use Rattle.rules.specs.Answer.{called, asked, Words}
use Rattle.rules.specs.Dispatch.{context}
use Rattle.rules.specs.Sound.{Sound, clock_rule}
use Rattle.rules.specs.Step.{with_clocks}
use Rattle.rules.specs.Clocks.{free_clock, with_left, create_cases, create_effect, delete_cases, delete_effect, start_stop_cases, start_effect, stop_effect, clock_call}
use Rattle.rules.specs.declared.Clock.{Clock}
use Rattle.rules.specs.declared.Tables.{Tables}
use Rattle.rules_laws.proofs.Rows.{row-used}
use Rattle.demand_2_soundness.proofs.Groups.{Settling, Keeps}
use Rattle.demand_2_soundness.proofs.Codes.{accepted-is, used-object}
use Rattle.demand_2_soundness.proofs.Waiting.{neither, sound-ranges, still-ready}
use Rattle.demand_2_soundness.proofs.Chosen.{chosen-keeps, unknown-keeps}
use Rattle.demand_2_soundness.proofs.ClockRows.{clock-keeps}
use Rattle.demand_2_soundness.proofs.Standing.{sound-almost}
use Rattle.demand_2_soundness.proofs.SwiTables.{used-one}

module _ (t : Tables) (typed : Typed t) (s : Sound t) where
  clock-settles : (i : ℕ) (k : Clock) → Means (clock_rule t.swis k) → Settling (with_clocks t (with_clock t.clocks i k))
  clock-settles i k rule =
      record { almost = clock-keeps t (sound-almost t typed s) i k rule; ranges = sound-ranges t s; current = inl (still-ready t s) }

  -- "50 create"
  create-keeps : (x a b c d : ℕ) → Keeps (with_clocks t) (called (create_cases t.clocks t.swis x a b d) (create_effect t.clocks a b c))
  unfolding create_cases create_effect clock_rule
  create-keeps x a b c d z =
      let ok = accepted-is (create_cases t.clocks t.swis x a b d) z in
      let used = used-one t.swis t.lines s.swis a (used-object _ _ ok.at3 ok.at11) in
      clock-settles (free_clock t.clocks) (record { used = 1; swi = a; first = b; period = c; left = 0 })
      (omega arith, (λ e. absurd (omega arith), λ e. (used, eqb-false b 0 (neither (eqb b 0) _ ok.at4).0)))

  -- "51 delete"
  delete-keeps : (x a b c d : ℕ) → Keeps (with_clocks t) (called (delete_cases t.clocks x a b c d) (delete_effect t.clocks a))
  unfolding delete_effect clock_rule
  delete-keeps x a b c d z = clock-settles a no_clock (omega arith, (λ e. (refl, (refl, (refl, refl))), λ e. absurd (omega arith)))

  -- "52 start, 53 stop": the ticks left change alone
  left-settles : (a n : ℕ) → (clock t.clocks a).used ≢ 0 → Settling (with_clocks t (with_clock t.clocks a (with_left (clock t.clocks a) n)))
  unfolding clock clock_rule
  left-settles a n used =
      let (u, (z, o)) = s.clocks a (row-used clock_width clock_count t.clocks a 0 used) in
      clock-settles a (with_left (clock t.clocks a) n) (u, (λ e. absurd (used e), o))

  start-keeps : (a b c d : ℕ) → Keeps (with_clocks t) (called (start_stop_cases t.clocks a b c d) (start_effect t.clocks a))
  unfolding start_stop_cases start_effect
  start-keeps a b c d z =
      let ok = accepted-is (start_stop_cases t.clocks a b c d) z in left-settles a (clock t.clocks a).first (used-object _ _ ok.at3 ok.at11)

  stop-keeps : (a b c d : ℕ) → Keeps (with_clocks t) (called (start_stop_cases t.clocks a b c d) (stop_effect t.clocks a))
  unfolding start_stop_cases stop_effect
  stop-keeps a b c d z = let ok = accepted-is (start_stop_cases t.clocks a b c d) z in left-settles a 0 (used-object _ _ ok.at3 ok.at11)

pub clocks-keeps : (t : Tables) → Typed t → Sound t → (number a b c d : ℕ) → Words (asked number a b c d)
    → Keeps (with_clocks t) (clock_call t.clocks t.swis (context t.lines t.state) number a b c d)
unfolding clock_call
clocks-keeps t typed s number a b c d w =
    chosen-keeps (with_clocks t) (eqb number 0x50) _ _ (create-keeps t typed s (context t.lines t.state) a b c d)
    (chosen-keeps (with_clocks t) (eqb number 0x51) _ _ (delete-keeps t typed s (context t.lines t.state) a b c d)
    (chosen-keeps (with_clocks t) (eqb number 0x52) _ _ (start-keeps t typed s a b c d)
    (chosen-keeps (with_clocks t) (eqb number 0x53) _ _ (stop-keeps t typed s a b c d)
    (unknown-keeps (with_clocks t) t.clocks))))
