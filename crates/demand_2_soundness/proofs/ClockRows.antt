-- A clock's row: what is read after it is stored, and that a row which its rule allows keeps the rules.
use Prim.Native.Nat.{ℕ, ◌<◌, ◌*◌}
use mathlib.Core.Path.{◌≡◌, refl}
use mathlib.Core.Logic.{◌≢◌}
use mathlib.Core.List.{List}
use native.Mathlib.Omega.{arith}
use lib.ListN.{length}
use Rattle.basics.specs.Rule.{Means}
use Rattle.rules.specs.Tables.{clock_count, clock_width, clock, clock_words, with_clock, USED, CLOCK-SWI, CLOCK-FIRST, PERIOD, CLOCK-LEFT}
use Rattle.rules.specs.Sound.{clock_rule}
use Rattle.rules.specs.Step.{with_clocks}
use Rattle.rules.specs.declared.Tables.{Tables}
use Rattle.rules.specs.declared.Clock.{Clock}
use Rattle.rules_laws.proofs.Rows.{row_same, row_other, length-with_row}
use Rattle.demand_2_soundness.proofs.Groups.{Almost, others-change}
use Rattle.demand_2_soundness.proofs.OneRow.{each-but}

module _ (cs : List ℕ) (i : ℕ) (k : Clock) where
  pub length-with_clock : length (with_clock cs i k) ≡ length cs
  unfolding with_clock
  length-with_clock = length-with_row clock_width clock_count cs i (clock_words k)

  pub clock-same : length cs ≡ clock_count * clock_width → i < clock_count → clock (with_clock cs i k) i ≡ k
  unfolding clock with_clock
  clock-same all lt =
      let f : (f : ℕ) → f < length (clock_words k) → _ = row_same clock_width clock_count cs i (clock_words k) (omega arith) (omega arith) lt in
      rw (f USED (omega arith), f CLOCK-SWI (omega arith), f CLOCK-FIRST (omega arith), f PERIOD (omega arith), f CLOCK-LEFT (omega arith))

  pub clock-other : (x : ℕ) → x ≢ i → clock (with_clock cs i k) x ≡ clock cs x
  unfolding clock with_clock
  clock-other x n =
      let f : (g : ℕ) → _ = λ g. row_other clock_width clock_count cs i (clock_words k) (omega arith) x g n in
      rw (f USED, f CLOCK-SWI, f CLOCK-FIRST, f PERIOD, f CLOCK-LEFT)

-- one clock changes, to a row that its rule allows
pub clock-keeps : (t : Tables) → Almost t → (i : ℕ) (k : Clock) → Means (clock_rule t.swis k) → Almost (with_clocks t (with_clock t.clocks i k))
clock-keeps t a i k rule =
    let cs : List ℕ = with_clock t.clocks i k in
    others-change t a t.semaphores t.events t.mailboxes cs t.heap t.state
    refl refl refl (length-with_clock t.clocks i k) refl refl refl a.semaphores a.events a.mailboxes
    (each-but clock_count i (λ x. clock_rule t.swis (clock t.clocks x)) (λ x. clock_rule t.swis (clock cs x))
    (λ x h n m. rw (clock-other t.clocks i k x n) m) (λ lt. rw (clock-same t.clocks i k a.typed.clocks lt) rule) a.clocks)
    a.heap
