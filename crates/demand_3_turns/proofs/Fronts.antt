-- A ready task at the front of its queue, with no higher task ready, no interrupt open, no Swi active and both switches on: it runs.
use Prim.Native.Nat.{ℕ, suc, ◌-◌, ◌<◌}
use mathlib.Core.Path.{◌≡◌, refl, ap, ◌∙◌}
use mathlib.Core.Logic.{◌≢◌, ⊎_elim}
use mathlib.Core.Bool.{true, false}
use mathlib.Core.List.{List, [], ◌∷◌}
use native.Mathlib.Omega.{arith}
use borrow.Author.Tests.{eq-eqb, ne_eqb, lt-ltb}
use lib.ListN.{length, get_or, drop}
use Rattle.basics.specs.Lists.{count, ahead}
use Rattle.basics.specs.Find.{highest_below}
use Rattle.basics.proofs.Laws.{same?, length_without}
use Rattle.basics.proofs.Finds.{high_is, high_one}
use Rattle.rules.specs.Tables.{Typed, levels, state, DEPTH, SWIS, TASKS, CURRENT}
use Rattle.rules.specs.Lines.{active_line, ready_line, anyone, front_of}
use Rattle.rules.specs.Dispatch.{running, highest_ready, front, task_due}
use Rattle.rules.specs.Sound.{Sound}
use Rattle.rules.specs.declared.Tables.{Tables}
use Rattle.rules.specs.declared.Thread.TheVariants.{Task}
use Rattle.runs.specs.Turn.{ReadyAt, queue_at, AtFront, Unhindered}
use Rattle.demand_2_soundness.proofs.Waiting.{current-in}
use Rattle.demand_3_turns.proofs.Ahead.{first-ahead}
use Rattle.demand_3_turns.proofs.Turns.{in-queue, ready-level}

-- who stands in a list with nobody before it is the first
is-first : (i : ℕ) (xs : List ℕ) → 0 < count i xs → ahead i xs ≡ [] → get_or xs 0 0 ≡ i
unfolding count
is-first i xs h e =
    ⊎_elim
    (λ (q : get_or xs 0 0 ≡ i). q)
    (λ (n : get_or xs 0 0 ≢ i). absurd (omega (arith, ap (count (get_or xs 0 0)) e, first-ahead i xs (omega (arith, length_without i xs)) n)))
    (same? (get_or xs 0 0) i)

-- and the rest stands behind it
first_then : (i : ℕ) (xs : List ℕ) → 0 < count i xs → ahead i xs ≡ [] → xs ≡ i ∷ drop 1 xs
unfolding count
first_then i [] h e = absurd (omega arith)
first_then i (x ∷ xs) h e = ap (λ (y : ℕ). y ∷ xs) (is-first i (x ∷ xs) h e)

pub at_front : (t : Tables) → Typed t → Sound t → (p i : ℕ) → ReadyAt p i t → ahead i (queue_at p t) ≡ [] → AtFront p i t
at_front t typed s p i is none =
    record { behind = drop 1 (queue_at p t); is = first_then i (queue_at p t) (in-queue t typed s p i is) none }

pub nobody-before : {p i : ℕ} {t : Tables} → AtFront p i t → ahead i (queue_at p t) ≡ []
unfolding ahead
nobody-before {i = i} f = rw (f.is, eq-eqb i i refl)

one_less : (p : ℕ) → suc p - 1 ≡ p
one_less p = omega arith

module _ (t : Tables) (typed : Typed t) (s : Sound t) (p i : ℕ) (is : ReadyAt p i t) (free : Unhindered p t) (first-there : ahead i (queue_at p t) ≡ []) where
  nobody-active : anyone t.lines active_line ≡ false
  nobody-active = rw free.active

  due : task_due t.lines t.state ≡ true
  unfolding task_due
  due =
      rw (
        eq-eqb (state t.state DEPTH) 0 free.depth,
        nobody-active,
        ne_eqb (state t.state SWIS) 0 free.swis,
        ne_eqb (state t.state TASKS) 0 free.tasks,
      )

  highest : highest_ready (levels t.state) t.lines ≡ suc p
  unfolding highest_ready
  highest =
      high_one (levels t.state) (λ r. anyone t.lines (ready_line r)) (highest_below (levels t.state) (λ r. anyone t.lines (ready_line r))) (suc p)
      (high_is (levels t.state) (λ r. anyone t.lines (ready_line r)))
      record {
        high = ready-level t typed s p i is;
        has = λ l.
            ap (λ (n : ℕ). anyone t.lines (ready_line n)) (one_less p)
            ∙ lt-ltb 0 (length (queue_at p t)) (omega (arith, in-queue t typed s p i is, length_without i (queue_at p t)));
        after = λ r l h. rw (free.higher r (omega (arith, l)) h);
      }

  current-is : state t.state CURRENT ≡ i
  unfolding front
  current-is =
      s.dispatch.1 due
      ∙ ap (λ (n : ℕ). front_of t.lines (ready_line (n - 1))) highest
      ∙ ap (λ (n : ℕ). front_of t.lines (ready_line n)) (one_less p)
      ∙ is-first i (queue_at p t) (in-queue t typed s p i is) first-there

  pub runs-there : running t.lines t.state ≡ Task i
  unfolding running
  runs-there =
      rw (free.depth, nobody-active) (ap (λ (n : ℕ). Task n) (current-in t.state s.state.1.1.1.0 ∙ current-is))
