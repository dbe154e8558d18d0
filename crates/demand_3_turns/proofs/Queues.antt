-- Any calls one after the other, and a ready task that does not run and keeps its priority: nobody joins in front of it, and who has left or
-- yielded is not in front of it any more.
use Prim.Native.Nat.{ℕ, ◌<◌, ◌≤◌}
use mathlib.Core.Path.{◌≡◌, ap}
use mathlib.Core.Logic.{◌≢◌, ◌⊎◌, ⊎_elim}
use mathlib.Core.List.Sublistᴰ
use mathlib.Core.List.{List, [], ◌∷◌, Sublistᴰ}
use native.Mathlib.Omega.{arith}
use borrow.Author.Tests.{eq-eqb, ne_eqb}
use lib.Dec.{eqb}
use Rattle.basics.specs.Lists.{bit, count, ahead}
use Rattle.basics.proofs.Laws.{same?, at_most, no_length}
use Rattle.rules.specs.Tables.{Typed}
use Rattle.rules.specs.Sound.{Sound}
use Rattle.rules.specs.declared.Tables.{Tables}
use Rattle.runs.specs.Run.{next, after, Each, AllWords}
use Rattle.runs.specs.Turn.{ReadyAt, queue_at, Undisturbed, Yields, Gone}
use Rattle.demand_3_turns.proofs.Made.{next-typed, next-sound}
use Rattle.demand_3_turns.proofs.Turns.{ready-stays}
use Rattle.rules.specs.declared.Call.{Call}

-- ---- some of a list, in their order: nobody is there more often
pub sub-count : (x : ℕ) {xs ys : List ℕ} → Sublistᴰ xs ys → count x xs ≤ count x ys
unfolding count
sub-count x Sublistᴰ.slnil = omega arith
sub-count x (Sublistᴰ.cons s) = let ih = sub-count x s in omega arith
sub-count x (Sublistᴰ.cons-cons {a} {b} e s) = let ih = sub-count x s in omega (arith, ap (λ (y : ℕ). bit (eqb y x)) e)

-- those in front of i stand in the list
pub ahead-count : (x i : ℕ) (xs : List ℕ) → count x (ahead i xs) ≤ count x xs
unfolding count ahead
ahead-count x i [] = omega arith
ahead-count x i (y ∷ ys) =
    ⊎_elim
    (λ (e : y ≡ i). rw (eq-eqb y i e) (omega arith))
    (λ (n : y ≢ i). rw (ne_eqb y i n) (omega (arith, ahead-count x i ys)))
    (same? y i)

-- a list in which nobody stands is empty
empty : (xs : List ℕ) → ((x : ℕ) → count x xs ≡ 0) → xs ≡ []
empty xs h = no_length xs (at_most 0 xs (λ x. omega (arith, h x)) (λ x _. h x))

-- ---- along the calls
module _ (p i : ℕ) where
  pub stays : (v : Tables) → Typed v → Sound v → ReadyAt p i v → (qs : List Call) → AllWords v qs → Each (Undisturbed p i) v qs
      → ReadyAt p i (after v qs)
  unfolding Each after
  stays v typed sound r [] words quiet = r
  stays v typed sound r (q ∷ qs) words quiet =
      let ty = next-typed v typed sound q words.0 in
      let so = next-sound v typed sound q words.0 in
      stays (next v q) ty so (ready-stays v typed sound q p i r quiet.0).ready qs words.1 quiet.1

  pub order : (v : Tables) → Typed v → Sound v → ReadyAt p i v → (qs : List Call) → AllWords v qs → Each (Undisturbed p i) v qs
      → Sublistᴰ (ahead i (queue_at p (after v qs))) (ahead i (queue_at p v))
  unfolding Each after
  order v typed sound r [] words quiet = Sublistᴰ.refl (ahead i (queue_at p v))
  order v typed sound r (q ∷ qs) words quiet =
      let ty = next-typed v typed sound q words.0 in
      let so = next-sound v typed sound q words.0 in
      let one = ready-stays v typed sound q p i r quiet.0 in
      Sublistᴰ.trans (order (next v q) ty so one.ready qs words.1 quiet.1) one.order

  pub gone : (v : Tables) → Typed v → Sound v → ReadyAt p i v → (qs : List Call) → AllWords v qs → Each (Undisturbed p i) v qs
      → (x : ℕ) → Gone p x v qs → count x (ahead i (queue_at p (after v qs))) ≡ 0
  unfolding Each after Gone
  gone v typed sound r [] words quiet x out = omega (arith, ahead-count x i (queue_at p v), out)
  gone v typed sound r (q ∷ qs) words quiet x away =
      let ty = next-typed v typed sound q words.0 in
      let so = next-sound v typed sound q words.0 in
      let one = ready-stays v typed sound q p i r quiet.0 in
      let later = order (next v q) ty so one.ready qs words.1 quiet.1 in
      ⊎_elim
      (λ (out : count x (queue_at p v) ≡ 0). omega (arith, sub-count x later, sub-count x one.order, ahead-count x i (queue_at p v), out))
      (λ (rest : Yields x v q ⊎ Gone p x (next v q) qs).
      ⊎_elim
      (λ (y : Yields x v q). omega (arith, sub-count x later, one.yielded x y))
      (λ (g : Gone p x (next v q) qs). gone (next v q) ty so one.ready qs words.1 quiet.1 x g)
      rest)
      away

  -- once each of those before it has left or yielded, nobody is before it
  pub front : (v : Tables) → Typed v → Sound v → ReadyAt p i v → (qs : List Call) → AllWords v qs → Each (Undisturbed p i) v qs
      → ((x : ℕ) → 0 < count x (ahead i (queue_at p v)) → Gone p x v qs) → ahead i (queue_at p (after v qs)) ≡ []
  front v typed sound r qs words quiet all =
      empty (ahead i (queue_at p (after v qs)))
      (λ x.
      ⊎_elim
      (λ (z : count x (ahead i (queue_at p v)) ≡ 0). omega (arith, sub-count x (order v typed sound r qs words quiet), z))
      (λ (n : count x (ahead i (queue_at p v)) ≢ 0). gone v typed sound r qs words quiet x (all x (omega arith)))
      (same? (count x (ahead i (queue_at p v))) 0))
