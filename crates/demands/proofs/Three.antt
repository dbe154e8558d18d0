-- Demand 3 holds: a call leaves a task that it does not move its row and its place (`turns`), and so its turn comes.
use Prim.{tt}
use Prim.Native.Nat.{ℕ, ◌<◌, ◌≤◌}
use mathlib.Core.Path.{◌≡◌, refl, ap}
use mathlib.Core.Logic.{inl, inr, ⊎_elim}
use mathlib.Core.List.{List, [], ◌∷◌, ◌++◌}
use native.Mathlib.Omega.{arith}
use lib.ListN.{length}
use Rattle.rules.specs.Answer.{now_waiting, Words}
use Rattle.rules.specs.Tables.{Typed, word_end, task, current}
use Rattle.rules.specs.Lines.{line, semaphore_line}
use Rattle.rules.specs.Sound.{Sound}
use Rattle.rules.specs.declared.Tables.{Tables}
use Rattle.runs.specs.Run.{made, next, after, Each, AllWords}
use Rattle.runs.specs.Turn.{before_at, ServedIn, ReadyAt, Undisturbed}
use Rattle.demand_3_turns.proofs.Made.{next-typed, next-sound}
use Rattle.demand_3_turns.proofs.Begins.{begins, behind, at_back}
use Rattle.demand_3_turns.proofs.Waits.{turn, in-time}
use Rattle.demand_3_turns.proofs.Ahead.{sub-length}
use Rattle.demand_3_turns.proofs.Queues as InTurn
use Rattle.demand_3_turns.proofs.Fronts.{at_front, nobody-before, runs-there}
use Rattle.demands.specs.Three.{DemandThree, Queues, ArrivalOrder, Turn, pend}
use Rattle.demands.proofs.Two.{sound-after}
use Rattle.rules.specs.declared.Call.{Call}

-- what follows of each call from what is known of each
each_of : (P Q : Tables → Call → Type 0) (t : Tables) (qs : List Call) → Each P t qs → ((u : Tables) (q : Call) → P u q → Q u q) → Each Q t qs
unfolding Each
each_of P Q t [] e f = tt
each_of P Q t (q ∷ qs) (here, later) f = (f t q here, each_of P Q (next t q) qs later f)

-- ---- the parts: each by a law of `turns`, and what the law asks from what is given
queues-in-turn : (v : Tables) → Typed v → Sound v → (p i : ℕ) → ReadyAt p i v → Queues p i v
queues-in-turn v typed sound p i r =
    record {
      order = λ qs w quiet.
          let still = each_of _ (Undisturbed p i) v qs quiet (λ u q h. (search, search)) in
          let those = InTurn.order p i v typed sound r qs w still in
          let no_more = sub-length those in
          (InTurn.stays p i v typed sound r qs w still, search);
      gone = λ qs w quiet.
          InTurn.gone p i v typed sound r qs w (each_of _ (Undisturbed p i) v qs quiet (λ u q h. (search, search)));
      front = λ qs w quiet all.
          let still = each_of _ (Undisturbed p i) v qs quiet (λ u q h. (search, search)) in
          let (ty, so) = sound-after v typed sound qs w in
          at_front (after v qs) ty so p i (InTurn.stays p i v typed sound r qs w still) (InTurn.front p i v typed sound r qs w still all);
      runs =
          λ qs w there first free.
          let (ty, so) = sound-after v typed sound qs w in
          runs-there (after v qs) ty so p i there
          record {
            higher = λ r over under. free.higher r (omega arith) under;
            depth = free.depth;
            active = free.active;
            swis = free.swis;
            tasks = free.tasks;
          }
          (nobody-before first);
    }

-- the first calls of a run, and the one after them, are words too
words-before : (u : Tables) (qs : List Call) (q : Call) (rest : List Call) → AllWords u (qs ++ (q ∷ rest)) → AllWords u qs × Words q
unfolding Each
words-before u [] q rest w = (tt, w.0)
words-before u (p ∷ qs) q rest w = let (before, here) = words-before (next u p) qs q rest w.1 in ((w.0, before), here)

module _ (t : Tables) (typed : Typed t) (sound : Sound t) (s : ℕ) (word : s < word_end) (arrival : ArrivalOrder s t)
    (waits : (made t (pend s)).answer.outcome ≡ now_waiting) where
  begun : Typed (next t (pend s)) × Sound (next t (pend s))
  begun =
      let w : Words (pend s) = record { a = word; b = omega arith; c = omega arith; d = omega arith } in
      (next-typed t typed sound (pend s) w, next-sound t typed sound (pend s) w)

  behind-others : before_at s (current t.state) (next t (pend s)) ≡ line t.lines (semaphore_line s)
  behind-others = behind t typed sound s word (omega (arith, arrival)) waits

  behind-them : length (before_at s (current t.state) (next t (pend s))) ≤ length (line t.lines (semaphore_line s))
  behind-them = omega (arith, ap length behind-others)

  moment-sound : (qs : List Call) → AllWords (next t (pend s)) qs
      → (x : ServedIn s (current t.state) (length (line t.lines (semaphore_line s))) (next t (pend s)) qs) → Typed x.moment × Sound x.moment
  moment-sound qs w x =
      let (before, here) = words-before (next t (pend s)) x.before x.post x.rest (rw x.split at w) in
      let (ty, so) = sound-after (next t (pend s)) begun.0 begun.1 x.before before in
      let u = after (next t (pend s)) x.before in
      rw x.now (next-typed u ty so x.post here, next-sound u ty so x.post here)

  turn-comes : Turn s (current t.state) (line t.lines (semaphore_line s)) (next t (pend s))
  turn-comes =
      let w = begins t typed sound s word (omega (arith, arrival)) waits in
      record {
        behind = at_back t typed sound s word (omega (arith, arrival)) waits;
        waits =
            record {
              turn = λ qs words.
                  ⊎_elim
                  (λ h. inl (h.0, omega (arith, h.1)))
                  inr
                  (turn s (current t.state) _ (next t (pend s)) begun.0 begun.1 w behind-them qs words);
              in_time = λ qs words many.
                  in-time s (current t.state) _ (next t (pend s)) begun.0 begun.1 w behind-them qs words (omega (arith, many));
            };
        queues =
            λ qs words x.
            let (ty, so) = moment-sound qs words x in
            queues-in-turn x.moment ty so (task x.moment.tasks (current t.state)).priority (current t.state) (x.ready, refl);
      }

pub demand-3 : DemandThree
demand-3 = turn-comes
