-- Demand 3 says no more than is true: four statements that say more than one of its fields, and of each a run from `Story`'s tables that denies it.
use Prim.Native.Nat.{ℕ, ◌+◌, ◌≤◌}
use mathlib.Core.Path.{◌≡◌, refl, ap}
use mathlib.Core.Logic.{inl, inr}
use mathlib.Core.List.{List, [], ◌∷◌, ◌++◌}
use native.Mathlib.Omega.{arith}
use lib.ListN.{length, drop}
use Rattle.basics.specs.Lists.{count, ahead}
use Rattle.rules.specs.Fresh.{no_events, no_mailboxes, no_swis, no_clocks, free_heap}
use Rattle.rules.specs.Tables.{levels, ready, at_semaphore, terminated, tables, task}
use Rattle.rules.specs.Lines.{line, active_line, ready_line}
use Rattle.rules.specs.Dispatch.{running, highest_ready}
use Rattle.rules.specs.declared.Tables.{Tables}
use Rattle.rules.specs.declared.Thread.TheVariants.{Task}
use Rattle.rules_laws.proofs.Runs.{Line, ◌⇒◌, said, calls, T, create_task, yield, post}
use Rattle.rules.proofs.Computed.{computed}
use Rattle.rules.proofs.Standing.{lines_with, ◌has◌}
use Rattle.demand_3_turns.proofs.Fronts.{nobody-before}
use Rattle.runs.specs.Run.{next, after, Each, AllWords}
use Rattle.runs.specs.Turn.{BlockedOn, posts_on, ServedIn, ReadyAt, queue_at, AtFront, Undisturbed, Gone, Unhindered}
use Rattle.demands_examples.proofs.Rows.{tasks_of, semaphores_of, state_of}
use Rattle.demand_2_soundness.proofs.RunsBySteps.{asks, in_words}
use Rattle.demands_examples.proofs.BySteps.{pass, Leads, leads, anything, blocked, unchanged, stays-blocked, stays-unchanged}
use Rattle.demands_examples.proofs.BySteps.{not-served, none-higher}
use Rattle.demands_examples.proofs.Stated.{Begun, Readied, begun-there}
use Rattle.demands_examples.proofs.Story.{queueing, tables_of, row, start, begun, moment, story, shown}
use Rattle.demands_examples.proofs.Example.{begins, to-ending, readied-there, in-moment, yields, front}
use Rattle.demands_examples.proofs.Told.{later, to-begun, to-moment, quiet}
use Rattle.rules.specs.declared.Call.{Call}

-- ---- "one of the next k + 1 accepted posts": k are not enough. Task 3 waits behind two, and the two posts ready these
abbrev two_posts : List Line
two_posts = post 0 ⇒ said 0 0 1 (T 1) ∷ post 0 ⇒ said 0 0 2 (T 1) ∷ []

unfoldable alone : Tables
alone = tables_of (row ready 0 0 ∷ row ready 0 0 ∷ row at_semaphore 0 0 ∷ []) (3 ∷ []) (1 ∷ 2 ∷ []) 0 0 1

to-alone : Leads (blocked 0 3) 0 begun two_posts 2 alone
unfolding computed lines_with tables_of pass in_words begun alone
to-alone = leads (blocked 0 3) 0 begun (to-begun story shown).typed (to-begun story shown).sound two_posts 2 alone refl refl

in-alone : BlockedOn 0 3 alone
unfolding computed tables_of alone
in-alone = (refl, refl)

abbrev pub KAreEnough : ℕ → ℕ → List ℕ → Tables → Type 0
KAreEnough s i others u = (qs : List Call) → AllWords u qs → length others ≤ posts_on s u qs → ServedIn s i (length others) u qs

pub not-with-k-posts : Begun 2 KAreEnough → ⊥
not-with-k-posts every =
    not-served 0 3 2 begun (asks (calls two_posts))
    (stays-blocked 0 3 begun (asks (calls two_posts)) to-alone.all (rw to-alone.now in-alone))
    (begun-there 2 KAreEnough start 3 (1 ∷ 2 ∷ []) begun begins every (asks (calls two_posts)) to-alone.words (omega (arith, to-alone.posts)))

-- ---- "none joins in front of it": but those in front may leave. Task 1 yields and task 2 ends
abbrev pub AllStay : ℕ → ℕ → Tables → Type 0
AllStay p i v =
    (qs : List Call) → AllWords v qs → Each (Undisturbed p i) v qs → ahead i (queue_at p (after v qs)) ≡ ahead i (queue_at p v)

pub not-all-of-those-before : Readied AllStay → ⊥
not-all-of-those-before every =
    let same = readied-there AllStay every (later story) to-ending.words (quiet story shown) in
    omega (arith, ap length (nobody-before front), ap length (rw (to-ending.now, in-moment.1) at same))

-- ---- "before it runs": once it runs it may yield. Then task 1 is before it again, which had yielded in its turn
abbrev yielding : List Line
yielding = queueing ++ (yield ⇒ said 0 0 0 (T 1) ∷ [])

unfoldable behind : Tables
behind = tables_of (row ready 0 1 ∷ row terminated 0 0 ∷ row ready 0 0 ∷ row ready 0 0 ∷ []) [] (1 ∷ 4 ∷ 3 ∷ []) 1 3 1

to-behind : Leads (unchanged 5 3) 0 moment yielding 1 behind
unfolding computed lines_with tables_of pass in_words moment behind
to-behind = leads (unchanged 5 3) 0 moment (to-moment story shown).typed (to-moment story shown).sound yielding 1 behind refl refl

in-behind : count 1 (ahead 3 (queue_at 5 behind)) ≡ 1
unfolding computed ahead lines_with tables_of behind
in-behind = refl

one-gone : Gone 5 1 moment (asks (calls yielding))
unfolding Gone
one-gone = inr (inl (in-moment.2, refl, yields))

abbrev pub GoneForGood : ℕ → ℕ → Tables → Type 0
GoneForGood p i v =
    (qs : List Call) → AllWords v qs → Each (λ t q. (task (next t q).tasks i).priority ≡ p) v qs → (x : ℕ) → Gone p x v qs
    → count x (ahead i (queue_at p (after v qs))) ≡ 0

pub not-while-it-runs : Readied GoneForGood → ⊥
not-while-it-runs every =
    let kept = stays-unchanged 5 3 moment (asks (calls yielding)) to-behind.all in
    let none = readied-there GoneForGood every (asks (calls yielding)) to-behind.words kept 1 one-gone in
    omega (arith, in-behind, rw to-behind.now at none)

-- ---- "with no higher task ready": one of the next priority stands in its way. Task 3 makes task 5 of priority 6, which runs
abbrev outranking : List Line
outranking = queueing ++ (create_task 6 ⇒ said 0 0 5 (T 5) ∷ [])

unfoldable outranked : Tables
outranked =
    tables (tasks_of (row ready 0 1 ∷ row terminated 0 0 ∷ row ready 0 0 ∷ row ready 0 0 ∷ (ready ∷ 6 ∷ []) ∷ []))
    (lines_with (ready_line 0 has (0 ∷ []) ∷ ready_line 5 has (3 ∷ 1 ∷ 4 ∷ []) ∷ ready_line 6 has (5 ∷ []) ∷ []))
    (semaphores_of ((1 ∷ 0 ∷ 1 ∷ []) ∷ (1 ∷ 0 ∷ 65535 ∷ []) ∷ [])) no_events no_mailboxes no_swis no_clocks free_heap (state_of 3 5)

to-outranked : Leads anything 0 moment outranking 1 outranked
unfolding computed lines_with tables_of pass in_words moment outranked
to-outranked = leads anything 0 moment (to-moment story shown).typed (to-moment story shown).sound outranking 1 outranked refl refl

in-outranked : ReadyAt 5 3 outranked × (queue_at 5 outranked ≡ 3 ∷ drop 1 (queue_at 5 outranked)) × (running outranked.lines outranked.state ≡ Task 5)
    × (highest_ready (levels outranked.state) outranked.lines ≡ 7) × (line outranked.lines active_line ≡ [])
unfolding computed ahead lines_with outranked
in-outranked = ((refl, refl), refl, refl, refl, refl)

foremost : AtFront 5 3 outranked
foremost = record { behind = drop 1 (queue_at 5 outranked); is = in-outranked.1 }

nearly-unhindered : Unhindered 6 outranked
unfolding outranked
nearly-unhindered =
    record {
      higher = λ r over under. none-higher outranked r (omega (arith, in-outranked.3)) under;
      depth = refl;
      active = in-outranked.4;
      swis = λ e. omega (arith, e);
      tasks = λ e. omega (arith, e);
    }

abbrev pub RunsWithOneHigher : ℕ → ℕ → Tables → Type 0
RunsWithOneHigher p i v =
    (qs : List Call) → AllWords v qs → ReadyAt p i (after v qs) → AtFront p i (after v qs) → Unhindered (p + 1) (after v qs)
    → running (after v qs).lines (after v qs).state ≡ Task i

pub not-with-one-higher : Readied RunsWithOneHigher → ⊥
not-with-one-higher every =
    let runs =
    rw to-outranked.now at
    (readied-there RunsWithOneHigher every (asks (calls outranking)) to-outranked.words (rw to-outranked.now in-outranked.0)
    (rw to-outranked.now foremost) (rw to-outranked.now nearly-unhindered)) in
    let other = in-outranked.2 in
    let z : ◌≡◌ {A = ℕ} 3 5 = cc in
    omega arith
