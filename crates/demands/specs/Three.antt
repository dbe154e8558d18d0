-- Demand 3: "Let a task begin to wait without time limit on an arrival-order semaphore, behind k others. Whatever calls follow, refused ones
-- included, it stays blocked until one of the next k + 1 accepted posts there readies it, and nothing else does. It then has j ready tasks of
-- its priority in front. If its priority is not changed before it runs, none joins in front of it, and once those j have each left the queue or
-- yielded it is at the front; it runs whenever it is there with no higher task ready, no interrupt open, no Swi active and both schedulers on."
use Rattle.std.specs.Prelude.{ℕ, ◌+◌, ◌<◌, ◌≤◌, ◌≡◌, ◌⊎◌, length}
use mathlib.Core.List.{List, [], ◌∷◌, ◌++◌, Sublistᴰ}
use Rattle.basics.specs.Lists.{count, ahead}
use Rattle.rules.specs.Tables.{Typed, word_end, forever, task, current, semaphore, KIND}
use Rattle.rules.specs.Answer.{now_waiting, asked}
use Rattle.rules.specs.Lines.{line, semaphore_line}
use Rattle.rules.specs.Dispatch.{running}
use Rattle.rules.specs.Sound.{Sound}
use Rattle.rules.specs.declared.Tables.{Tables}
use Rattle.rules.specs.declared.Thread.TheVariants.{Task}
use Rattle.runs.specs.Run.{made, next, after, Always, Each, AllWords}
use Rattle.runs.specs.Turn.{BlockedOn, before_at, posts_on, ServedIn, ReadyAt, queue_at, AtFront, Undisturbed, Gone, Unhindered}
use Rattle.rules.specs.declared.Call.{Call}

-- ---- the waiter: task i at semaphore s, behind k others, in tables u
pub record Waits (s i k : ℕ) (u : Tables) : Type 0 where
  -- whatever calls follow, it is blocked on s all along, with at most k less the accepted posts there before it; or one of the first k + 1
  -- accepted posts on s readied it, and nothing else did
  pub turn : (qs : List Call) → AllWords u qs
      → (Always (BlockedOn s i) u qs × (length (before_at s i (after u qs)) + posts_on s u qs ≤ k)) ⊎ ServedIn s i k u qs
  -- and once there were k + 1 it has been readied
  pub in_time : (qs : List Call) → AllWords u qs → k < posts_on s u qs → ServedIn s i k u qs

-- ---- the ready task: i of priority p, in tables v
pub record Queues (p i : ℕ) (v : Tables) : Type 0 where
  -- as long as it does not run and keeps its priority it is ready, and those before it are some of those who were, in their order
  pub order : (qs : List Call) → AllWords v qs → Each (Undisturbed p i) v qs
      → ReadyAt p i (after v qs) × Sublistᴰ (ahead i (queue_at p (after v qs))) (ahead i (queue_at p v))
  -- who has left the queue or yielded since is not among them
  pub gone : (qs : List Call) → AllWords v qs → Each (Undisturbed p i) v qs → (x : ℕ) → Gone p x v qs
      → count x (ahead i (queue_at p (after v qs))) ≡ 0
  -- and once each of them has, it is at the front
  pub front : (qs : List Call) → AllWords v qs → Each (Undisturbed p i) v qs → ((x : ℕ) → 0 < count x (ahead i (queue_at p v)) → Gone p x v qs)
      → AtFront p i (after v qs)
  -- it runs whenever it is there and nothing stands in its way, whatever calls were made
  pub runs : (qs : List Call) → AllWords v qs → ReadyAt p i (after v qs) → AtFront p i (after v qs) → Unhindered p (after v qs)
      → running (after v qs).lines (after v qs).state ≡ Task i

-- "Kinds 0 and 1 wait in arrival order": semaphore s is of one of them
abbrev pub ArrivalOrder : ℕ → Tables → Type 0
ArrivalOrder s t = semaphore t.semaphores s KIND < 2

-- the call with which it begins to wait
abbrev pub pend : ℕ → Call
pend s = asked 0x22 s forever 0 0

-- task i began to wait at s behind these others, and the tables are u
pub record Turn (s i : ℕ) (others : List ℕ) (u : Tables) : Type 0 where
  pub behind : line u.lines (semaphore_line s) ≡ others ++ (i ∷ [])
  pub waits : Waits s i (length others) u
  -- from the moment when it is readied
  pub queues : (qs : List Call) → AllWords u qs → (x : ServedIn s i (length others) u qs)
      → Queues (task x.moment.tasks i).priority i x.moment

-- the demand: of sound tables in which the current task begins to wait without end at an arrival-order semaphore; the others are those who stood in
-- the line before the call
abbrev pub DemandThree : Type 0
DemandThree =
    (t : Tables) → Typed t → Sound t → (s : ℕ) → s < word_end → ArrivalOrder s t → (made t (pend s)).answer.outcome ≡ now_waiting
    → Turn s (current t.state) (line t.lines (semaphore_line s)) (next t (pend s))
