-- What demand 3 speaks of: a task that waits, its turn at a semaphore, and its turn in its priority's queue.
use Rattle.std.specs.Prelude.{ℕ, ◌+◌, ◌<◌, ◌≤◌, ◌≡◌, ◌≢◌, ◌⊎◌, Bool, true, ◌&&◌, List, [], ◌∷◌, ◌++◌, eqb}
use Rattle.basics.specs.Lists.{bit, count, ahead}
use Rattle.rules.specs.Tables.{levels, at_semaphore, ready, task, state, DEPTH, SWIS, TASKS}
use Rattle.rules.specs.Lines.{line, semaphore_line, active_line, ready_line}
use Rattle.rules.specs.Dispatch.{running}
use Rattle.rules.specs.declared.Tables.{Tables}
use Rattle.rules.specs.declared.Thread.TheVariants.{Task}
use Rattle.runs.specs.Run.{made, next, after, Always}
use Rattle.rules.specs.declared.Call.{Call}

-- ---- the waiter
-- task i is blocked on semaphore s, and those who stand before it
abbrev pub BlockedOn : ℕ → ℕ → Tables → Type 0
BlockedOn s i t = ((task t.tasks i).mode ≡ at_semaphore) × ((task t.tasks i).object ≡ s)

abbrev pub before_at : ℕ → ℕ → Tables → List ℕ
before_at s i t = ahead i (line t.lines (semaphore_line s))

-- an accepted post on s: call 23, answered with code 0
abbrev pub is_post : ℕ → Tables → Call → Bool
is_post s t q = eqb q.number 0x23 && eqb q.a s && eqb (made t q).answer.code 0

-- how many of these calls are accepted posts on s
unfoldable pub posts_on : ℕ → Tables → List Call → ℕ
posts_on s t [] = 0
posts_on s t (q ∷ qs) = bit (is_post s t q) + posts_on s (next t q) qs

-- among these calls is the one that served task i: all along before it i was blocked, it is an accepted post on s after at most k others, and it
-- leaves i ready with outcome 0 and value 0
pub record ServedIn (s i k : ℕ) (u : Tables) (qs : List Call) : Type 0 where
  pub before : List Call
  pub post : Call
  pub rest : List Call
  pub split : qs ≡ before ++ (post ∷ rest)
  pub blocked : Always (BlockedOn s i) u before
  pub few : posts_on s u before ≤ k
  pub posted : is_post s (after u before) post ≡ true
  -- the tables right after that post
  pub moment : Tables
  pub now : moment ≡ next (after u before) post
  pub ready : (task moment.tasks i).mode ≡ ready
  pub outcome : (task moment.tasks i).outcome ≡ 0
  pub value : (task moment.tasks i).value ≡ 0

-- ---- the ready task
abbrev pub ReadyAt : ℕ → ℕ → Tables → Type 0
ReadyAt p i t = ((task t.tasks i).mode ≡ ready) × ((task t.tasks i).priority ≡ p)

abbrev pub queue_at : ℕ → Tables → List ℕ
queue_at p t = line t.lines (ready_line p)

-- "it is at the front": it stands in the queue, and nobody before it
pub record AtFront (p i : ℕ) (t : Tables) : Type 0 where
  pub behind : List ℕ
  pub is : queue_at p t ≡ i ∷ behind

-- it does not run when the call is made, and the call leaves it its priority
abbrev pub Undisturbed : ℕ → ℕ → Tables → Call → Type 0
Undisturbed p i t q = (running t.lines t.state ≢ Task i) × ((task (next t q).tasks i).priority ≡ p)

-- task x yields: an accepted call 03 while x runs
abbrev pub Yields : ℕ → Tables → Call → Type 0
Yields x t q = (running t.lines t.state ≡ Task x) × (q.number ≡ 0x03) × ((made t q).answer.code ≡ 0)

-- x has left the queue of priority p (it stood there no more at some time) or yielded since
unfoldable pub Gone : ℕ → ℕ → Tables → List Call → Type 0
Gone p x t [] = count x (queue_at p t) ≡ 0
Gone p x t (q ∷ qs) = (count x (queue_at p t) ≡ 0) ⊎ (Yields x t q ⊎ Gone p x (next t q) qs)

-- ---- it may run: no task of a higher priority is ready, no interrupt is open, no Swi active, and both switches are on
pub record Unhindered (p : ℕ) (t : Tables) : Type 0 where
  pub higher : (r : ℕ) → p < r → r < levels t.state → queue_at r t ≡ []
  pub depth : state t.state DEPTH ≡ 0
  pub active : line t.lines active_line ≡ []
  pub swis : state t.state SWIS ≢ 0
  pub tasks : state t.state TASKS ≢ 0
