-- A story of demand 3: a task begins to wait without end at semaphore 0, a post readies it, and in its queue it comes to the front. Once its calls and its
-- tables are computed, every premise of `demand-3` is met, and what that says comes true: shown here for each story alike.
-- In this order: calls and then more calls; what is computed; the premise and its instance; the post; its turn in the queue.
use Prim.Native.Nat.{ℕ, suc, ◌+◌, ◌<◌, ◌≤◌}
use mathlib.Core.Path.{◌≡◌, subst, ◌∙◌}
use mathlib.Core.Bool.{Bool, true}
use mathlib.Core.List.{List, [], ◌∷◌, ◌++◌}
use native.Mathlib.Omega.{arith}
use lib.ListN.{length}
use Rattle.basics.specs.Lists.{count, ahead}
use Rattle.rules.specs.Answer.{asked}
use Rattle.rules.specs.Tables.{Typed, forever, task, current, levels, semaphore, state, KIND, DEPTH, SWIS, TASKS}
use Rattle.rules.specs.Lines.{line, semaphore_line, active_line}
use Rattle.rules.specs.Dispatch.{running, highest_ready}
use Rattle.rules.specs.Sound.{Sound}
use Rattle.rules.specs.declared.Call.{Call}
use Rattle.rules.specs.declared.Tables.{Tables}
use Rattle.rules.specs.declared.Thread.TheVariants.{Task}
use Rattle.rules_laws.proofs.Runs.{Line, ◌⇒◌, said, says, calls, answers, T, post}
use Rattle.rules_laws.proofs.Runs as Runs
use Rattle.runs.specs.Run.{made, next, after, Each, AllWords}
use Rattle.runs.specs.Turn.{BlockedOn, posts_on, ServedIn, ReadyAt, queue_at, AtFront, Undisturbed, Gone, Unhindered}
use Rattle.demands.specs.Three.{pend, Turn, Queues}
use Rattle.demands.proofs.Three.{demand-3}
use Rattle.mixtures.proofs.Appended.{each_append}
use Rattle.demand_2_soundness.proofs.RunsBySteps.{asks, in_words}
use Rattle.demands_examples.proofs.BySteps.{pass, Leads, leads, anything, blocked, undisturbed, stays-undisturbed, served-there}
use Rattle.demands_examples.proofs.BySteps.{unhindered-there}
use Rattle.demands_examples.proofs.Stated.{WhenServed, Readied, Begins, begun-there}

-- ---- calls and then more calls
posts-append : (s : ℕ) (t : Tables) (qs rs : List Call) → posts_on s t (qs ++ rs) ≡ posts_on s t qs + posts_on s (after t qs) rs
unfolding posts_on after
posts-append s t [] rs = omega arith
posts-append s t (q ∷ qs) rs =
    let ih = posts-append s (next t q) qs rs in
    omega arith

-- what leads to v and then calls from v
module _ (f : Tables → Tables → Bool) (t : Tables) (ls : List Line) (n : ℕ) (v : Tables) (l : Leads f 0 t ls n v) (rest : List Call) where
  words-on : AllWords v rest → AllWords t (asks (calls ls) ++ rest)
  words-on w = each_append _ t (asks (calls ls)) rest l.words (rw l.now w)

  posts-on : (m : ℕ) → posts_on 0 v rest ≡ m → posts_on 0 t (asks (calls ls) ++ rest) ≡ n + m
  posts-on m e = posts-append 0 t (asks (calls ls)) rest ∙ rw (l.now, l.posts, e)

-- ---- a story: the task, its priority, those who stand before it at the semaphore; the calls while it is blocked and those once it is ready, with the
-- number of accepted posts among them; and the tables before it waits, then, before the post that readies it, after that post, and at the end
pub record Story : Type 0 where
  pub task : ℕ
  pub priority : ℕ
  pub others : List ℕ
  pub flood : List Line
  pub queueing : List Line
  pub before : ℕ
  pub since : ℕ
  pub start : Tables
  pub begun : Tables
  pub flooded : Tables
  pub moment : Tables
  pub ending : Tables

-- by the task, its priority and the others; each run of calls with its accepted posts; and the tables
abbrev pub tell : ℕ → ℕ → List ℕ → List Line → ℕ → List Line → ℕ → Tables → Tables → Tables → Tables → Tables → Story
tell task priority others flood before queueing since start begun flooded moment ending =
    record {
      task = task;
      priority = priority;
      others = others;
      flood = flood;
      queueing = queueing;
      before = before;
      since = since;
      start = start;
      begun = begun;
      flooded = flooded;
      moment = moment;
      ending = ending;
    }

-- it begins to wait, and task 0 runs; the post that readies it, while task 1 runs
abbrev pub beginning : List Line
beginning = Runs.pend 0 forever ⇒ said 0 2 0 (T 0) ∷ []

abbrev pub serving : ℕ → List Line
serving i = post 0 ⇒ said 0 0 i (T 1) ∷ []

-- ---- what is computed: each call says what stands beside it, so many of them are accepted posts, and the tables are these
abbrev Passes : (Tables → Tables → Bool) → Tables → List Line → ℕ → Tables → Type 0
Passes f t ls n u = (in_words (asks (calls ls)) ≡ true) × (pass f 0 t (calls ls) ≡ record { says = answers ls; posts = n; all = true; now = u })

abbrev pub Computed : Story → Type 0
Computed s =
    Passes anything s.start beginning 0 s.begun
    × Passes (blocked 0 s.task) s.begun s.flood s.before s.flooded
    × Passes anything s.flooded (serving s.task) 1 s.moment
    × Passes (undisturbed s.priority s.task) s.moment s.queueing s.since s.ending

-- and what stands in them
abbrev pub Stands : Story → Type 0
Stands s =
    ((current s.start.state ≡ s.task) × (line s.start.lines (semaphore_line 0) ≡ s.others) × (semaphore s.start.semaphores 0 KIND ≡ 0))
    × BlockedOn 0 s.task s.flooded
    × (ReadyAt s.priority s.task s.moment × ((task s.moment.tasks s.task).outcome ≡ 0) × ((task s.moment.tasks s.task).value ≡ 0))
    × ReadyAt s.priority s.task s.ending
    × ((highest_ready (levels s.ending.state) s.ending.lines ≡ suc s.priority) × (line s.ending.lines active_line ≡ []))
    × ((state s.ending.state DEPTH ≡ 0) × (state s.ending.state SWIS ≡ 1) × (state s.ending.state TASKS ≡ 1))

-- those before it are at least as many as the accepted posts of the flood, but fewer than all
abbrev pub Enough : Story → Type 0
Enough s = (s.before ≤ length s.others) × (length s.others < s.before + (1 + s.since))

-- the whole, from sound tables
pub record Shown (s : Story) : Type 0 where
  pub typed : Typed s.start
  pub sound : Sound s.start
  pub computed : Computed s
  pub stands : Stands s
  pub enough : Enough s

pub shows : (s : Story) (setup : List Line) (t : Tables) → Leads anything 0 t setup 0 s.start → Computed s → Stands s → Enough s → Shown s
shows s setup t l computed stands enough = record { typed = l.typed; sound = l.sound; computed = computed; stands = stands; enough = enough }

-- once it is ready, and from when it begins to wait
abbrev pub later : Story → List Call
later s = asks (calls s.queueing)

abbrev pub run : Story → List Call
run s = asks (calls s.flood) ++ (asked 0x23 0 0 0 0 ∷ later s)

module _ (s : Story) (h : Shown s) where
  pub to-begun : Leads anything 0 s.start beginning 0 s.begun
  to-begun = let c = h.computed.0 in leads anything 0 s.start h.typed h.sound beginning 0 s.begun c.0 c.1

  pub to-flooded : Leads (blocked 0 s.task) 0 s.begun s.flood s.before s.flooded
  to-flooded =
      let c = h.computed.1 in leads _ 0 s.begun to-begun.typed to-begun.sound s.flood s.before s.flooded c.0 c.1

  pub to-moment : Leads anything 0 s.flooded (serving s.task) 1 s.moment
  to-moment =
      let c = h.computed.2 in
      leads anything 0 s.flooded to-flooded.typed to-flooded.sound (serving s.task) 1 s.moment c.0 c.1

  pub to-ending : Leads (undisturbed s.priority s.task) 0 s.moment s.queueing s.since s.ending
  to-ending =
      let c = h.computed.3 in leads _ 0 s.moment to-moment.typed to-moment.sound s.queueing s.since s.ending c.0 c.1

  words : AllWords s.begun (run s)
  words =
      words-on _ s.begun s.flood s.before s.flooded to-flooded _
      (words-on anything s.flooded (serving s.task) 1 s.moment to-moment (later s) to-ending.words)

  posts : posts_on 0 s.begun (run s) ≡ s.before + (1 + s.since)
  posts =
      posts-on _ s.begun s.flood s.before s.flooded to-flooded _ _
      (posts-on anything s.flooded (serving s.task) 1 s.moment to-moment (later s) _ to-ending.posts)

  -- ---- the premise of demand 3, and its instance
  pub begins : Begins 2 s.start s.task s.others s.begun
  unfolding after says
  begins =
      let (now, behind, kind) = h.stands.0 in
      let e = to-begun.answers.so in
      record { typed = h.typed; sound = h.sound; kind = omega arith; waits = cc; task = now; behind = behind; now = to-begun.now }

  pub turn : Turn 0 s.task s.others s.begun
  turn = begun-there 2 Turn s.start s.task s.others s.begun begins demand-3

  -- ---- by the theorem one of the posts readies it; it is the one after the flood
  pub in-time : ServedIn 0 s.task (length s.others) s.begun (run s)
  in-time = turn.waits.in_time (run s) words (omega (arith, posts, h.enough.1))

  accepted : (made s.flooded (asked 0x23 0 0 0 0)).answer.code ≡ 0
  unfolding says
  accepted = let e = to-moment.answers.so in cc

  unfoldable served : ServedIn 0 s.task (length s.others) s.begun (run s)
  unfolding after
  served =
      let (ready, outcome, value) = h.stands.2 in
      served-there s.task (length s.others) s.before s.begun s.flooded s.moment s.flood (later s) to-flooded h.enough.0 h.stands.1
      accepted to-moment.now (ready.0, outcome, value)

  -- what is said of each moment at which a task is readied is said of this one
  pub readied-there : (P : ℕ → ℕ → Tables → Type 0) → Readied P → P s.priority s.task s.moment
  unfolding served served-there
  readied-there P every =
      subst (λ (p : ℕ). P p s.task s.moment) h.stands.2.0.1
      (begun-there 2 (WhenServed P) s.start s.task s.others s.begun begins every (run s) words served)

  pub queues : Queues s.priority s.task s.moment
  queues = readied-there Queues (λ t typed sound s word kind begun. (demand-3 t typed sound s word kind begun).queues)

  -- ---- its turn in the queue: once those before it are gone it is at the front, and it runs
  pub quiet : Each (Undisturbed s.priority s.task) s.moment (later s)
  quiet = stays-undisturbed s.priority s.task s.moment (later s) to-ending.all

  pub unhindered : Unhindered s.priority s.ending
  unhindered =
      let (highest, none) = h.stands.4 in
      let (depth, swis, tasks) = h.stands.5 in
      unhindered-there s.priority s.ending highest none depth swis tasks

  module _ (gone : (x : ℕ) → 0 < count x (ahead s.task (queue_at s.priority s.moment)) → Gone s.priority x s.moment (later s)) where
    pub front : AtFront s.priority s.task s.ending
    front = rw to-ending.now at (queues.front (later s) to-ending.words quiet gone)

    pub at_last : running s.ending.lines s.ending.state ≡ Task s.task
    at_last =
        rw to-ending.now at
        (queues.runs (later s) to-ending.words (rw to-ending.now h.stands.3) (rw to-ending.now front) (rw to-ending.now unhindered))
