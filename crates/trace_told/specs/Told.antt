-- What the trace tells of a call, and that it is what document 01's rules did: the statements.
use Rattle.std.specs.Prelude.{ℕ, ◌+◌, ◌<◌, ◌≡◌, ◌&&◌, ◌||◌, List, [], ◌∷◌, eqb}
use Rattle.basics.specs.Find.{rising}
use Rattle.rules.specs.Rows.{field}
use Rattle.rules.specs.Tables.{LineTable, SwiTable, ClockTable, task_count, swi_count, mailbox_count, mailbox_width, clock_count, heap_units, task, clock}
use Rattle.rules.specs.Lines.{line, front_of, mailbox_line}
use Rattle.rules.specs.Heap.{unit}
use Rattle.rules.specs.Swis.{swi_queues, swi_call}
use Rattle.rules.specs.Tick.{ClockTables, clock_tables, clock_tick, clocks_ticked}
use Rattle.rules.specs.Dispatch.{context, swi_due, next_line}
use Rattle.rules.specs.Step.{call_of}
use Rattle.rules.specs.declared.Tables.{Tables}
use Rattle.rules.specs.declared.Task.{Task}
use Rattle.rules.specs.declared.Step.{Step}
use Rattle.runs.specs.Run.{made, next}
use Rattle.trace_changes.specs.Numbers.{each_below, told}
use Rattle.trace_changes.specs.Changes.{state_now, post, is_posted, call_posts, runs_out, posted_below, clock_posts, started_swi, posted_swis, active_swis, changed_tasks}
use Rattle.trace_changes.specs.Changes.{changed_lined, changed_mailboxes, changed_rows, changed_heap}
use Rattle.trace_changes.specs.Line.{parts}
use Rattle.trace_changes.specs.declared.Made.{Made}
use Rattle.rules.specs.declared.Call.{Call}

-- what the trace is given of call q, record n, which left s
abbrev pub given_of : ℕ → Call → Step → Made
given_of n q s = record { n = n; asked = q; answer = s.answer; thread = s.thread }

-- the parts 2 to 13 of the line of call q on tables t
abbrev pub parts_of : ℕ → Tables → Call → List (List ℕ)
parts_of n t q = parts (given_of n q (made t q)) t (next t q)

-- ---- "A refused call changes nothing: parts 3, 4, 5 and 8 to 13 are empty."
pub record NothingTold (t : Tables) (q : Call) : Type 0 where
  pub parts : (n : ℕ) → parts_of n t q
      ≡ state_now t.state ∷ [] ∷ [] ∷ [] ∷ posted_swis t.lines ∷ active_swis t.lines ∷ [] ∷ [] ∷ [] ∷ [] ∷ [] ∷ [] ∷ []

-- ---- and the other way round: a part that is empty says that nothing of its kind changed
pub record SameTask (k l : Task) : Type 0 where
  pub mode : k.mode ≡ l.mode
  pub priority : k.priority ≡ l.priority
  pub object : k.object ≡ l.object
  pub outcome : k.outcome ≡ l.outcome
  pub value : k.value ≡ l.value

-- the words of row i
abbrev pub SameWords : ℕ → ℕ → List ℕ → List ℕ → ℕ → Type 0
SameWords w n t u i = (f : ℕ) → f < w → field w n t i f ≡ field w n u i f

pub record EmptyParts : Type 0 where
  pub tasks : (ts us : List ℕ) → changed_tasks ts us ≡ [] → (i : ℕ) → i < task_count → SameTask (task ts i) (task us i)
  -- semaphores and events
  pub lined : (w n from : ℕ) (t ls u ms : List ℕ) → changed_lined w n from t ls u ms ≡ []
      → (i : ℕ) → i < n → SameWords w n t u i × (line ls (from + i) ≡ line ms (from + i))
  pub mailboxes : (bs ls ds ms : List ℕ) → changed_mailboxes bs ls ds ms ≡ []
      → (i : ℕ) → i < mailbox_count → SameWords mailbox_width mailbox_count bs ds i × (line ls (mailbox_line i) ≡ line ms (mailbox_line i))
  -- Swis, and clocks but at a tick
  pub rows : (w n : ℕ) (t u : List ℕ) → changed_rows w n t u ≡ [] → (i : ℕ) → i < n → SameWords w n t u i
  pub heap : (h k : List ℕ) → changed_heap h k ≡ [] → (u : ℕ) → u < heap_units → unit h u ≡ unit k u

-- ---- posts at a tick
-- the clocks, the Swis and the lines when the turn of clock c comes
abbrev pub at_turn : ClockTable → SwiTable → LineTable → ℕ → ClockTables
at_turn cs ws ls c = rising c clock_tick (clock_tables cs ws ls)

-- the post of clock c, by what its row and its Swi's row say then
unfoldable pub post_found : ClockTables → ℕ → List ℕ
post_found x c = told (runs_out x.clocks c) (post c (clock x.clocks c).swi (is_posted x.swis (clock x.clocks c).swi))

-- of the clocks cs, the Swis ws and the lines ls before a tick
pub record PostsTold (cs ws ls : List ℕ) : Type 0 where
  -- each clock that runs out is told with what is found at its turn
  pub each : clock_posts cs ws ≡ each_below clock_count (λ c. post_found (at_turn cs ws ls c) c)
  -- the Swis that are posted after the clocks are those posted before and those of clocks that ran out
  pub after : (i : ℕ) → i < swi_count → is_posted (clocks_ticked cs ws ls).swis i ≡ (is_posted ws i || posted_below cs i clock_count)

-- ---- posts of the calls 12 to 16: Swi i is posted after the call's effect if it was, or if the trace tells that the call posts it
pub record PostTold (ws ls cs st : List ℕ) (x number a b c d : ℕ) : Type 0 where
  pub after : (i : ℕ) → i < swi_count
      → is_posted (swi_call (swi_queues ws ls) cs st x number a b c d).effect.next.swis i ≡ (is_posted ws i || (call_posts ws number a b && eqb a i))

-- ---- the Swi that dispatch started
-- the tables between an accepted call's effect and dispatch
abbrev pub effect_of : Tables → Call → Tables
effect_of t q = (call_of t (context t.lines t.state) q.number q.a q.b q.c q.d).effect.next

-- it is told exactly where the dispatch rule had a Swi to start, and is the one that the rule names
pub record StartTold (t : Tables) (q : Call) : Type 0 where
  pub swi : (n : ℕ) → started_swi (given_of n q (made t q)) t.lines (next t q).lines
      ≡ told (swi_due (effect_of t q).swis (effect_of t q).lines (effect_of t q).state) (front_of (effect_of t q).lines (next_line (effect_of t q).lines) ∷ [])
