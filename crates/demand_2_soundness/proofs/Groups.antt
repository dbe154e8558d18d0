-- The rules of sound tables in the form in which a call keeps them, and what holds between a call's effect and the dispatch after it.
use Prim.Native.Nat.{ℕ, ◌≤◌, ◌<◌, suc}
use mathlib.Core.Path.{◌≡◌, ◌∙◌}
use mathlib.Core.Logic.{◌⊎◌}
use mathlib.Core.Bool.{true, false}
use mathlib.Core.List.{List}
use lib.Dec.{eqb}
use lib.ListN.{length}
use Rattle.basics.specs.Lists.{bit, count}
use Rattle.basics.specs.Rule.{Means}
use Rattle.rules.specs.Tables.{levels, LEVELS, Typed, tables, task_count, word_end, ready, task, state, DEPTH, SWIS, TASKS, CURRENT, few_levels, most_levels}
use Rattle.rules.specs.Tables.{swi_levels, most_depth}
use Rattle.rules.specs.Lines.{line_count, posted_line, active_line, line, task_home, swi_home}
use Rattle.rules.specs.Answer.{CallRule, code_of}
use Rattle.rules.specs.Dispatch.{swi_due, task_due}
use Rattle.rules.specs.Sound.{heap_rule, clocks_rule, tasks_rule, lines_rule, semaphores_rule, events_rule, mailboxes_rule, swis_rule, active_rule}
use Rattle.rules.specs.declared.Tables.{Tables}

-- line j is one of tasks
abbrev pub OfTasks : ℕ → Type 0
OfTasks j = (j < posted_line 0) ⊎ ((active_line < j) × (j < line_count))

-- task i stands in no line of waiters: these come first, before the posted Swis'
abbrev pub NeverWaits : ℕ → List ℕ → Type 0
NeverWaits i ls = (j : ℕ) → j < posted_line 0 → count i (line ls j) ≡ 0

-- those who stand in a line of Swis are the same
abbrev pub SwisStay : List ℕ → List ℕ → Type 0
SwisStay ls ls' = (j : ℕ) → posted_line 0 ≤ j → j ≤ active_line → line ls' j ≡ line ls j

-- each task stands once in the line that is its own, and in no other; so does each posted Swi
pub record Standing (ts ws ls : List ℕ) : Type 0 where
  pub tasks : (x j : ℕ) → OfTasks j → count x (line ls j) ≡ bit (eqb (task_home ts x) j)
  pub swis : (x p : ℕ) → p < swi_levels → count x (line ls (posted_line p)) ≡ bit (eqb (swi_home ws x) (posted_line p))

-- all rules but those on the state
pub record Almost (t : Tables) : Type 0 where
  pub typed : Typed t
  pub heap : Means (heap_rule t.heap)
  pub clocks : Means (clocks_rule t.clocks t.swis)
  pub tasks : Means (tasks_rule (levels t.state) t.tasks)
  pub lines : Means (lines_rule t.lines)
  pub standing : Standing t.tasks t.swis t.lines
  pub semaphores : Means (semaphores_rule t.semaphores t.lines)
  pub events : Means (events_rule t.tasks t.events t.lines)
  pub mailboxes : Means (mailboxes_rule t.tasks t.mailboxes t.lines)
  pub swis : Means (swis_rule t.swis t.lines)
  pub active : Means (active_rule t.swis t.lines)

-- the tables in which nobody stands change: the objects, the clocks, the heap and the state
pub others-change : (t : Tables) → Almost t → (ss es ms cs h st : List ℕ)
    → length ss ≡ length t.semaphores → length es ≡ length t.events → length ms ≡ length t.mailboxes → length cs ≡ length t.clocks
    → length h ≡ length t.heap → length st ≡ length t.state → levels st ≡ levels t.state
    → Means (semaphores_rule ss t.lines) → Means (events_rule t.tasks es t.lines) → Means (mailboxes_rule t.tasks ms t.lines)
    → Means (clocks_rule cs t.swis) → Means (heap_rule h) → Almost (tables t.tasks t.lines ss es ms t.swis cs h st)
others-change t a ss es ms cs h st sl el ml cl hl tl same sr er mr cr hr =
    record {
      typed =
          record {
            tasks = a.typed.tasks;
            lines = a.typed.lines;
            semaphores = sl ∙ a.typed.semaphores;
            events = el ∙ a.typed.events;
            mailboxes = ml ∙ a.typed.mailboxes;
            swis = a.typed.swis;
            clocks = cl ∙ a.typed.clocks;
            heap = hl ∙ a.typed.heap;
            state = tl ∙ a.typed.state;
          };
      heap = hr;
      clocks = cr;
      tasks = rw same a.tasks;
      lines = a.lines;
      standing = a.standing;
      semaphores = sr;
      events = er;
      mailboxes = mr;
      swis = a.swis;
      active = a.active;
    }

pub record Ranges (st : List ℕ) : Type 0 where
  pub depth : state st DEPTH < suc most_depth
  pub swis : state st SWIS < 2
  pub tasks : state st TASKS < 2
  pub current : state st CURRENT < task_count
  pub levels : (state st LEVELS ≡ few_levels) ⊎ (state st LEVELS ≡ most_levels)

-- between a call's effect and dispatch: the current task is ready, or dispatch is about to choose another
pub record Settling (t : Tables) : Type 0 where
  pub almost : Almost t
  pub ranges : Ranges t.state
  pub current : ((task t.tasks (state t.state CURRENT)).mode ≡ ready)
      ⊎ ((swi_due t.swis t.lines t.state ≡ false) × (task_due t.lines t.state ≡ true))

-- a call, accepted, leaves such tables; `put` says where the tables that it changes stand
abbrev pub Keeps : {A : Type 0} → (A → Tables) → CallRule A → Type 0
Keeps put c = code_of c.cases ≡ 0 → Settling (put c.effect.next)
