-- Demand 3 as a statement about what is said, so that the theorem, its instances and statements that say more than it stand side by side:
-- `demand-3 : Begun 2 Turn`.
use Prim.Native.Nat.{ℕ, ◌<◌}
use mathlib.Core.Path.{◌≡◌, subst}
use mathlib.Core.List.{List}
use native.Mathlib.Omega.{arith}
use lib.ListN.{length}
use Rattle.rules.specs.Answer.{now_waiting}
use Rattle.rules.specs.Tables.{Typed, word_end, task, current, semaphore, KIND}
use Rattle.rules.specs.Lines.{line, semaphore_line}
use Rattle.rules.specs.Sound.{Sound}
use Rattle.rules.specs.declared.Tables.{Tables}
use Rattle.runs.specs.Run.{made, next, AllWords}
use Rattle.runs.specs.Turn.{ServedIn}
use Rattle.demands.specs.Three.{pend}
use Rattle.rules.specs.declared.Call.{Call}

-- of each task that begins to wait without end at a semaphore of these kinds: P of the semaphore, the task, those behind whom it waits, and the tables
abbrev pub Begun : ℕ → (ℕ → ℕ → List ℕ → Tables → Type 0) → Type 0
Begun kinds P =
    (t : Tables) → Typed t → Sound t → (s : ℕ) → s < word_end → semaphore t.semaphores s KIND < kinds
    → (made t (pend s)).answer.outcome ≡ now_waiting
    → P s (current t.state) (line t.lines (semaphore_line s)) (next t (pend s))

-- and of each moment at which such a task is readied: P of its priority, the task, and the tables
abbrev pub WhenServed : (ℕ → ℕ → Tables → Type 0) → ℕ → ℕ → List ℕ → Tables → Type 0
WhenServed P s i others u =
    (qs : List Call) → AllWords u qs → (x : ServedIn s i (length others) u qs) → P (task x.moment.tasks i).priority i x.moment

abbrev pub Readied : (ℕ → ℕ → Tables → Type 0) → Type 0
Readied P = Begun 2 (WhenServed P)

-- an instance: in tables t the current task i begins to wait at semaphore 0, behind these others, and the tables are u
pub record Begins (kinds : ℕ) (t : Tables) (i : ℕ) (others : List ℕ) (u : Tables) : Type 0 where
  pub typed : Typed t
  pub sound : Sound t
  pub kind : semaphore t.semaphores 0 KIND < kinds
  pub waits : (made t (pend 0)).answer.outcome ≡ now_waiting
  pub task : current t.state ≡ i
  pub behind : line t.lines (semaphore_line 0) ≡ others
  pub now : next t (pend 0) ≡ u

module _ (kinds : ℕ) (P : ℕ → ℕ → List ℕ → Tables → Type 0) (t : Tables) (i : ℕ) (others : List ℕ) (u : Tables) where
  pub begun-there : Begins kinds t i others u → Begun kinds P → P 0 i others u
  begun-there b every =
      subst (λ (v : Tables). P 0 i others v) b.now
      (subst (λ (j : ℕ). P 0 j others (next t (pend 0))) b.task
      (subst (λ (xs : List ℕ). P 0 (current t.state) xs (next t (pend 0))) b.behind
      (every t b.typed b.sound 0 (omega arith) b.kind b.waits)))
