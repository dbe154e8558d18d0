-- Request No. 12, "a waiter that a post readied": what an accepted post's value tells of the tables before and after it, t and u. Who was readied is said
-- in `WokenTask` (request No. 8). Of a semaphore post it is said here that where nobody was readied, nobody waited, and no row has changed.
use Rattle.std.specs.Prelude.{ℕ, ◌≡◌, ◌≢◌, true, []}
use Rattle.rules.specs.Tables.{Typed, task}
use Rattle.rules.specs.Lines.{line, semaphore_line}
use Rattle.rules.specs.Sound.{Sound}
use Rattle.rules.specs.declared.Tables.{Tables}
use Rattle.runs.specs.Run.{made, next}
use Rattle.woken_task.specs.WokenTask.{semaphore_post, Woke}
use Rattle.no_post_lost.specs.NoPostLost.{is_post}
use Rattle.rules.specs.declared.Call.{Call}

-- nobody waited at s, and no task's row has changed
pub record NobodyWaited (s : ℕ) (t u : Tables) : Type 0 where
  pub nobody : line t.lines (semaphore_line s) ≡ []
  pub rows : (i : ℕ) → task u.tasks i ≡ task t.tasks i

-- a value other than 0 tells that this task was woken, 0 that nobody waited
pub record WokenOrNobody (s : ℕ) (t : Tables) (q : Call) : Type 0 where
  pub one : (made t q).answer.value ≢ 0 → Woke semaphore_post t q (made t q).answer (next t q)
  pub none : (made t q).answer.value ≡ 0 → NobodyWaited s t (next t q)

-- of every accepted post on sound tables, at a semaphore of any kind
abbrev pub ReadiedOrNobody : Type 0
ReadiedOrNobody =
    (t : Tables) → Typed t → Sound t → (s : ℕ) (q : Call) → is_post s record { asked = q; answer = (made t q).answer } ≡ true → WokenOrNobody s t q
