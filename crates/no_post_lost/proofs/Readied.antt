-- An accepted post's value is the task that it woke, and 0 where nobody was due (`woken_task/proofs/WokenTask`): at a semaphore whoever waits is due.
use Prim.Native.Nat.{ℕ}
use mathlib.Core.Path.{◌≡◌, subst, ap}
use mathlib.Core.Logic.{⊎_elim}
use mathlib.Core.Bool.{and-eq-true_iff}
use mathlib.Core.List.{List}
use lib.Dec.{eqb}
use borrow.Author.Tests.{eqb-true, ltb-false}
use Rattle.basics.proofs.Laws.{no_length}
use Rattle.rules.specs.Tables.{Typed, task}
use Rattle.rules.specs.Lines.{line, semaphore_line}
use Rattle.rules.specs.Sound.{Sound}
use Rattle.rules.specs.declared.Tables.{Tables}
use Rattle.runs.specs.Run.{made, next}
use Rattle.demand_3_turns.proofs.Made.{Accepted, by_answer}
use Rattle.demand_3_turns.proofs.Posts.{counts-tasks}
use Rattle.woken_task.specs.WokenTask.{semaphore_post, WokeNobody}
use Rattle.woken_task.proofs.WokenTask.{woken-task}
use Rattle.no_post_lost.specs.Readied.{NobodyWaited, WokenOrNobody, ReadiedOrNobody}
use Rattle.rules.specs.declared.Call.{Call}

module _ (t : Tables) (typed : Typed t) (sound : Sound t) (q : Call) (ok : Accepted t q) (number : q.number ≡ 0x23) where
  nobody-waited : WokeNobody semaphore_post t q (made t q).answer (next t q) → NobodyWaited q.a t (next t q)
  nobody-waited woke =
      record {
        nobody = no_length (line t.lines (semaphore_line q.a)) (ltb-false _ _ woke.due);
        rows = λ i. ap (λ (ts : List ℕ). task ts i) (counts-tasks t q ok number woke.due);
      }

  tells : WokenOrNobody q.a t q
  tells =
      let told = woken-task.semaphores t typed sound q number ok.code in
      record {
        one = λ some. ⊎_elim (λ woke. woke) (λ nobody. absurd (some nobody.none)) told;
        none = λ zero. ⊎_elim (λ woke. absurd (woke.named zero)) nobody-waited told;
      }

pub readied-or-nobody : ReadiedOrNobody
readied-or-nobody t typed sound s q post =
    let (accepted, on) = (and-eq-true_iff _ (eqb q.a s)).0 post in
    let (number, code) = (and-eq-true_iff (eqb q.number 0x23) _).0 accepted in
    by_answer t sound q
    (λ back. absurd (back.code (eqb-true _ _ code)))
    (λ ok. subst (λ (a : ℕ). WokenOrNobody a t q) (eqb-true _ _ on) (tells t typed sound q ok (eqb-true _ _ number)))
