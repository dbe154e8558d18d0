-- A post's value is the task that it woke. Where somebody is due its value is the first in line by definition, and the first in line waits there
-- (`demand_3_turns/proofs/Wakes`); where nobody is its value is 0, and no task but a caller that goes to wait has another row (`demand_3_turns/proofs/Posts`).
use Prim.Native.Nat.{ℕ}
use mathlib.Core.Path.{◌≡◌, refl, sym, ap, subst, ◌∙◌}
use mathlib.Core.Logic.{◌⊎◌, inl, inr}
use mathlib.Core.Bool.{true, false}
use lib.Dec.{eqb}
use native.Mathlib.Omega.{arith}
use borrow.Author.Tests.{eqb-true}
use Rattle.rules.specs.Tables.{Typed, ready, reading, writing, task, current}
use Rattle.rules.specs.Lines.{front_of, anyone, semaphore_line, event_line, mailbox_line}
use Rattle.rules.specs.Answer.{answer, done}
use Rattle.rules.specs.Mailboxes.{waits_first}
use Rattle.rules.specs.Sound.{Sound}
use Rattle.rules.specs.declared.Answer.{Answer}
use Rattle.rules.specs.declared.Tables.{Tables}
use Rattle.rules.specs.declared.Task.{Task}
use Rattle.runs.specs.Run.{made, next}
use Rattle.demand_1_refusals.proofs.First.{by_bool}
use Rattle.demand_2_soundness.proofs.TaskRows.{task-stands, semaphore-row, event-row, mailbox-row}
use Rattle.demand_2_soundness.proofs.Waiting.{both}
use Rattle.demand_3_turns.proofs.Made.{Accepted, by_answer}
use Rattle.demand_3_turns.proofs.Reach.{of-post, of-event, of-mailbox}
use Rattle.demand_3_turns.proofs.Wakes.{ServesFirst, wake-done, foremost-named, foremost-not-0, foremost-home, foremost-readied, others-stay, foremost-first}
use Rattle.demand_3_turns.proofs.Posts.{semaphore-wakes, counts-value, counts-tasks, event-wakes, sets-value, sets-tasks}
use Rattle.demand_3_turns.proofs.Posts.{mailbox-wakes, stores-value, stores-rows}
use Rattle.woken_task.specs.WokenTask.{Post, semaphore_post, match, event_post, mailbox_post, BlockedAt, Woke, WokeNobody, Tells}
use Rattle.woken_task.specs.WokenTask.{ValueTells, EnteredTells, OfAllThree}
use Rattle.rules.specs.declared.Call.{Call}

module _ (t : Tables) (typed : Typed t) (sound : Sound t) (q : Call) (ok : Accepted t q) where
  abbrev Told : Post → Type 0
  Told p = Tells p t q (made t q).answer (next t q)

  -- ---- somebody is due: the first in line, who is blocked there. All that is said of the value is said of that task first
  module _ (p : Post) (w : ServesFirst t q (p.line_of q.a) (p.given t q)) where
    abbrev j : ℕ
    j = p.line_of q.a

    abbrev v : ℕ
    v = p.given t q

    named-is : (made t q).answer.value ≡ front_of t.lines j
    named-is = foremost-named t typed sound q ok j v w

    of-first : p.due t q ≡ true → BlockedAt p q.a (front_of t.lines j) t → Woke p t q (answer 0 done (front_of t.lines j)) (next t q)
    of-first due blocked =
        let readied = foremost-readied t typed sound q ok j v w in
        record {
          named = foremost-not-0 t typed sound q ok j v w;
          due = due;
          outcome = refl;
          blocked = blocked;
          first = foremost-first t typed sound q ok j v w;
          ready = ap (λ (k : Task). k.mode) readied;
          row = readied;
          others = others-stay t typed sound q ok j v w;
        }

    is-answer : answer 0 done (front_of t.lines j) ≡ (made t q).answer
    is-answer = λ z. answer (sym ok.code z) (sym (wake-done t typed sound q ok j v w) z) (sym named-is z)

    woke : p.due t q ≡ true → BlockedAt p q.a (front_of t.lines j) t → Told p
    woke due blocked = inl (subst (λ (r : Answer). Woke p t q r (next t q)) is-answer (of-first due blocked))

  -- ---- nobody is due, and the tasks are as they were
  unmoved : (p : Post) → p.due t q ≡ false → (made t q).answer.value ≡ 0 → (next t q).tasks ≡ t.tasks → Told p
  unmoved p none zero same = inr record { none = zero; due = none; rows = λ x. inl (rw same) }

  -- ---- the three posts
  of-semaphore : q.number ≡ 0x23 → Told semaphore_post
  of-semaphore number =
      by_bool (anyone t.lines (semaphore_line q.a))
      (λ some.
      let w = semaphore-wakes t q ok number some in
      woke semaphore_post w some
      (semaphore-row _ (task-stands _ t.tasks sound.tasks _) q.a (of-post t q ok.cases number)
      (foremost-home t typed sound q ok (semaphore_line q.a) 0 w)))
      (λ none. unmoved semaphore_post none (counts-value t q ok number none) (counts-tasks t q ok number none))

  of-event-post : q.number ≡ 0x33 → Told event_post
  of-event-post number =
      by_bool (eqb (match t q) 0)
      (λ none. unmoved event_post (rw none) (sets-value t q ok number none) (sets-tasks t q ok number none))
      (λ some.
      let w = event-wakes t q ok number some in
      woke event_post w (rw some)
      (event-row _ (task-stands _ t.tasks sound.tasks _) q.a (of-event t q ok.cases number)
      (foremost-home t typed sound q ok (event_line q.a) (match t q) w)))

  -- the first at a mailbox whom a post wakes reads
  reads : waits_first t.tasks t.lines q.a reading ≡ true → (task t.tasks (front_of t.lines (mailbox_line q.a))).mode ≡ reading
  unfolding waits_first
  reads some = eqb-true _ _ (both (anyone t.lines (mailbox_line q.a)) _ some).1

  of-mailbox-post : q.number ≡ 0x42 → Told mailbox_post
  of-mailbox-post number =
      by_bool (waits_first t.tasks t.lines q.a reading)
      (λ some.
      let w = mailbox-wakes t q ok number some in
      let row = mailbox-row _ (task-stands _ t.tasks sound.tasks _) q.a (of-mailbox t q ok.cases (inl number))
      (foremost-home t typed sound q ok (mailbox_line q.a) q.b w) in
      woke mailbox_post w some (reads some, row.1))
      (λ none. inr record { none = stores-value t q ok number none; due = none; rows = stores-rows t q ok number none typed })

-- ---- an accepted post
accepted-tells : (p : Post)
    → ((t : Tables) (typed : Typed t) (sound : Sound t) (q : Call) (ok : Accepted t q) → q.number ≡ p.number → Told t typed sound q ok p)
    → ValueTells p
accepted-tells p told t typed sound q number code =
    by_answer t sound q (λ back. absurd (back.code code)) (λ ok. told t typed sound q ok number)

pub woken-task : OfAllThree ValueTells
woken-task =
    record {
      semaphores = accepted-tells semaphore_post of-semaphore;
      events = accepted-tells event_post of-event-post;
      mailboxes = accepted-tells mailbox_post of-mailbox-post;
    }

-- ---- where nobody was woken nobody was readied: whoever is ready was so before
pub nobody-readied : (p : Post) (t : Tables) (q : Call) (r : Answer) (u : Tables) → WokeNobody p t q r u
    → (x : ℕ) → (task u.tasks x).mode ≡ ready → (task t.tasks x).mode ≡ ready
nobody-readied p t q r u nobody x now = by_row (nobody.rows x)
  where
    by_row : (task u.tasks x ≡ task t.tasks x) ⊎ ((x ≡ current t.state) × ((task u.tasks x).mode ≡ writing)) → (task t.tasks x).mode ≡ ready
    by_row (inl same) = ap (λ (k : Task). k.mode) (sym same) ∙ now
    by_row (inr (_, waits)) = absurd (omega (arith, waits, now))

-- ---- an entry leaves what `Run.made` says, and its arrays have their types' lengths
entered : (p : Post) → ValueTells p → EnteredTells p
entered p tells t sound q s promised number code =
    rw promised.whole (tells t (promised.types sound).0 sound q number (rw promised.whole at code))

pub woken-task-entered : OfAllThree EnteredTells
woken-task-entered =
    record {
      semaphores = entered semaphore_post woken-task.semaphores;
      events = entered event_post woken-task.events;
      mailboxes = entered mailbox_post woken-task.mailboxes;
    }
