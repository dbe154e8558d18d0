-- Request No. 8: "Which task did the post wake?" What the answer to an accepted post tells of the tables before and after it.
use Rattle.std.specs.Prelude.{ℕ, ◌≡◌, ◌≢◌, ◌⊎◌, Bool, true, false, not, ◌∷◌, eqb}
use Rattle.std.specs.Int.Bits.{bit_or}
use Rattle.rules.specs.Answer.{done}
use Rattle.rules.specs.Tables.{Typed, ready, at_semaphore, at_event, reading, writing, task, event, current, BITS}
use Rattle.rules.specs.Lines.{line, anyone, semaphore_line, event_line, mailbox_line}
use Rattle.rules.specs.Waits.{readied}
use Rattle.rules.specs.Events.{waiter_match}
use Rattle.rules.specs.Mailboxes.{waits_first}
use Rattle.rules.specs.Sound.{Sound}
use Rattle.rules.specs.declared.Answer.{Answer}
use Rattle.rules.specs.declared.Tables.{Tables}
use Rattle.rules.specs.declared.Step.{Step}
use Rattle.runs.specs.Run.{made, next}
use Rattle.demands.specs.Promised.{Promised}
use Rattle.rules.specs.declared.Call.{Call}

-- ---- "It applies to semaphore and event posts, and a mailbox post that goes straight to a reader"
-- a post: the call's number; the mode of those whom it can wake, and the line in which they stand at an object; of a call on tables, whether it has
-- somebody to wake, and what the woken task is given
pub record Post : Type 0 where
  pub number : ℕ
  pub mode : ℕ
  pub line_of : ℕ → ℕ
  pub due : Tables → Call → Bool
  pub given : Tables → Call → ℕ

-- somebody is due if anyone waits, and is given nothing: value 0
abbrev pub semaphore_post : Post
semaphore_post =
    record {
      number = 0x23;
      mode = at_semaphore;
      line_of = semaphore_line;
      due = λ t q. anyone t.lines (semaphore_line q.a);
      given = λ t q. 0;
    }

-- what the waiter matches of the event's bits with the post's set; 0 where nobody waits
abbrev pub match : Tables → Call → ℕ
match t q = waiter_match t.tasks t.lines q.a (bit_or (event t.events q.a BITS) q.b)

-- the waiter is due if that is not 0, and is given it
abbrev pub event_post : Post
event_post = record { number = 0x33; mode = at_event; line_of = event_line; due = λ t q. not (eqb (match t q) 0); given = match }

-- somebody is due if the first in line reads, and is given the word
abbrev pub mailbox_post : Post
mailbox_post =
    record {
      number = 0x42;
      mode = reading;
      line_of = mailbox_line;
      due = λ t q. waits_first t.tasks t.lines q.a reading;
      given = λ t q. q.b;
    }

-- task i is blocked at object a, as one whom the post can wake
abbrev pub BlockedAt : Post → ℕ → ℕ → Tables → Type 0
BlockedAt p a i t = ((task t.tasks i).mode ≡ p.mode) × ((task t.tasks i).object ≡ a)

-- ---- the post q on tables t is answered r and leaves tables u
-- it woke a task, which is the value: that task was blocked there and the first in line, and is ready, its wait ended with what the post gives (`row`, of
-- which `ready` is the mode). The post was done; those behind wait on, and no other task's row has changed
pub record Woke (p : Post) (t : Tables) (q : Call) (r : Answer) (u : Tables) : Type 0 where
  pub named : r.value ≢ 0
  pub due : p.due t q ≡ true
  pub outcome : r.outcome ≡ done
  pub blocked : BlockedAt p q.a r.value t
  pub first : line t.lines (p.line_of q.a) ≡ r.value ∷ line u.lines (p.line_of q.a)
  pub ready : (task u.tasks r.value).mode ≡ ready
  pub row : task u.tasks r.value ≡ readied (task t.tasks r.value) done (p.given t q)
  pub others : (x : ℕ) → x ≢ r.value → task u.tasks x ≡ task t.tasks x

-- it woke nobody, since nobody was due, and the value is 0: every task's row is as it was, but that of the current task, which may now wait to write (where
-- and with what word is `Mailboxes.post_effect`'s)
pub record WokeNobody (p : Post) (t : Tables) (q : Call) (r : Answer) (u : Tables) : Type 0 where
  pub none : r.value ≡ 0
  pub due : p.due t q ≡ false
  pub rows : (x : ℕ) → (task u.tasks x ≡ task t.tasks x) ⊎ ((x ≡ current t.state) × ((task u.tasks x).mode ≡ writing))

-- "Let the value be the woken task's number, and 0 if none was woken; task 0 never waits, so 0 is free for that."
abbrev pub Tells : Post → Tables → Call → Answer → Tables → Type 0
Tells p t q r u = Woke p t q r u ⊎ WokeNobody p t q r u

-- ---- of every post that is accepted on sound tables. 01 shuts out a core "whose post reports a wake that did not occur (value tied to the line)"
abbrev pub ValueTells : Post → Type 0
ValueTells p =
    (t : Tables) → Typed t → Sound t → (q : Call) → q.number ≡ p.number → (made t q).answer.code ≡ 0
    → Tells p t q (made t q).answer (next t q)

-- of an entry call q that left s, by what it promises
abbrev pub EnteredTells : Post → Type 0
EnteredTells p =
    (t : Tables) → Sound t → (q : Call) (s : Step) → Promised t q s → q.number ≡ p.number → s.answer.code ≡ 0
    → Tells p t q s.answer s.tables

pub record OfAllThree (Holds : Post → Type 0) : Type 0 where
  pub semaphores : Holds semaphore_post
  pub events : Holds event_post
  pub mailboxes : Holds mailbox_post
