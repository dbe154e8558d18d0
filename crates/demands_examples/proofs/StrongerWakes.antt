-- Request No. 8 says no more than is true: for each must-fail edit of `woken_task`, the statement that it makes, denied by a call on the tables of `Wakes`.
use Prim.Native.Nat.{ℕ}
use mathlib.Core.Path.{◌≡◌, refl, sym, ap, ◌∙◌}
use mathlib.Core.Logic.{◌≢◌, ◌⊎◌, ⊎_elim}
use mathlib.Core.Bool.{true, false, true≢false}
use mathlib.Core.List.{List, [], ◌∷◌, ◌++◌}
use native.Mathlib.Omega.{arith}
use lib.ListN.{get_or}
use Rattle.rules.specs.Answer.{done, not_met}
use Rattle.rules.specs.Tables.{Typed, not_in_use, ready, at_semaphore, reading, writing, task, current}
use Rattle.rules.specs.Lines.{line, semaphore_line, mailbox_line}
use Rattle.rules.specs.Waits.{readied}
use Rattle.rules.specs.Mailboxes.{waits_first}
use Rattle.rules.specs.Sound.{Sound}
use Rattle.rules.specs.declared.Answer.{Answer}
use Rattle.rules.specs.declared.Tables.{Tables}
use Rattle.rules.specs.declared.Task.{Task}
use Rattle.rules.proofs.Computed.{computed}
use Rattle.rules.proofs.Standing.{lines_with}
use Rattle.runs.specs.Run.{made, next, after}
use Rattle.woken_task.specs.WokenTask.{Post, semaphore_post, mailbox_post, BlockedAt, Woke, WokeNobody, Tells}
use Rattle.demands_examples.proofs.Wakes.{tables_of, waits, woken, queued, to-waits, to-woken, to-queued, Answers, post_semaphore, post_to_reader}
use Rattle.demands_examples.proofs.Wakes.{post_stored, post_waiting, pend_letting_in, to_read, to-stored, to-let-in, told, woke-two, woke-five}
use Rattle.rules.specs.declared.Call.{Call}

-- ---- the statement over what it says of a post, its answer and the tables
abbrev Says : Type 1
Says = Post → Tables → Call → Answer → Tables → Type 0

abbrev Stated : Says → Post → Type 0
Stated P p =
    (t : Tables) → Typed t → Sound t → (q : Call) → q.number ≡ p.number → (made t q).answer.code ≡ 0
    → P p t q (made t q).answer (next t q)

-- of a call on the tables `waits`
abbrev Here : Says → Post → Call → Type 0
Here P p q = P p waits q (made waits q).answer (next waits q)

here : (P : Says) (p : Post) (q : Call) (v : ℕ) → q.number ≡ p.number → Answers q v → Stated P p → Here P p q
here P p q v number says every = every waits to-waits.typed to-waits.sound q number says.code

-- W of a post that woke somebody: what the call with value v, which is not 0, says of it
abbrev woke_by : Says → Says
woke_by W p t q r u = W p t q r u ⊎ WokeNobody p t q r u

woke-here : (W : Says) (p : Post) (q : Call) (v : ℕ) → q.number ≡ p.number → Answers q v → v ≢ 0 → Stated (woke_by W) p → Here W p q
woke-here W p q v number says some every =
    ⊎_elim (λ w. w) (λ nobody. absurd (some (sym says.value ∙ nobody.none))) (here (woke_by W) p q v number says every)

-- the post at the semaphore, where tasks 2 and 3 wait: it wakes task 2
at-semaphore : (W : Says) → Stated (woke_by W) semaphore_post → Here W semaphore_post post_semaphore
at-semaphore W = woke-here W semaphore_post post_semaphore 2 refl (told to-woken) (λ e. omega arith)

-- N of a post that woke nobody: what the call with value 0 says of it
abbrev nobody_by : Says → Says
nobody_by N p t q r u = Woke p t q r u ⊎ N p t q r u

nobody-here : (N : Says) (p : Post) (q : Call) → q.number ≡ p.number → Answers q 0 → Stated (nobody_by N) p → Here N p q
nobody-here N p q number says every =
    ⊎_elim (λ woke. absurd (woke.named says.value)) (λ n. n) (here (nobody_by N) p q 0 number says every)

-- ---- who waits in `waits`, and at the semaphore after the post
one-ready : (task waits.tasks 1).mode ≡ ready
unfolding computed tables_of waits
one-ready = refl

two-waits : (task waits.tasks 2).mode ≡ at_semaphore
unfolding computed tables_of waits
two-waits = refl

five-reads : (task waits.tasks 5).mode ≡ reading
unfolding computed tables_of waits
five-reads = refl

no-eight : (task waits.tasks 8).mode ≡ not_in_use
unfolding computed tables_of waits
no-eight = refl

lines-there : (line waits.lines (semaphore_line 0) ≡ 2 ∷ 3 ∷ []) × (line woken.lines (semaphore_line 0) ≡ 3 ∷ [])
unfolding computed lines_with tables_of waits woken
lines-there = (refl, refl)

line-left : line (next waits post_semaphore).lines (semaphore_line 0) ≡ 3 ∷ []
unfolding after
line-left = ap (λ (u : Tables). line u.lines (semaphore_line 0)) to-woken.now ∙ lines-there.1

-- ---- value 1 always: task 1 was ready
abbrev TaskOne : Says
TaskOne p t q r u = BlockedAt p q.a 1 t

pub not-always-1 : Stated (woke_by TaskOne) semaphore_post → ⊥
not-always-1 every = omega (arith, one-ready, (at-semaphore TaskOne every).0)

-- the last waiter: that is task 3
abbrev TheLast : Says
TheLast p t q r u = line t.lines (p.line_of q.a) ≡ line u.lines (p.line_of q.a) ++ (r.value ∷ [])

pub not-the-last : Stated (woke_by TheLast) semaphore_post → ⊥
not-the-last every =
    let e : ◌≡◌ {A = List ℕ} (2 ∷ 3 ∷ []) (3 ∷ 2 ∷ []) =
    sym lines-there.0 ∙ rw (line-left, (told to-woken).value) at (at-semaphore TheLast every) in
    omega (arith, ap (λ (xs : List ℕ). get_or xs 0 0) e)

-- one who stays in line
abbrev StillInLine : Says
StillInLine p t q r u = line t.lines (p.line_of q.a) ≡ line u.lines (p.line_of q.a)

pub not-still-in-line : Stated (woke_by StillInLine) semaphore_post → ⊥
not-still-in-line every =
    let e : ◌≡◌ {A = List ℕ} (2 ∷ 3 ∷ []) (3 ∷ []) = sym lines-there.0 ∙ rw line-left at (at-semaphore StillInLine every) in
    omega (arith, ap (λ (xs : List ℕ). get_or xs 0 0) e)

-- one who is blocked still
abbrev StillBlocked : Says
StillBlocked p t q r u = (task u.tasks r.value).mode ≡ p.mode

pub not-still-blocked : Stated (woke_by StillBlocked) semaphore_post → ⊥
not-still-blocked every = omega (arith, woke-two.ready, at-semaphore StillBlocked every)

-- one whose wait expired
abbrev AsExpired : Says
AsExpired p t q r u = task u.tasks r.value ≡ readied (task t.tasks r.value) not_met (p.given t q)

pub not-as-expired : Stated (woke_by AsExpired) semaphore_post → ⊥
not-as-expired every =
    omega (arith, ap (λ (k : Task). k.outcome) woke-two.row, ap (λ (k : Task). k.outcome) (at-semaphore AsExpired every))

-- one whose row stays, as all others' do: there is no task 32
abbrev AllStay : Says
AllStay p t q r u = (x : ℕ) → x ≢ 32 → task u.tasks x ≡ task t.tasks x

pub not-all-stay : Stated (woke_by AllStay) semaphore_post → ⊥
not-all-stay every =
    let now : (task (next waits post_semaphore).tasks 2).mode ≡ ready = rw (told to-woken).value at woke-two.ready in
    omega (arith, two-waits, now, ap (λ (k : Task). k.mode) (at-semaphore AllStay every 2 (λ e. omega arith)))

-- ---- a reader gets the word: it was 9
abbrev WithoutWord : Says
WithoutWord p t q r u = task u.tasks r.value ≡ readied (task t.tasks r.value) done 0

pub not-without-the-word : Stated (woke_by WithoutWord) mailbox_post → ⊥
not-without-the-word every =
    omega (
      arith,
      ap (λ (k : Task). k.value) woke-five.row,
      ap (λ (k : Task). k.value) (woke-here WithoutWord mailbox_post post_to_reader 5 refl (told to_read) (λ e. omega arith) every),
    )

-- a mailbox post does not wake a writer
abbrev Writer : Says
Writer p t q r u = (task t.tasks r.value).mode ≡ writing

pub not-a-writer : Stated (woke_by Writer) mailbox_post → ⊥
not-a-writer every =
    let w : (task waits.tasks 5).mode ≡ writing =
    rw (told to_read).value at (woke-here Writer mailbox_post post_to_reader 5 refl (told to_read) (λ e. omega arith) every) in
    omega (arith, five-reads, w)

-- a pend that lets a writer in does not name it: its value is the word, 8
abbrev pend_post : Post
pend_post =
    record {
      number = 0x43;
      mode = writing;
      line_of = mailbox_line;
      due = λ t q. waits_first t.tasks t.lines q.a writing;
      given = λ t q. q.b;
    }

pub not-by-a-pend : Stated Tells pend_post → ⊥
not-by-a-pend every =
    let w : (task waits.tasks 8).mode ≡ writing =
    rw (told to-let-in).value at (woke-here Woke pend_post pend_letting_in 8 refl (told to-let-in) (λ e. omega arith) every).blocked.0 in
    omega (arith, no-eight, w)

-- ---- value 0: a word is stored, and nobody is woken
abbrev StoredNamed : Says
StoredNamed p t q r u = r.value ≢ 0

pub not-of-a-stored-message : Stated (nobody_by StoredNamed) mailbox_post → ⊥
not-of-a-stored-message every = nobody-here StoredNamed mailbox_post post_stored refl (told to-stored) every (told to-stored).value

abbrev WakeReported : Says
WakeReported p t q r u = r.value ≡ 1

pub not-a-wake-that-did-not-occur : Stated (nobody_by WakeReported) mailbox_post → ⊥
not-a-wake-that-did-not-occur every = omega (arith, (told to-stored).value, nobody-here WakeReported mailbox_post post_stored refl (told to-stored) every)

-- nobody was due: no reader waits at mailbox 1
abbrev PassedOver : Says
PassedOver p t q r u = p.due t q ≡ true

none-due : mailbox_post.due waits post_stored ≡ false
unfolding computed lines_with tables_of waits waits_first
none-due = refl

pub not-passed-over : Stated (nobody_by PassedOver) mailbox_post → ⊥
not-passed-over every = true≢false (sym (nobody-here PassedOver mailbox_post post_stored refl (told to-stored) every) ∙ none-due)

-- where the post's caller waits to write, it is not ready
abbrev StillReady : Says
StillReady p t q r u = (x : ℕ) → (task u.tasks x ≡ task t.tasks x) ⊎ ((x ≡ current t.state) × ((task u.tasks x).mode ≡ ready))

writes : (task queued.tasks 1).mode ≡ writing
unfolding computed tables_of queued
writes = refl

pub not-still-ready : Stated (nobody_by StillReady) mailbox_post → ⊥
unfolding after
not-still-ready every =
    let now = ap (λ (u : Tables). (task u.tasks 1).mode) to-queued.now in
    ⊎_elim
    (λ same. omega (arith, one-ready, writes, now, ap (λ (k : Task). k.mode) same))
    (λ (_, r). omega (arith, writes, now, r))
    (nobody-here StillReady mailbox_post post_waiting refl (told to-queued) every 1)
