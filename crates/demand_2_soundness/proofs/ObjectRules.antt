-- The rules of a semaphore, an event and a mailbox when the object stays and the tasks at it change: fewer stand there, or one more does. And those
-- of Swis when their words and the active ones stay.
use Prim.Native.Nat.{ℕ, suc, ◌<◌, ◌≤◌}
use mathlib.Core.Path.{◌≡◌, ◌∙◌}
use mathlib.Core.Logic.{◌≢◌, ◌⊎◌, inl, inr, ⊎_elim}
use mathlib.Core.List.{List, [], ◌∷◌}
use native.Mathlib.Omega.{arith}
use lib.ListN.{length}
use Rattle.basics.specs.Lists.{count}
use Rattle.basics.specs.Rule.{Rule, Means, ◌is◌, ◌and◌, ◌gives◌}
use Rattle.basics.proofs.Laws.{count-first}
use Rattle.rules.specs.Tables.{reading, writing, task, semaphore, event, mailbox, swi, USED, COUNT, BITS, CAPACITY, MESSAGES, PRIORITY, INITIAL, TRIGGER}
use Rattle.rules.specs.Tables.{POSTED, TAKEN}
use Rattle.rules.specs.Lines.{semaphore_line, event_line, mailbox_line, active_line, line, front_of}
use Rattle.rules.specs.Events.{matched}
use Rattle.rules.specs.Sound.{semaphore_rule, event_rule, mailbox_rule, swi_rule, active_rule}
use Rattle.demand_2_soundness.proofs.Members.{count_at, every-at, every-make}

-- ---- semaphores
module _ (ss old new : List ℕ) (s : ℕ) (rule : Means (semaphore_rule ss old s)) where
  pub semaphore-fewer : length (line new (semaphore_line s)) ≤ length (line old (semaphore_line s)) → Means (semaphore_rule ss new s)
  unfolding semaphore_rule
  semaphore-fewer le =
      let (used, (free, (kind, (most, waits)))) = rule in
      (used, ((λ z. let (k, (c, n)) = free z in (k, (c, omega arith))), (kind, (most, λ n. waits (λ z. n (omega arith))))))

  pub semaphore-more : semaphore ss s USED ≢ 0 → semaphore ss s COUNT ≡ 0 → Means (semaphore_rule ss new s)
  unfolding semaphore_rule
  semaphore-more n c =
      let (used, (_, (kind, (most, _)))) = rule in
      (used, ((λ z. absurd (n z)), (kind, (most, λ _. c))))

-- ---- events
pub event-one : (ts es ls : List ℕ) (e : ℕ) → Means (event_rule ts es ls e) → length (line ls (event_line e)) < 2
unfolding event_rule
event-one ts es ls e (_, (_, (one, _))) = one

module _ (ts us es old new : List ℕ) (e : ℕ) (rule : Means (event_rule ts es old e)) where
  pub event-fewer : (line new (event_line e) ≡ line old (event_line e)) ⊎ (length (line new (event_line e)) ≡ 0)
      → ((x : ℕ) → 0 < count x (line new (event_line e)) → ((task us x).held ≡ (task ts x).held) × ((task us x).mask ≡ (task ts x).mask))
      → Means (event_rule us es new e)
  unfolding event_rule
  event-fewer (inl same) masks =
      let (used, (free, (one, unmet))) = rule in (
        used,
        (
          rw same free,
          (
            rw same one,
            λ n.
                let masked = masks (front_of new (event_line e)) (count-first (line new (event_line e)) (omega arith)) in
                rw (masked.0, masked.1, same) (unmet (rw same at n)),
          ),
        ),
      )
  event-fewer (inr none) masks =
      let (used, (free, _)) = rule in
      (used, ((λ z. ((free z).0, none)), (omega arith, λ n. absurd (n none))))

  pub event-more : (x : ℕ) → event es e USED ≢ 0 → line new (event_line e) ≡ x ∷ [] → matched (event es e BITS) (task us x).held (task us x).mask ≡ 0
      → Means (event_rule us es new e)
  unfolding event_rule
  event-more x n alone unmet =
      let (used, _) = rule in
      (used, ((λ z. absurd (n z)), rw alone (omega arith, λ _. unmet)))

-- ---- mailboxes
-- who stands at mailbox m reads from an empty one or writes to a full one
abbrev pub Waits : List ℕ → List ℕ → ℕ → ℕ → Type 0
Waits ts ms m x =
    ((task ts x).mode ≡ reading → mailbox ms m MESSAGES ≡ 0) × ((task ts x).mode ≡ writing → mailbox ms m MESSAGES ≡ mailbox ms m CAPACITY)

abbrev waits_rule : List ℕ → List ℕ → ℕ → ℕ → Rule
waits_rule ts ms m x =
    ((task ts x).mode is reading gives mailbox ms m MESSAGES is 0) and ((task ts x).mode is writing gives mailbox ms m MESSAGES is mailbox ms m CAPACITY)

pub mailbox-waits : (ts ms ls : List ℕ) (m : ℕ) → Means (mailbox_rule ts ms ls m) → (x : ℕ) → 0 < count x (line ls (mailbox_line m)) → Waits ts ms m x
unfolding mailbox_rule
mailbox-waits ts ms ls m (_, (_, (_, (_, waits)))) = every-at (line ls (mailbox_line m)) (waits_rule ts ms m) waits

module _ (ts us ms old new : List ℕ) (m : ℕ) (rule : Means (mailbox_rule ts ms old m)) where
  pub mailbox-kept : (length (line new (mailbox_line m)) ≤ length (line old (mailbox_line m))) ⊎ (mailbox ms m CAPACITY ≢ 0)
      → ((x : ℕ) → 0 < count x (line new (mailbox_line m)) → Waits us ms m x)
      → Means (mailbox_rule us ms new m)
  unfolding mailbox_rule
  mailbox-kept fewer waits =
      let (most, (some, (clear, (free, _)))) = rule in
      let still : mailbox ms m CAPACITY ≡ 0 → length (line new (mailbox_line m)) ≡ 0 =
      λ z.
      ⊎_elim
      (λ (le : length (line new (mailbox_line m)) ≤ length (line old (mailbox_line m))). let q = free z in omega arith)
      (λ (n : mailbox ms m CAPACITY ≢ 0). absurd (n z))
      fewer in
      (most, (some, (clear, (still, every-make (line new (mailbox_line m)) (waits_rule us ms m) waits))))

-- ---- Swis: the words of one and whether it is active stay; the active ones stay, in use and at their priorities
pub swi-kept : (ws vs ls ks : List ℕ) (x : ℕ) → ((f : ℕ) → swi vs x f ≡ swi ws x f) → count x (line ks active_line) ≡ count x (line ls active_line)
    → Means (swi_rule ws ls x) → Means (swi_rule vs ks x)
unfolding swi_rule
swi-kept ws vs ls ks x e c r = rw (c, e USED, e PRIORITY, e INITIAL, e TRIGGER, e POSTED, e TAKEN) r

pub active-kept : (ws vs ls ks : List ℕ) → line ks active_line ≡ line ls active_line
    → ((x : ℕ) → 0 < count x (line ls active_line) → (swi vs x USED ≡ swi ws x USED) × (swi vs x PRIORITY ≡ swi ws x PRIORITY))
    → Means (active_rule ws ls) → Means (active_rule vs ks)
active-kept ws vs ls ks e same r =
    rw e (
      λ k h. (same _ (count_at (line ls active_line) k h)).0 ∙ r.0 k h,
      λ k h.
          let p = (same _ (count_at (line ls active_line) k (omega arith))).1 in
          let q = (same _ (count_at (line ls active_line) (suc k) (omega arith))).1 in
          omega (arith, p, q, r.1 k h),
    )
