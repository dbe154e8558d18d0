-- Calls 40 to 43 keep what dispatch starts from.
-- In this order: what is read of a mailbox; one mailbox changes; calls 40 to 43, one after the other; and all of them.
use Prim.Native.Nat.{ℕ, suc, ◌-◌, ◌<◌, ◌≤◌}
use mathlib.Core.Path.{◌≡◌, refl, sym, ap, ◌∙◌}
use mathlib.Core.Logic.{◌≢◌, ◌⊎◌, inl, inr, ⊎_elim}
use mathlib.Core.Bool.{true, false, not, ◌||◌, true≢false}
use mathlib.Core.List.{List, [], ◌∷◌, ◌++◌}
use native.Mathlib.Omega.{arith}
use borrow.Author.Tests.{eq-eqb, eqb-true, eqb-false, ltb-true, ltb-false, leb-true, leb-false, lt-ltb, not-false}
use lib.Dec.{eqb, leb}
use lib.ListN.{length, drop, length-append, length-drop}
use Rattle.basics.specs.Lists.{zeros}
use Rattle.basics.specs.Rule.{Means}
use Rattle.rules.specs.Answer.{Effect, called, unused, asked, Words}
use Rattle.rules.specs.Tables.{Typed, word_end, task, current, reading, writing, mailbox_count, mailbox_most, mailbox, mailbox_row, messages, with_messages}
use Rattle.rules.specs.Tables.{CAPACITY, MESSAGES, mailbox_width}
use Rattle.rules.specs.Lines.{TaskQueues, task_queues, line, mailbox_line, anyone, front_of, posted_line}
use Rattle.rules.specs.Dispatch.{context}
use Rattle.rules.specs.Sound.{Sound, mailbox_rule}
use Rattle.rules.specs.Step.{with_mailboxes, with_queued}
use Rattle.rules.specs.Waits.{WaitTables, wait_tables, waiting, woken}
use Rattle.rules.specs.Mailboxes.{free_mailbox, waits_first, is_full, post_waits, pend_waits, oldest_taken, mailbox_call, create_cases, create_effect, delete_cases}
use Rattle.rules.specs.Mailboxes.{delete_effect, pend_cases, pend_effect, post_cases, post_effect}
use Rattle.rules.specs.declared.Tables.{Tables}
use Rattle.rules_laws.proofs.Rows.{by-range, row-used}
use Rattle.rules_laws.proofs.Listed.{zero-at}
use Rattle.rules_laws.proofs.Calls.{chosen}
use Rattle.demand_2_soundness.proofs.Groups.{Settling, Keeps}
use Rattle.demand_2_soundness.proofs.OneRow.{OfKind, of_kind, object-changes, row-changes}
use Rattle.demand_2_soundness.proofs.Codes.{accepted-is, used-object}
use Rattle.demand_2_soundness.proofs.TaskRows.{task-stands, mailbox-row}
use Rattle.demand_2_soundness.proofs.Standing.{sound-almost}
use Rattle.demand_2_soundness.proofs.Moves.{Welcome}
use Rattle.demand_2_soundness.proofs.Waiting.{neither, current-row, current-used, reading-row, writing-row}
use Rattle.demand_2_soundness.proofs.Chosen.{chosen-keeps, unknown-keeps, sound-settles}
use Rattle.demand_2_soundness.proofs.Objects.{first-waits, member-home, first-wakes, begins, free-is, objects-change}
use Rattle.demand_2_soundness.proofs.MailboxRows.{waiters_rule, Row, row-parts, row-rule, row-same-words, length-stored, stored_other, stored_row}
use Rattle.demand_2_soundness.proofs.MailboxRows.{held-is}

-- ---- mailbox a: its capacity, its number of messages, those who wait, and the first of them
abbrev capacity : Tables → ℕ → ℕ
capacity t a = mailbox t.mailboxes a CAPACITY

abbrev number : Tables → ℕ → ℕ
number t a = mailbox t.mailboxes a MESSAGES

abbrev waiters : Tables → ℕ → List ℕ
waiters t a = line t.lines (mailbox_line a)

abbrev front : Tables → ℕ → ℕ
front t a = front_of t.lines (mailbox_line a)

-- ---- one mailbox changes
abbrev mailboxes_of : (t : Tables) → Settling t → OfKind
mailboxes_of t s =
    of_kind mailbox_width mailbox_count t.mailboxes (λ ms. mailbox_rule t.tasks ms t.lines) (λ ms. with_mailboxes t (wait_tables t.tasks t.lines ms))
    s.almost.typed.mailboxes s.almost.mailboxes
    (λ ms k h same m.
    row-rule ms k h t.tasks t.lines
    (row-same-words t.tasks t.lines t.mailboxes ms k same (row-parts t.mailboxes k h t.tasks t.lines m)))
    (λ ms whole all. objects-change t s t.semaphores t.events ms refl refl whole s.almost.semaphores s.almost.events all)

module _ (t : Tables) (s : Settling t) (i : ℕ) (lt : i < mailbox_count) where
  -- made anew where nobody waits, with no messages
  anew : (c : ℕ) → c < suc mailbox_most → length (waiters t i) ≡ 0
      → Settling (with_mailboxes t (wait_tables t.tasks t.lines (mailbox_row t.mailboxes i (c ∷ zeros (mailbox_width - 1)))))
  anew c small none =
      row-changes (mailboxes_of t s) i lt (c ∷ zeros (mailbox_width - 1)) (omega arith)
      (λ word.
      row-rule _ i lt t.tasks t.lines
      (record {
        range = rw (word CAPACITY (omega arith)) small;
        held = omega (arith, word MESSAGES (omega arith));
        behind = λ k low high. word (suc (suc k)) (omega arith) ∙ zero-at (mailbox_width - 1) (suc k);
        free = λ e. none;
        waiters = λ k h. absurd (omega arith);
      }))

  -- its messages become xs
  messages-change : (xs : List ℕ) → length xs ≤ capacity t i
      → Means (waiters_rule t.tasks (waiters t i) (length xs) (capacity t i))
      → Settling (with_mailboxes t (wait_tables t.tasks t.lines (with_messages t.mailboxes i xs)))
  messages-change xs room waits =
      let r : Row t.tasks t.lines t.mailboxes i = row-parts t.mailboxes i lt t.tasks t.lines (s.almost.mailboxes i lt) in
      let short : length xs ≤ mailbox_most = omega (arith, r.range) in
      object-changes (mailboxes_of t s) i lt (with_messages t.mailboxes i xs) (length-stored t.mailboxes i lt xs short)
      (stored_other t.mailboxes i lt xs short)
      (row-rule _ i lt t.tasks t.lines
      (stored_row t.mailboxes i lt xs short s.almost.typed.mailboxes t.tasks t.lines r room waits))

-- ---- the calls
abbrev here : Tables → WaitTables
here t = wait_tables t.tasks t.lines t.mailboxes

-- what is left is what dispatch starts from
abbrev Leaves : Tables → Effect WaitTables → Type 0
Leaves t r = Settling (with_mailboxes t r.next)

module _ (t : Tables) (typed : Typed t) (s : Sound t) where
  row_of : (a : ℕ) → a < mailbox_count → Row t.tasks t.lines t.mailboxes a
  row_of a lt = row-parts t.mailboxes a lt t.tasks t.lines (s.mailboxes a lt)

  create : (x a b c d : ℕ) → Keeps (with_mailboxes t) (called (create_cases t.mailboxes x a b c d) (create_effect (here t) a))
  unfolding create_cases create_effect free_mailbox
  create x a b c d z =
      let ok = accepted-is (create_cases t.mailboxes x a b c d) z in
      let (lt, free) = free-is mailbox_count (λ i. eqb (capacity t i) 0) ok.at6 in
      let (bad, rest) = neither (eqb a 0 || not (leb a mailbox_most)) (unused 0 b c d) ok.at4 in
      let (low, high) = neither (eqb a 0) (not (leb a mailbox_most)) bad in
      let i : ℕ = free_mailbox t.mailboxes in
      anew t (sound-settles t typed s) i lt a (omega (arith, leb-true a mailbox_most (not-false (leb a mailbox_most) high)))
      ((row_of i lt).free (eqb-true (capacity t i) 0 free))

  delete : (x a b c d : ℕ) → Keeps (with_mailboxes t) (called (delete_cases t.lines t.mailboxes x a b c d) (delete_effect (here t) a))
  unfolding delete_cases delete_effect
  delete x a b c d z =
      let ok = accepted-is (delete_cases t.lines t.mailboxes x a b c d) z in
      let lt : a < mailbox_count = row-used mailbox_width mailbox_count t.mailboxes a CAPACITY (used-object _ _ ok.at3 ok.at11) in
      let (nobody, rest) = neither (anyone t.lines (mailbox_line a)) (not (eqb (number t a) 0)) ok.at5 in
      anew t (sound-settles t typed s) a lt 0 (omega arith) (omega (arith, ltb-false 0 (length (waiters t a)) nobody))

  -- ---- who waits at a mailbox: the first, and so a reader at an empty one or a writer at a full one
  first-in : (a mode : ℕ) → 0 < length (waiters t a) → (task t.tasks (front t a)).mode ≡ mode
      → waits_first t.tasks t.lines a mode ≡ true
  unfolding waits_first
  first-in a mode some e =
      rw (lt-ltb 0 (length (waiters t a)) some, eq-eqb (task t.tasks (front t a)).mode mode e)

  some_first : (a mode : ℕ) → waits_first t.tasks t.lines a mode ≡ true → 0 < length (waiters t a)
  some_first a mode e = ltb-true 0 (length (waiters t a)) (first-waits t.tasks t.lines a mode e)

  module _ (a : ℕ) (lt : a < mailbox_count) where
    nobody : (waits_first t.tasks t.lines a reading ≡ false) ⊎ (number t a ≢ 0)
        → (waits_first t.tasks t.lines a writing ≡ false) ⊎ (number t a ≢ capacity t a)
        → length (waiters t a) ≡ 0
    nobody no_reader no_writer =
        let xs : List ℕ = waiters t a in
        let i : ℕ = front t a in
        let low : mailbox_line a < posted_line 0 = omega arith in
        by-range 0 (length xs)
        (λ some.
        let home = member-home t (sound-almost t typed s) (mailbox_line a) (inl low) 0 some in
        let (mode, object) = mailbox-row (task t.tasks i) (task-stands _ t.tasks s.tasks i) a lt home in
        let (reads, writes) = (row_of a lt).waiters 0 some in
        absurd
        (⊎_elim
        (λ (e : (task t.tasks i).mode ≡ reading).
        ⊎_elim
        (λ (f : waits_first t.tasks t.lines a reading ≡ false). true≢false (sym (first-in a reading some e) ∙ f))
        (λ (n : number t a ≢ 0). n (reads e))
        no_reader)
        (λ (e : (task t.tasks i).mode ≡ writing).
        ⊎_elim
        (λ (f : waits_first t.tasks t.lines a writing ≡ false). true≢false (sym (first-in a writing some e) ∙ f))
        (λ (n : number t a ≢ capacity t a). n (writes e))
        no_writer)
        mode))
        (λ none. omega arith)

    -- how many messages there are, and how many with the oldest gone
    held : length (messages t.mailboxes a) ≡ number t a
    held = held-is t.mailboxes a lt (omega (arith, (row_of a lt).range, (row_of a lt).held))

    later : length (drop 1 (messages t.mailboxes a)) ≡ number t a - 1
    later = length-drop 1 (messages t.mailboxes a) ∙ ap (λ (n : ℕ). n - 1) held

    -- where nobody waits any messages that fit may stand
    none-waits : length (waiters t a) ≡ 0 → (xs : List ℕ) → length xs ≤ capacity t a
        → Settling (with_mailboxes t (wait_tables t.tasks t.lines (with_messages t.mailboxes a xs)))
    none-waits none xs room = messages-change t (sound-settles t typed s) a lt xs room (λ k h. absurd (omega arith))

    -- the first writer is served: one message out, one in, so those who still wait there do so at a full mailbox
    writer-served : waits_first t.tasks t.lines a writing ≡ true → number t a ≢ 0 → (x : ℕ)
        → Settling
        (with_mailboxes (with_queued t (woken (front t a) 0 0 (task_queues t.tasks t.lines)))
        (wait_tables (woken (front t a) 0 0 (task_queues t.tasks t.lines)).tasks
        (woken (front t a) 0 0 (task_queues t.tasks t.lines)).lines
        (with_messages t.mailboxes a (drop 1 (messages t.mailboxes a) ++ (x ∷ [])))))
    writer-served writer some x =
        let q : TaskQueues = woken (front t a) 0 0 (task_queues t.tasks t.lines) in
        let xs : List ℕ = drop 1 (messages t.mailboxes a) ++ (x ∷ []) in
        let e : length xs ≡ number t a = omega (arith, length-append (drop 1 (messages t.mailboxes a)) (x ∷ []), later) in
        let after : Settling (with_queued t q) = first-wakes t typed s (mailbox_line a) (omega arith) (some_first a writing writer) 0 in
        let r : Row q.tasks q.lines t.mailboxes a = row-parts t.mailboxes a lt q.tasks q.lines (after.almost.mailboxes a lt) in
        messages-change (with_queued t q) after a lt xs (omega (arith, r.held)) (rw e r.waiters)

    -- a wait begins
    welcome : (mode limit x : ℕ) → (mode ≡ reading → number t a ≡ 0)
        → (mode ≡ writing → number t a ≡ capacity t a)
        → reading ≤ mode → capacity t a ≢ 0
        → Welcome t (current t.state) (waiting (task t.tasks (current t.state)) mode a limit x 0)
    welcome mode limit x reads writes low used =
        record {
          semaphore = λ e. absurd (omega arith);
          event = λ e. absurd (omega arith);
          reader = λ e. (used, reads e);
          writer = λ e. (used, writes e);
        }

  -- ---- "42 post (mailbox, word, limit)"
  post : (a b c d : ℕ) → c < word_end
      → Keeps (with_mailboxes t)
      (called (post_cases t.tasks t.lines t.mailboxes t.state (context t.lines t.state) a c d) (post_effect (here t) t.state a b c))
  unfolding post_cases post_effect post_waits is_full
  post a b c d word z =
      let ok = accepted-is (post_cases t.tasks t.lines t.mailboxes t.state (context t.lines t.state) a c d) z in
      let used : capacity t a ≢ 0 = used-object _ _ ok.at3 ok.at11 in
      let lt : a < mailbox_count = row-used mailbox_width mailbox_count t.mailboxes a CAPACITY used in
      let low : mailbox_line a < posted_line 0 = omega arith in
      let upto : number t a ≤ capacity t a = omega (arith, (row_of a lt).held) in
      chosen (Leaves t) (waits_first t.tasks t.lines a reading) _ _
      (λ e. first-wakes t typed s (mailbox_line a) low (some_first a reading e) b)
      (λ e.
      chosen (Leaves t) (leb (capacity t a) (number t a)) _ _
      (λ f.
      chosen (Leaves t) (eqb c 0) _ _ (λ g. sound-settles t typed s)
      (λ g.
      begins t typed s c (eqb-false c 0 g) ok.at2 (post_waits t.tasks t.lines t.mailboxes a c) (rw (e, f, g)) ok.at5 ok.at9 _
      (λ i. writing-row _ (current t.state) (task t.tasks (current t.state)) i (current-row t s) (current-used t s) a c word lt b)
      (welcome a lt writing c b (λ q. absurd (omega arith)) (λ q. omega (arith, leb-true (capacity t a) (number t a) f)) (omega arith) used) _))
      (λ f.
      let room : number t a < capacity t a = leb-false (capacity t a) (number t a) f in
      none-waits a lt (nobody a lt (inl e) (inr (λ q. omega arith))) (messages t.mailboxes a ++ (b ∷ []))
      (omega (arith, length-append (messages t.mailboxes a) (b ∷ []), held a lt))))

  -- ---- "43 pend (mailbox, limit)"
  pend : (a b c d : ℕ) → b < word_end
      → Keeps (with_mailboxes t)
      (called (pend_cases t.mailboxes t.state (context t.lines t.state) a b c d) (pend_effect (here t) t.state a b))
  unfolding pend_cases pend_effect pend_waits oldest_taken
  pend a b c d word z =
      let ok = accepted-is (pend_cases t.mailboxes t.state (context t.lines t.state) a b c d) z in
      let used : capacity t a ≢ 0 = used-object _ _ ok.at3 ok.at11 in
      let lt : a < mailbox_count = row-used mailbox_width mailbox_count t.mailboxes a CAPACITY used in
      let upto : number t a ≤ capacity t a = omega (arith, (row_of a lt).held) in
      chosen (Leaves t) (eqb (number t a) 0) _ _
      (λ e.
      chosen (Leaves t) (eqb b 0) _ _ (λ g. sound-settles t typed s)
      (λ g.
      begins t typed s b (eqb-false b 0 g) ok.at2 (pend_waits t.mailboxes a b) (rw (e, g)) ok.at5 ok.at9 _
      (λ i. reading-row _ (current t.state) (task t.tasks (current t.state)) i (current-row t s) (current-used t s) a b word lt)
      (welcome a lt reading b 0 (λ q. eqb-true (number t a) 0 e) (λ q. absurd (omega arith)) (omega arith) used) _))
      (λ e.
      let some : number t a ≢ 0 = eqb-false (number t a) 0 e in
      chosen (λ (q : WaitTables). Settling (with_mailboxes t q)) (waits_first t.tasks t.lines a writing) _ _
      (λ f. writer-served a lt f some _)
      (λ f. none-waits a lt (nobody a lt (inr some) (inl f)) (drop 1 (messages t.mailboxes a)) (omega (arith, later a lt))))

  pub mailboxes-keeps : (number a b c d : ℕ) → Words (asked number a b c d)
      → Keeps (with_mailboxes t) (mailbox_call (wait_tables t.tasks t.lines t.mailboxes) t.state (context t.lines t.state) number a b c d)
  unfolding mailbox_call
  mailboxes-keeps number a b c d w =
      chosen-keeps (with_mailboxes t) (eqb number 0x40) _ _ (create (context t.lines t.state) a b c d)
      (chosen-keeps (with_mailboxes t) (eqb number 0x41) _ _ (delete (context t.lines t.state) a b c d)
      (chosen-keeps (with_mailboxes t) (eqb number 0x42) _ _ (post a b c d w.c)
      (chosen-keeps (with_mailboxes t) (eqb number 0x43) _ _ (pend a b c d w.b)
      (unknown-keeps (with_mailboxes t) (here t)))))
