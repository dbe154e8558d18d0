-- Calls 30 to 33 keep what dispatch starts from.
-- In this order: an event's rule by its words; one event changes; calls 30 create, 31 delete, 32 pend, 33 post; and all of them.
use Prim.Native.Nat.{ℕ, ◌<◌}
use mathlib.Core.Path.{◌≡◌, refl, ap}
use mathlib.Core.Logic.{◌≢◌, ◌⊎◌, inl, inr, ⊎_elim}
use mathlib.Core.Bool.{false, ◌&&◌}
use mathlib.Core.List.{List, [], ◌∷◌}
use native.Mathlib.Omega.{arith}
use borrow.Author.Tests.{eq-eqb, eqb-true, eqb-false, ltb-true, ltb-false, lt-ltb}
use lib.Dec.{eqb}
use lib.Bits.{bit_or}
use lib.ListN.{length}
use Rattle.basics.specs.Rule.{Rule, ◌is◌, ◌isnt◌, ◌under◌, ◌and◌, ◌gives◌, Means}
use Rattle.basics.proofs.Laws.{same?, no_length, length_without, count-first}
use Rattle.rules.specs.Answer.{Effect, called, asked, Words}
use Rattle.rules.specs.Tables.{Typed, word_end, task, current, at_event, event_count, event_width, event, with_event, event_row, USED, BITS}
use Rattle.rules.specs.Lines.{task_queues, line, event_line, anyone, front_of, posted_line}
use Rattle.rules.specs.Dispatch.{context}
use Rattle.rules.specs.Sound.{Sound, event_rule}
use Rattle.rules.specs.Step.{with_events, with_queued}
use Rattle.rules.specs.Waits.{WaitTables, wait_tables, idle, waiting, woken}
use Rattle.rules.specs.Swis.{cleared}
use Rattle.rules.specs.Events.{free_event, matched, pend_waits, waiter_match, posted_bits, event_call, create_cases, create_effect, delete_cases, delete_effect}
use Rattle.rules.specs.Events.{pend_cases, pend_effect, post_cases, post_effect}
use Rattle.rules.specs.declared.Tables.{Tables}
use Rattle.rules_laws.proofs.Rows.{row-used}
use Rattle.rules_laws.proofs.Calls.{chosen}
use Rattle.demand_2_soundness.proofs.Groups.{Settling, Keeps}
use Rattle.demand_2_soundness.proofs.OneRow.{OfKind, of_kind, row-changes, word-changes}
use Rattle.demand_2_soundness.proofs.Codes.{accepted-is, used-object}
use Rattle.demand_2_soundness.proofs.Standing.{sound-almost}
use Rattle.demand_2_soundness.proofs.Moves.{Welcome}
use Rattle.demand_2_soundness.proofs.Waiting.{neither, current-row, current-used, at-event-row}
use Rattle.demand_2_soundness.proofs.Chosen.{chosen-keeps, unknown-keeps, sound-settles}
use Rattle.demand_2_soundness.proofs.Objects.{other-fails, match-waits, first-leaves, first-wakes, begins, free-is, objects-change}

-- ---- the rule of one event, by its words, the number of its waiters and what the first of them matches
abbrev event_by : ℕ → ℕ → ℕ → ℕ → Rule
event_by used bits waiters match =
    (used under 2)
    and (used is 0 gives (bits is 0) and (waiters is 0))
    and (waiters under 2)
    and (waiters isnt 0 gives match is 0)

abbrev matched_at : List ℕ → List ℕ → ℕ → ℕ → ℕ
matched_at ts ls i bits = matched bits (task ts (front_of ls (event_line i))).held (task ts (front_of ls (event_line i))).mask

row-rule : (ts es ls : List ℕ) (i : ℕ) {u b : ℕ} → event es i USED ≡ u → event es i BITS ≡ b
    → Means (event_by u b (length (line ls (event_line i))) (matched_at ts ls i b)) → Means (event_rule ts es ls i)
unfolding event_rule
row-rule ts es ls i used bits h = rw (used, bits) h

row-means : (ts es ls : List ℕ) (i : ℕ) → Means (event_rule ts es ls i)
    → Means (event_by (event es i USED) (event es i BITS) (length (line ls (event_line i))) (matched_at ts ls i (event es i BITS)))
unfolding event_rule
row-means ts es ls i h = h

-- ---- event a: its words, how many wait, and the first of them
abbrev in_use : Tables → ℕ → ℕ
in_use t a = event t.events a USED

abbrev bits_of : Tables → ℕ → ℕ
bits_of t a = event t.events a BITS

abbrev waiters_of : Tables → ℕ → ℕ
waiters_of t a = length (line t.lines (event_line a))

abbrev waiter_of : Tables → ℕ → ℕ
waiter_of t a = front_of t.lines (event_line a)

-- ---- one event changes
abbrev events_of : (t : Tables) → Settling t → OfKind
events_of t s =
    of_kind event_width event_count t.events (λ es. event_rule t.tasks es t.lines) (λ es. with_events t (wait_tables t.tasks t.lines es))
    s.almost.typed.events s.almost.events
    (λ es k h same m. row-rule t.tasks es t.lines k (same USED) (same BITS) (row-means t.tasks t.events t.lines k m))
    (λ es whole all. objects-change t s t.semaphores es t.mailboxes refl whole refl s.almost.semaphores all s.almost.mailboxes)

module _ (t : Tables) (s : Settling t) (i : ℕ) (lt : i < event_count) where
  anew : (u b : ℕ) → Means (event_by u b (waiters_of t i) (matched_at t.tasks t.lines i b))
      → Settling (with_events t (wait_tables t.tasks t.lines (event_row t.events i (u ∷ b ∷ []))))
  anew u b h =
      row-changes (events_of t s) i lt (u ∷ b ∷ []) (omega arith)
      (λ word. row-rule t.tasks _ t.lines i (word USED (omega arith)) (word BITS (omega arith)) h)

  bits-change : (b : ℕ)
      → Means (event_by (in_use t i) b (waiters_of t i) (matched_at t.tasks t.lines i b))
      → Settling (with_events t (wait_tables t.tasks t.lines (with_event t.events i BITS b)))
  bits-change b h =
      word-changes (events_of t s) i lt BITS b (omega arith)
      (λ bits others. row-rule t.tasks _ t.lines i (others USED (λ e. omega arith)) bits h)

-- ---- the calls
abbrev here : Tables → WaitTables
here t = wait_tables t.tasks t.lines t.events

-- what is left is what dispatch starts from
abbrev Leaves : Tables → Effect WaitTables → Type 0
Leaves t r = Settling (with_events t r.next)

module _ (t : Tables) (typed : Typed t) (s : Sound t) where
  -- the rule of an event in range
  row_of : (a : ℕ) → a < event_count
      → Means (event_by (in_use t a) (bits_of t a) (waiters_of t a) (matched_at t.tasks t.lines a (bits_of t a)))
  row_of a lt = row-means t.tasks t.events t.lines a (s.events a lt)

  create : (x a b c d : ℕ) → Keeps (with_events t) (called (create_cases t.events x a b c d) (create_effect (here t)))
  unfolding create_cases create_effect free_event
  create x a b c d z =
      let ok = accepted-is (create_cases t.events x a b c d) z in
      let (lt, free) = free-is event_count (λ i. eqb (in_use t i) 0) ok.at6 in
      let i : ℕ = free_event t.events in
      let (bits, none) = (row_of i lt).1.0 (eqb-true (in_use t i) 0 free) in
      anew t (sound-settles t typed s) i lt 1 0 (omega arith, (λ e. absurd (omega arith), (omega arith, λ w. absurd (w none))))

  delete : (x a b c d : ℕ) → Keeps (with_events t) (called (delete_cases t.lines t.events x a b c d) (delete_effect (here t) a))
  unfolding delete_cases delete_effect
  delete x a b c d z =
      let ok = accepted-is (delete_cases t.lines t.events x a b c d) z in
      let lt : a < event_count = row-used event_width event_count t.events a USED (used-object _ _ ok.at3 ok.at11) in
      let none : waiters_of t a ≡ 0 = omega (arith, ltb-false 0 (waiters_of t a) ok.at5) in
      anew t (sound-settles t typed s) a lt 0 0 (omega arith, (λ e. (refl, none), (omega arith, λ w. absurd (w none))))

  -- "the one waiter of an event", not satisfied by its posted bits
  welcome : (a limit x y : ℕ) → in_use t a ≢ 0 → waiters_of t a ≡ 0 → matched (bits_of t a) x y ≡ 0
      → Welcome t (current t.state) (waiting (task t.tasks (current t.state)) at_event a limit x y)
  welcome a limit x y used none off =
      record {
        semaphore = λ e. absurd (omega arith);
        event = λ e. (used, no_length (line t.lines (event_line a)) (omega arith), off);
        reader = λ e. absurd (omega arith);
        writer = λ e. absurd (omega arith);
      }

  -- "both masks 0 is 4"
  some-mask : (b c : ℕ) → (eqb b 0 && eqb c 0) ≡ false → (b ≢ 0) ⊎ (c ≢ 0)
  some-mask b c e = ⊎_elim (λ (q : b ≡ 0). inr (eqb-false c 0 (other-fails (eqb b 0) (eqb c 0) e (eq-eqb b 0 q)))) (λ (n : b ≢ 0). inl n) (same? b 0)

  pend : (a b c d : ℕ) → d < word_end
      → Keeps (with_events t)
      (called (pend_cases t.lines t.events t.state (context t.lines t.state) a b c d) (pend_effect (here t) t.state a b c d))
  unfolding pend_cases pend_effect pend_waits
  pend a b c d word z =
      let ok = accepted-is (pend_cases t.lines t.events t.state (context t.lines t.state) a b c d) z in
      let used : in_use t a ≢ 0 = used-object _ _ ok.at3 ok.at11 in
      let lt : a < event_count = row-used event_width event_count t.events a USED used in
      let (nobody, busy) = neither (anyone t.lines (event_line a)) (pend_waits t.events a b c d && idle t.state) ok.at5 in
      let none : waiters_of t a ≡ 0 = omega (arith, ltb-false 0 (waiters_of t a) nobody) in
      let (u, more) = row_of a lt in
      chosen (Leaves t) (eqb (matched (bits_of t a) b c) 0) _ _
      (λ e.
      chosen (Leaves t) (eqb d 0) _ _ (λ f. sound-settles t typed s)
      (λ f.
      begins t typed s d (eqb-false d 0 f) ok.at2 (pend_waits t.events a b c d) (rw (e, f)) busy ok.at9 _
      (λ i.
      at-event-row _ (current t.state) (task t.tasks (current t.state)) i (current-row t s) (current-used t s) a d word lt b c
      (some-mask b c ok.at4))
      (welcome a d b c used none (eqb-true (matched (bits_of t a) b c) 0 e)) _))
      (λ e.
      bits-change t (sound-settles t typed s) a lt (cleared (bits_of t a) (matched (bits_of t a) b c))
      (u, (λ o. absurd (used o), (omega arith, λ w. absurd (w none)))))

  -- what the waiter matches, by whether there is one
  match_none : (a bits : ℕ) → waiter_match t.tasks t.lines a bits ≡ 0 → waiters_of t a ≢ 0
      → matched_at t.tasks t.lines a bits ≡ 0
  unfolding waiter_match
  match_none a bits e n = rw (lt-ltb 0 (waiters_of t a) (omega arith)) at e

  -- once the one waiter is served nobody waits there
  served-none : (a v : ℕ) → a < event_count → 0 < waiters_of t a
      → length (line (woken (waiter_of t a) 0 v (task_queues t.tasks t.lines)).lines (event_line a)) ≡ 0
  served-none a v lt some =
      let xs : List ℕ = line t.lines (event_line a) in
      let one : length xs < 2 = (row_of a lt).1.1.0 in
      let left = ap length (first-leaves t (sound-almost t typed s) (event_line a) (omega arith) some v) in
      omega (arith, left, length_without (waiter_of t a) xs, count-first xs some)

  post : (a b c d : ℕ) → Keeps (with_events t) (called (post_cases t.events a c d) (post_effect (here t) a b))
  unfolding post_cases posted_bits
  post a b c d z =
      let ok = accepted-is (post_cases t.events a c d) z in
      let used : in_use t a ≢ 0 = used-object _ _ ok.at3 ok.at11 in
      let lt : a < event_count = row-used event_width event_count t.events a USED used in
      let bits : ℕ = bit_or (bits_of t a) b in
      let match : ℕ = waiter_match t.tasks t.lines a bits in
      let (u, (off, (one, m))) = row_of a lt in
      chosen (Leaves t) (eqb match 0) _ _
      (λ e. bits-change t (sound-settles t typed s) a lt bits (u, (λ o. absurd (used o), (one, match_none a bits (eqb-true match 0 e)))))
      (λ e.
      let some : 0 < waiters_of t a = ltb-true 0 (waiters_of t a) (match-waits t.tasks t.lines a bits e) in
      let low : event_line a < posted_line 0 = omega arith in
      let none = served-none a match lt some in
      bits-change (with_queued t (woken (waiter_of t a) 0 match (task_queues t.tasks t.lines)))
      (first-wakes t typed s (event_line a) low some match) a lt (cleared bits match)
      (u, (λ o. absurd (used o), (omega (arith, none), λ w. absurd (w none)))))

  pub events-keeps : (number a b c d : ℕ) → Words (asked number a b c d)
      → Keeps (with_events t) (event_call (wait_tables t.tasks t.lines t.events) t.state (context t.lines t.state) number a b c d)
  unfolding event_call
  events-keeps number a b c d w =
      chosen-keeps (with_events t) (eqb number 0x30) _ _ (create (context t.lines t.state) a b c d)
      (chosen-keeps (with_events t) (eqb number 0x31) _ _ (delete (context t.lines t.state) a b c d)
      (chosen-keeps (with_events t) (eqb number 0x32) _ _ (pend a b c d w.d)
      (chosen-keeps (with_events t) (eqb number 0x33) _ _ (post a b c d)
      (unknown-keeps (with_events t) (here t)))))
