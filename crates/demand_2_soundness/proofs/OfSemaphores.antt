-- Calls 20 to 24 keep what dispatch starts from.
-- In this order: a semaphore's rule by its words; one semaphore changes; calls 20 to 24, one after the other; and all of them.
use Prim.Native.Nat.{ℕ, suc, ◌+◌, ◌-◌, ◌<◌, ◌≤◌}
use mathlib.Core.Path.{◌≡◌, refl}
use mathlib.Core.Logic.{◌≢◌}
use mathlib.Core.Bool.{not, ◌||◌}
use mathlib.Core.List.{List, [], ◌∷◌}
use native.Mathlib.Omega.{arith}
use borrow.Author.Tests.{eq-eqb, eqb-true, eqb-false, ltb-true, ltb-false, leb-true, not-false}
use lib.Dec.{eqb, ltb, leb}
use lib.ListN.{length}
use Rattle.basics.specs.Rule.{Rule, ◌is◌, ◌isnt◌, ◌under◌, ◌and◌, ◌gives◌, Means}
use Rattle.rules.specs.Answer.{Effect, called, unused, asked, Words}
use Rattle.rules.specs.Tables.{Typed, word_end, task, current, at_semaphore, semaphore_count, semaphore_width, semaphore, with_semaphore, semaphore_row, USED}
use Rattle.rules.specs.Tables.{KIND, COUNT}
use Rattle.rules.specs.Lines.{line, semaphore_line}
use Rattle.rules.specs.Dispatch.{context}
use Rattle.rules.specs.Sound.{Sound, semaphore_rule}
use Rattle.rules.specs.Step.{with_semaphores}
use Rattle.rules.specs.Waits.{WaitTables, wait_tables, waiting}
use Rattle.rules.specs.Semaphores.{free_semaphore, most, pend_waits, count_up, semaphore_call, create_cases, create_effect, delete_cases, delete_effect}
use Rattle.rules.specs.Semaphores.{reset_cases, reset_effect, pend_cases, pend_effect, post_cases, post_effect, kind_count}
use Rattle.rules.specs.declared.Tables.{Tables}
use Rattle.rules_laws.proofs.Rows.{row-used}
use Rattle.rules_laws.proofs.Calls.{chosen}
use Rattle.demand_2_soundness.proofs.Groups.{Settling, Keeps}
use Rattle.demand_2_soundness.proofs.OneRow.{OfKind, of_kind, row-changes, word-changes}
use Rattle.demand_2_soundness.proofs.Codes.{accepted-is, used-object}
use Rattle.demand_2_soundness.proofs.Moves.{Welcome}
use Rattle.demand_2_soundness.proofs.Waiting.{neither, current-row, current-used, at-semaphore-row}
use Rattle.demand_2_soundness.proofs.Chosen.{chosen-keeps, unknown-keeps, sound-settles}
use Rattle.demand_2_soundness.proofs.Objects.{first-wakes, begins, free-is, objects-change}

-- ---- the rule of one semaphore, by its words and the number of its waiters
abbrev semaphore_by : ℕ → ℕ → ℕ → ℕ → Rule
semaphore_by used kind n waiters =
    (used under 2)
    and (used is 0 gives (kind is 0) and (n is 0) and (waiters is 0))
    and (kind under kind_count)
    and (n under suc (most kind))
    and (waiters isnt 0 gives n is 0)

row-rule : (ss ls : List ℕ) (i : ℕ) {u k n : ℕ} → semaphore ss i USED ≡ u → semaphore ss i KIND ≡ k → semaphore ss i COUNT ≡ n
    → Means (semaphore_by u k n (length (line ls (semaphore_line i)))) → Means (semaphore_rule ss ls i)
unfolding semaphore_rule
row-rule ss ls i used kind number h = rw (used, kind, number) h

row-means : (ss ls : List ℕ) (i : ℕ) → Means (semaphore_rule ss ls i)
    → Means (semaphore_by (semaphore ss i USED) (semaphore ss i KIND) (semaphore ss i COUNT) (length (line ls (semaphore_line i))))
unfolding semaphore_rule
row-means ss ls i h = h

-- ---- semaphore a: its words, and how many wait
abbrev in_use : Tables → ℕ → ℕ
in_use t a = semaphore t.semaphores a USED

abbrev kind_of : Tables → ℕ → ℕ
kind_of t a = semaphore t.semaphores a KIND

abbrev count_of : Tables → ℕ → ℕ
count_of t a = semaphore t.semaphores a COUNT

abbrev waiters_of : Tables → ℕ → ℕ
waiters_of t a = length (line t.lines (semaphore_line a))

-- ---- one semaphore changes
abbrev semaphores_of : (t : Tables) → Settling t → OfKind
semaphores_of t s =
    of_kind semaphore_width semaphore_count t.semaphores (λ ss. semaphore_rule ss t.lines) (λ ss. with_semaphores t (wait_tables t.tasks t.lines ss))
    s.almost.typed.semaphores s.almost.semaphores
    (λ ss k h same m. row-rule ss t.lines k (same USED) (same KIND) (same COUNT) (row-means t.semaphores t.lines k m))
    (λ ss whole all. objects-change t s ss t.events t.mailboxes whole refl refl all s.almost.events s.almost.mailboxes)

module _ (t : Tables) (s : Settling t) (i : ℕ) (lt : i < semaphore_count) where
  anew : (u k n : ℕ) → Means (semaphore_by u k n (waiters_of t i))
      → Settling (with_semaphores t (wait_tables t.tasks t.lines (semaphore_row t.semaphores i (u ∷ k ∷ n ∷ []))))
  anew u k n h =
      row-changes (semaphores_of t s) i lt (u ∷ k ∷ n ∷ []) (omega arith)
      (λ word. row-rule _ t.lines i (word USED (omega arith)) (word KIND (omega arith)) (word COUNT (omega arith)) h)

  count-changes : (n : ℕ)
      → Means (semaphore_by (in_use t i) (kind_of t i) n (waiters_of t i))
      → Settling (with_semaphores t (wait_tables t.tasks t.lines (with_semaphore t.semaphores i COUNT n)))
  count-changes n h =
      word-changes (semaphores_of t s) i lt COUNT n (omega arith)
      (λ count others. row-rule _ t.lines i (others USED (λ e. omega arith)) (others KIND (λ e. omega arith)) count h)

-- ---- the calls
abbrev here : Tables → WaitTables
here t = wait_tables t.tasks t.lines t.semaphores

-- what is left is what dispatch starts from
abbrev Leaves : Tables → Effect WaitTables → Type 0
Leaves t r = Settling (with_semaphores t r.next)

count-up-le : (kind n : ℕ) → n ≤ most kind → count_up kind n ≤ most kind
unfolding count_up
count-up-le kind n h =
    chosen (λ (m : ℕ). m ≤ most kind) (ltb n (most kind)) (n + 1) n (λ e. omega (arith, ltb-true n (most kind) e)) (λ e. h)

module _ (t : Tables) (typed : Typed t) (s : Sound t) where
  -- the rule of a semaphore in range
  row_of : (a : ℕ) → a < semaphore_count
      → Means (semaphore_by (in_use t a) (kind_of t a) (count_of t a) (waiters_of t a))
  row_of a lt = row-means t.semaphores t.lines a (s.semaphores a lt)

  create : (x a b c d : ℕ) → Keeps (with_semaphores t) (called (create_cases t.semaphores x a b c d) (create_effect (here t) a b))
  unfolding create_cases create_effect free_semaphore
  create x a b c d z =
      let ok = accepted-is (create_cases t.semaphores x a b c d) z in
      let (lt, free) = free-is semaphore_count (λ i. eqb (in_use t i) 0) ok.at6 in
      let (bad, rest) = neither (not (ltb a kind_count) || not (leb b (most a))) (unused 0 0 c d) ok.at4 in
      let (kind, number) = neither (not (ltb a kind_count)) (not (leb b (most a))) bad in
      let k : a < kind_count = ltb-true a kind_count (not-false (ltb a kind_count) kind) in
      let n : b ≤ most a = leb-true b (most a) (not-false (leb b (most a)) number) in
      let i : ℕ = free_semaphore t.semaphores in
      let (kind0, (count0, none)) = (row_of i lt).1.0 (eqb-true (in_use t i) 0 free) in
      anew t (sound-settles t typed s) i lt 1 a b (omega arith, (λ e. absurd (omega arith), (k, (omega arith, λ w. absurd (w none)))))

  delete : (x a b c d : ℕ) → Keeps (with_semaphores t) (called (delete_cases t.lines t.semaphores x a b c d) (delete_effect (here t) a))
  unfolding delete_cases delete_effect
  delete x a b c d z =
      let ok = accepted-is (delete_cases t.lines t.semaphores x a b c d) z in
      let lt : a < semaphore_count = row-used semaphore_width semaphore_count t.semaphores a USED (used-object _ _ ok.at3 ok.at11) in
      let none : waiters_of t a ≡ 0 = omega (arith, ltb-false 0 (waiters_of t a) ok.at5) in
      anew t (sound-settles t typed s) a lt 0 0 0
      (omega arith, (λ e. (refl, (refl, none)), (omega arith, (omega arith, λ w. refl))))

  reset : (x a b c d : ℕ) → Keeps (with_semaphores t) (called (reset_cases t.lines t.semaphores x a b c d) (reset_effect (here t) a b))
  unfolding reset_cases reset_effect
  reset x a b c d z =
      let ok = accepted-is (reset_cases t.lines t.semaphores x a b c d) z in
      let used : in_use t a ≢ 0 = used-object _ _ ok.at3 ok.at11 in
      let lt : a < semaphore_count = row-used semaphore_width semaphore_count t.semaphores a USED used in
      let (bad, rest) = neither (not (leb b (most (kind_of t a)))) (unused 0 0 c d) ok.at4 in
      let n : b ≤ most (kind_of t a) = leb-true b (most (kind_of t a)) (not-false (leb b (most (kind_of t a))) bad) in
      let none : waiters_of t a ≡ 0 = omega (arith, ltb-false 0 (waiters_of t a) ok.at5) in
      let (u, (off, (k, more))) = row_of a lt in
      count-changes t (sound-settles t typed s) a lt b (u, (λ e. absurd (used e), (k, (omega arith, λ w. absurd (w none)))))

  post : (a b c d : ℕ) → Keeps (with_semaphores t) (called (post_cases t.semaphores a b c d) (post_effect (here t) a))
  unfolding post_cases post_effect
  post a b c d z =
      let ok = accepted-is (post_cases t.semaphores a b c d) z in
      let used : in_use t a ≢ 0 = used-object _ _ ok.at3 ok.at11 in
      let lt : a < semaphore_count = row-used semaphore_width semaphore_count t.semaphores a USED used in
      let (u, (off, (k, (m, w)))) = row_of a lt in
      chosen (Leaves t) (ltb 0 (waiters_of t a)) _ _
      (λ e. first-wakes t typed s a (omega arith) (ltb-true 0 (waiters_of t a) e) 0)
      (λ e.
      let none : waiters_of t a ≡ 0 = omega (arith, ltb-false 0 (waiters_of t a) e) in
      count-changes t (sound-settles t typed s) a lt (count_up (kind_of t a) (count_of t a))
      (u, (λ o. absurd (used o), (k, (omega (arith, count-up-le (kind_of t a) (count_of t a) (omega arith)), λ some. absurd (some none))))))

  -- "A semaphore with waiters has count 0"
  welcome : (a limit : ℕ) → in_use t a ≢ 0 → count_of t a ≡ 0
      → Welcome t (current t.state) (waiting (task t.tasks (current t.state)) at_semaphore a limit 0 0)
  welcome a limit used none =
      record {
        semaphore = λ e. (used, none);
        event = λ e. absurd (omega arith);
        reader = λ e. absurd (omega arith);
        writer = λ e. absurd (omega arith);
      }

  pend : (a b c d : ℕ) → b < word_end
      → Keeps (with_semaphores t)
      (called (pend_cases t.semaphores t.state (context t.lines t.state) a b c d) (pend_effect (here t) t.state a b))
  unfolding pend_cases pend_effect pend_waits
  pend a b c d word z =
      let ok = accepted-is (pend_cases t.semaphores t.state (context t.lines t.state) a b c d) z in
      let used : in_use t a ≢ 0 = used-object _ _ ok.at3 ok.at11 in
      let lt : a < semaphore_count = row-used semaphore_width semaphore_count t.semaphores a USED used in
      let (u, (off, (k, (m, w)))) = row_of a lt in
      chosen (Leaves t) (ltb 0 (count_of t a)) _ _
      (λ e.
      count-changes t (sound-settles t typed s) a lt (count_of t a - 1)
      (u, (λ o. absurd (used o), (k, (omega arith, λ some. omega (arith, w some))))))
      (λ e.
      let none : count_of t a ≡ 0 = omega (arith, ltb-false 0 (count_of t a) e) in
      chosen (Leaves t) (eqb b 0) _ _ (λ f. sound-settles t typed s)
      (λ f.
      begins t typed s b (eqb-false b 0 f) ok.at2 (pend_waits t.semaphores a b) (rw (eq-eqb (count_of t a) 0 none, f)) ok.at5 ok.at9 _
      (λ i. at-semaphore-row _ (current t.state) (task t.tasks (current t.state)) i (current-row t s) (current-used t s) a b word lt)
      (welcome a b used none) _))

  pub semaphores-keeps : (number a b c d : ℕ) → Words (asked number a b c d)
      → Keeps (with_semaphores t)
      (semaphore_call (wait_tables t.tasks t.lines t.semaphores) t.state (context t.lines t.state) number a b c d)
  unfolding semaphore_call
  semaphores-keeps number a b c d w =
      chosen-keeps (with_semaphores t) (eqb number 0x20) _ _ (create (context t.lines t.state) a b c d)
      (chosen-keeps (with_semaphores t) (eqb number 0x21) _ _ (delete (context t.lines t.state) a b c d)
      (chosen-keeps (with_semaphores t) (eqb number 0x22) _ _ (pend a b c d w.b)
      (chosen-keeps (with_semaphores t) (eqb number 0x23) _ _ (post a b c d)
      (chosen-keeps (with_semaphores t) (eqb number 0x24) _ _ (reset (context t.lines t.state) a b c d)
      (unknown-keeps (with_semaphores t) (here t))))))
