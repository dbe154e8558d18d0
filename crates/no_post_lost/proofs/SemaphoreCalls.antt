-- An accepted call and one counting semaphore s: if the call does not set the count of s, then s was there before it, and its count plus the post
-- equals its count afterwards plus the unit taken. Each of the calls 20 to 24 does what its definition says to one row; no other call touches the table.
-- In this order: what a call counts; a count that changes; an accepted call with these arguments; calls 20 to 24; and all of them.
use Prim.Native.Nat.{ℕ, ◌+◌, ◌-◌, ◌<◌, ◌*◌}
use mathlib.Core.Path.{◌≡◌, refl, sym, ap, subst, ◌∙◌}
use mathlib.Core.Logic.{◌≢◌, ⊎_elim}
use mathlib.Core.Bool.{Bool, true, false, not, ◌&&◌, ◌||◌, true≢false, false≢true, or-false}
use mathlib.Core.List.{List, [], ◌∷◌}
use native.Mathlib.Omega.{arith}
use lib.Dec.{eqb, ltb, leb}
use lib.ListN.{length}
use borrow.Author.Tests.{eq-eqb, ne_eqb, eqb-true, lt-ltb, ltb-true, leb-false}
use Rattle.basics.specs.Lists.{bit, zeros}
use Rattle.basics.proofs.Laws.{same?}
use Rattle.rules.specs.Answer.{Effect, CallRule, answer, code_of, done, not_met, now_waiting, asked}
use Rattle.rules.specs.Tables.{Typed, semaphore_count, semaphore_width, semaphore, with_semaphore, semaphore_row, USED, KIND, COUNT}
use Rattle.rules.specs.Lines.{anyone, front_of, semaphore_line}
use Rattle.rules.specs.Waits.{WaitTables, wait_tables}
use Rattle.rules.specs.Semaphores.{is_binary, most, free_semaphore, create_cases, create_effect, delete_effect, pend_effect, count_most, post_cases, post_effect}
use Rattle.rules.specs.Semaphores.{count_up, reset_cases, reset_effect, semaphore_call}
use Rattle.rules.specs.Dispatch.{context}
use Rattle.rules.specs.Step.{call_of}
use Rattle.rules.specs.declared.Answer.{Answer}
use Rattle.rules.specs.declared.Tables.{Tables}
use Rattle.rules_laws.proofs.Rows.{field-same, field_row, field_out, row_same, row_other, row-used, by-range}
use Rattle.rules_laws.proofs.Calls.{chosen}
use Rattle.demand_2_soundness.proofs.Codes.{accepted-is, used-object}
use Rattle.demand_2_soundness.proofs.Groups.{NeverWaits}
use Rattle.demand_2_soundness.proofs.Standing.{first-not}
use Rattle.demand_2_soundness.proofs.Objects.{free-is}
use Rattle.demand_3_turns.proofs.SameKind.{other_word, on-semaphores-or-not}
use Rattle.no_post_lost.specs.NoPostLost.{CallAndAnswer, is_accepted_on, sets_count, is_post, takes_unit}

-- a counting semaphore of table ss, and its count
abbrev pub CountingIn : ℕ → List ℕ → Type 0
CountingIn s ss = (semaphore ss s USED ≢ 0) × (is_binary (semaphore ss s KIND) ≡ false)

abbrev pub count_in : ℕ → List ℕ → ℕ
count_in s ss = semaphore ss s COUNT

-- ---- what a call counts, by the test b of its number, its code and its semaphore: a post that readied a waiter, whose value is not 0, is a unit taken,
-- and a post that did not, a pend that was not done and a call elsewhere take none
readied : (b : Bool) (value : ℕ) → value ≢ 0 → bit b ≡ bit (b && not (eqb value 0))
readied true value named = rw (ne_eqb value 0 named)
readied false value named = refl

not_done : (b : Bool) → 0 ≡ bit (b && false || false)
not_done true = refl
not_done false = refl

posted-elsewhere : (b : Bool) → b ≡ false → bit b ≡ bit (b && false)
posted-elsewhere b e = rw e

pended-elsewhere : (b : Bool) → b ≡ false → 0 ≡ bit (b && true || false)
pended-elsewhere b e = rw e

-- by whether n is the number m
at-or-else : (m n : ℕ) (P : ℕ → Type 0) → P m → (n ≢ m → P n) → P n
at-or-else m n P here other = ⊎_elim (λ (e : n ≡ m). subst P (sym e) here) other (same? n m)

-- ---- semaphore a gets count v: its other words stay
module _ (ss : List ℕ) (size : length ss ≡ semaphore_count * semaphore_width) (a v : ℕ) where
  was-counting : (s : ℕ) → CountingIn s (with_semaphore ss a COUNT v) → CountingIn s ss
  was-counting s c = rw (other_word ss a v s USED (λ e. omega arith), other_word ss a v s KIND (λ e. omega arith)) at c

  pub count-now : a < semaphore_count → count_in a (with_semaphore ss a COUNT v) ≡ v
  count-now inside = field-same semaphore_width semaphore_count ss a COUNT v (omega arith) inside (omega arith)

-- ---- an accepted call with these arguments
module _ (t : Tables) (typed : Typed t) (never : NeverWaits 0 t.lines) (s a b c d : ℕ) where
  abbrev ss : List ℕ
  ss = t.semaphores

  abbrev pub with_answer : ℕ → Answer → CallAndAnswer
  with_answer n r = record { asked = asked n a b c d; answer = r }

  -- call n, answered r, leaves the table us
  pub record Even (n : ℕ) (us : List ℕ) (r : Answer) : Type 0 where
    pub before : CountingIn s ss
    pub even : count_in s ss + bit (is_post s (with_answer n r)) ≡ count_in s us + bit (takes_unit s (with_answer n r))

  abbrev pub Evenly : ℕ → List ℕ → Answer → Type 0
  Evenly n us r = sets_count s (with_answer n r) ≡ false → CountingIn s us → Even n us r

  abbrev Leaves : ℕ → Effect WaitTables → Type 0
  Leaves n r = Evenly n r.next.objects r.answer

  -- s has the same row, and the call takes a unit exactly if it is a post
  still : (n : ℕ) (us : List ℕ) (r : Answer) → ((f : ℕ) → semaphore us s f ≡ semaphore ss s f)
      → bit (is_post s (with_answer n r)) ≡ bit (takes_unit s (with_answer n r)) → Evenly n us r
  still n us r same as_many not_set now =
      record { before = rw (same USED, same KIND) at now; even = omega (arith, same COUNT, as_many) }

  -- it gives another semaphore a count
  apart : (n v : ℕ) (r : Answer) → s ≢ a → bit (is_post s (with_answer n r)) ≡ bit (takes_unit s (with_answer n r))
      → Evenly n (with_semaphore ss a COUNT v) r
  apart n v r other = still n _ r (λ f. field_row semaphore_width semaphore_count ss a COUNT v s f other)

  not_named : s ≢ a → eqb a s ≡ false
  not_named other = ne_eqb a s (λ (e : a ≡ s). other (sym e))

  -- 20 makes another one: it would set the count of the one it makes
  create-even : (i : ℕ) → Evenly 0x20 (semaphore_row ss i (1 ∷ a ∷ b ∷ [])) (answer 0 done i)
  create-even i not_set =
      let other : s ≢ i = λ (e : s ≡ i). true≢false (sym (eq-eqb i s (sym e)) ∙ sym (or-false (eqb i s)) ∙ not_set) in
      still 0x20 _ (answer 0 done i) (λ f. row_other semaphore_width semaphore_count ss i (1 ∷ a ∷ b ∷ []) (omega arith) s f other) refl not_set

  -- 21 deletes another one: s is still in use
  delete-even : Evenly 0x21 (semaphore_row ss a (zeros semaphore_width)) (answer 0 done 0)
  delete-even not_set now =
      still 0x21 _ (answer 0 done 0)
      (λ f. row_other semaphore_width semaphore_count ss a (zeros semaphore_width) (omega arith) s f (λ (e : s ≡ a). now.0 (rw e gone)))
      refl not_set now
    where
      gone : semaphore (semaphore_row ss a (zeros semaphore_width)) a USED ≡ 0
      gone =
          by-range a semaphore_count
          (λ lt. row_same semaphore_width semaphore_count ss a (zeros semaphore_width) (omega (arith, typed.semaphores)) (omega arith) lt USED (omega arith))
          (λ past. field_out semaphore_width semaphore_count _ a USED past)

  -- 22 takes one where the count is above 0; not met or waiting it takes nothing
  pend-even : Leaves 0x22 (pend_effect (wait_tables t.tasks t.lines ss) t.state a b)
  unfolding pend_effect
  pend-even =
      chosen (Leaves 0x22) (ltb 0 (count_in a ss)) _ _
      (λ e.
      let some : 0 < count_in a ss = ltb-true _ _ e in
      let inside : a < semaphore_count = row-used semaphore_width semaphore_count ss a COUNT (λ z. omega arith) in
      let less = count-now ss typed.semaphores a (count_in a ss - 1) inside in
      ⊎_elim
      (λ (i : s ≡ a) _ now.
      record {
        before = was-counting ss typed.semaphores a (count_in a ss - 1) s now;
        even = simp (i, eq-eqb a a refl) (omega (arith, less));
      })
      (λ (other : s ≢ a).
      apart 0x22 (count_in a ss - 1) (answer 0 done 0) other
      (pended-elsewhere (is_accepted_on 0x22 s (with_answer 0x22 (answer 0 done 0))) (not_named other)))
      (same? s a))
      (λ _.
      chosen (Leaves 0x22) (eqb b 0) _ _
      (λ _. still 0x22 ss (answer 0 not_met 0) (λ f. refl) (not_done (is_accepted_on 0x22 s (with_answer 0x22 (answer 0 not_met 0)))))
      (λ _. still 0x22 ss (answer 0 now_waiting 0) (λ f. refl) (not_done (is_accepted_on 0x22 s (with_answer 0x22 (answer 0 now_waiting 0))))))

  -- 23 readies a waiter, who takes the unit, or counts one up
  module _ (used : a < semaphore_count) (not_full : (not (is_binary (semaphore ss a KIND)) && leb count_most (count_in a ss)) ≡ false) where
    abbrev up : ℕ
    up = count_up (semaphore ss a KIND) (count_in a ss)

    one_up : is_binary (semaphore ss a KIND) ≡ false → up ≡ count_in a ss + 1
    unfolding count_up most
    one_up counting =
        let room : count_in a ss < count_most = leb-false count_most (count_in a ss) (rw counting at not_full) in
        rw (counting, lt-ltb (count_in a ss) count_most room)

    post-even : Leaves 0x23 (post_effect (wait_tables t.tasks t.lines ss) a)
    unfolding post_effect
    post-even =
        chosen (Leaves 0x23) (anyone t.lines (semaphore_line a)) _ _
        (λ some.
        let woken : ℕ = front_of t.lines (semaphore_line a) in
        still 0x23 ss (answer 0 done woken) (λ f. refl)
        (readied (is_post s (with_answer 0x23 (answer 0 done woken))) woken (first-not 0 t.lines never (semaphore_line a) (omega arith) some)))
        (λ _.
        ⊎_elim
        (λ (i : s ≡ a) _ now.
        let was = was-counting ss typed.semaphores a up s now in
        let here : CountingIn a ss = rw i at was in
        let inside : a < semaphore_count = row-used semaphore_width semaphore_count ss a USED here.0 in
        let more = count-now ss typed.semaphores a up inside ∙ one_up here.1 in
        record { before = was; even = simp (i, eq-eqb a a refl) (omega (arith, more)) })
        (λ (other : s ≢ a).
        apart 0x23 up (answer 0 done 0) other (posted-elsewhere (is_post s (with_answer 0x23 (answer 0 done 0))) (not_named other)))
        (same? s a))

  -- 24 resets another one: it would set the count of the one it names
  reset-even : Evenly 0x24 (with_semaphore ss a COUNT b) (answer 0 done 0)
  reset-even not_set =
      let other : s ≢ a = λ (e : s ≡ a). true≢false (sym (eq-eqb a s (sym e)) ∙ not_set) in
      apart 0x24 b (answer 0 done 0) other refl not_set

  -- ---- by number
  abbrev pub call_at : ℕ → CallRule Tables
  call_at n = call_of t (context t.lines t.state) n a b c d

  abbrev Holds : ℕ → Type 0
  Holds n = code_of (call_at n).cases ≡ 0 → Evenly n (call_at n).effect.next.semaphores (call_at n).effect.answer

  at-20 : Holds 0x20
  unfolding call_of semaphore_call create_effect
  at-20 z = create-even (free_semaphore ss)

  at-21 : Holds 0x21
  unfolding call_of semaphore_call delete_effect
  at-21 z = delete-even

  at-22 : Holds 0x22
  unfolding call_of semaphore_call
  at-22 z = pend-even

  at-23 : Holds 0x23
  unfolding call_of semaphore_call post_cases
  at-23 z =
      let ok = accepted-is (call_at 0x23).cases z in
      let used = used-object _ (ltb a semaphore_count) ok.at3 ok.at11 in
      post-even (row-used semaphore_width semaphore_count ss a USED used) ok.at7

  at-24 : Holds 0x24
  unfolding call_of semaphore_call reset_effect
  at-24 z = reset-even

  -- other numbers leave the table alone
  module _ (n : ℕ) (n20 : n ≢ 0x20) (n21 : n ≢ 0x21) (n22 : n ≢ 0x22) (n23 : n ≢ 0x23) (n24 : n ≢ 0x24) where
    abbrev Same : CallRule Tables → Type 0
    Same k = k.effect.next.semaphores ≡ ss

    same : Same (call_at n)
    unfolding semaphore_call
    same =
        on-semaphores-or-not t (context t.lines t.state) n a b c d Same (λ k alone. alone)
        (rw (ne_eqb n 0x20 n20, ne_eqb n 0x21 n21, ne_eqb n 0x22 n22, ne_eqb n 0x23 n23, ne_eqb n 0x24 n24))

    at_others : Holds n
    at_others z =
        still n _ _ (λ f. ap (λ (us : List ℕ). semaphore us s f) same) (simp (ne_eqb n 0x22 n22, ne_eqb n 0x23 n23))

  pub holds : (n : ℕ) → Holds n
  holds n =
      at-or-else 0x20 n Holds at-20 λ n20.
      at-or-else 0x21 n Holds at-21 λ n21.
      at-or-else 0x22 n Holds at-22 λ n22.
      at-or-else 0x23 n Holds at-23 λ n23.
      at-or-else 0x24 n Holds at-24 λ n24.
      at_others n n20 n21 n22 n23 n24

  -- ---- an accepted call that sets the count of s sets it to its second argument
  abbrev SetsTo : ℕ → Type 0
  SetsTo n =
      code_of (call_at n).cases ≡ 0 → sets_count s (with_answer n (call_at n).effect.answer) ≡ true
      → count_in s (call_at n).effect.next.semaphores ≡ b

  -- 20 takes a number that is free, so its row is in the table
  creates : SetsTo 0x20
  unfolding call_of semaphore_call create_effect create_cases free_semaphore
  creates z e =
      let i = free_semaphore ss in
      let (inside, _) = free-is semaphore_count (λ i. eqb (semaphore ss i USED) 0) (accepted-is (call_at 0x20).cases z).at6 in
      let here : i ≡ s = eqb-true i s (rw (or-false (eqb i s)) at e) in
      rw (← here)
      (row_same semaphore_width semaphore_count ss i (1 ∷ a ∷ b ∷ []) (omega (arith, typed.semaphores)) (omega arith) inside COUNT (omega arith))

  -- 24 names one in use
  resets : SetsTo 0x24
  unfolding call_of semaphore_call reset_effect reset_cases
  resets z e =
      let ok = accepted-is (call_at 0x24).cases z in
      let used = used-object _ (ltb a semaphore_count) ok.at3 ok.at11 in
      rw (← eqb-true a s e) (count-now ss typed.semaphores a b (row-used semaphore_width semaphore_count ss a USED used))

  pub set_to : (n : ℕ) → SetsTo n
  set_to n =
      at-or-else 0x20 n SetsTo creates λ n20.
      at-or-else 0x24 n SetsTo resets λ n24 z e.
      absurd (false≢true (sym (simp (ne_eqb n 0x20 n20, ne_eqb n 0x24 n24)) ∙ e))
