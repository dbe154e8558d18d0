-- Request No. 12 says no more than is true: for each must-fail edit of `no_post_lost`, the statement that it makes, denied by a run. That is the run
-- of `Posts`, where what is counted wrongly gives two sides that differ; and for what a post's value tells one more post after it, and a run in which
-- task 2 is woken.
use Prim.Native.Nat.{ℕ, ◌+◌}
use mathlib.Core.Path.{◌≡◌, refl, sym, ap, ◌∙◌}
use mathlib.Core.Logic.{◌≢◌}
use mathlib.Core.Bool.{Bool, true, false, not, ◌&&◌, ◌||◌}
use mathlib.Core.List.{List, [], ◌∷◌, ◌++◌}
use native.Mathlib.Omega.{arith}
use lib.Dec.{eqb}
use lib.ListN.{take, drop}
use borrow.Author.Tests.{eq-eqb}
use Rattle.rules.specs.Answer.{answer, done, not_met, now_waiting, asked}
use Rattle.rules.specs.Tables.{Typed, forever, ready, tables, semaphore, USED, KIND, COUNT}
use Rattle.rules.specs.Lines.{ready_line}
use Rattle.rules.specs.Semaphores.{is_binary}
use Rattle.rules.specs.Fresh.{fresh, no_events, no_mailboxes, no_swis, no_clocks, free_heap}
use Rattle.rules.specs.Sound.{Sound}
use Rattle.rules.specs.declared.Tables.{Tables}
use Rattle.rules_laws.proofs.Runs.{Line, Said, ◌⇒◌, said, says, calls, answers, T, create_task, create_semaphore, pend, post}
use Rattle.rules.proofs.Computed.{computed}
use Rattle.rules.proofs.Standing.{lines_with, ◌has◌}
use Rattle.runs.specs.Run.{made, next}
use Rattle.rules_laws.proofs.Fresh.{fresh-typed, fresh-is-sound}
use Rattle.no_post_lost.specs.NoPostLost.{CallAndAnswer, how_many, is_accepted, is_accepted_on, sets_count, is_post, takes_unit, Counting}
use Rattle.woken_task.specs.WokenTask.{semaphore_post, Woke}
use Rattle.demands_examples.proofs.Rows.{tasks_of, semaphores_of, state_of}
use Rattle.demand_2_soundness.proofs.RunsBySteps.{asks, in_words}
use Rattle.demands_examples.proofs.BySteps.{pass, Leads, leads, anything}
use Rattle.demands_examples.proofs.Posts.{told, history-told, created_zero, created_two, created_three, reset_one, now, to-now, all, at, since}
use Rattle.demands_examples.proofs.Posts.{Counted, Sums, in-run, counting}
use Rattle.rules.specs.declared.Call.{Call}

-- ---- with another test of what takes a unit; of a post; of what sets the count; of which semaphores
abbrev taken_by : (ℕ → CallAndAnswer → Bool) → Counted
taken_by f = record { sets = sets_count; count = λ e. e.asked.b; again = sets_count; posts = is_post; takes = f; Of = Counting }

-- by a pend of which g holds, or by a post of which p holds and that readied a waiter
abbrev units : (ℕ → CallAndAnswer → Bool) → (ℕ → CallAndAnswer → Bool) → ℕ → CallAndAnswer → Bool
units g p s e = g s e || (p s e && not (eqb e.answer.value 0))

abbrev posted_by : (ℕ → CallAndAnswer → Bool) → Counted
posted_by p =
    record {
      sets = sets_count;
      count = λ e. e.asked.b;
      again = sets_count;
      posts = p;
      takes = units (λ s e. is_accepted_on 0x22 s e && eqb e.answer.outcome done) p;
      Of = Counting;
    }

abbrev set_by : (ℕ → CallAndAnswer → Bool) → Counted
set_by f = record { sets = f; count = λ e. e.asked.b; again = f; posts = is_post; takes = takes_unit; Of = Counting }

abbrev of_those : (ℕ → Tables → Type 0) → Counted
of_those Of = record { sets = sets_count; count = λ e. e.asked.b; again = sets_count; posts = is_post; takes = takes_unit; Of = Of }

-- denied by semaphore s since call number k: the two sides are l and r
module _ (c : Counted) (s k l r : ℕ) where
  denied : c.Of s now → all ≡ take k all ++ (at k ∷ since k) → c.sets s (at k) ≡ true → how_many (c.again s) (since k) ≡ 0
      → c.count (at k) + how_many (c.posts s) (since k) ≡ l → semaphore now.semaphores s COUNT + how_many (c.takes s) (since k) ≡ r
      → l ≢ r → Sums c → ⊥
  denied of split sets none left right differ every = differ (sym left ∙ in-run c every s of k split sets none ∙ right)

-- ---- "a unit being taken by a pend that was done at once or by a waiter that a post readied"
-- not when a wait begins, as two do: one expires
abbrev begun : ℕ → CallAndAnswer → Bool
begun s e = is_accepted_on 0x22 s e && not (eqb e.answer.outcome not_met)

pub not-when-a-wait-begins : Sums (taken_by begun) → ⊥
unfolding computed how_many now
not-when-a-wait-begins = denied (taken_by begun) 0 created_zero 4 5 counting.0 refl refl refl refl refl (λ e. omega arith)

-- not by a pend that was not met
abbrev ended_at_once : ℕ → CallAndAnswer → Bool
ended_at_once = units (λ s e. is_accepted_on 0x22 s e && not (eqb e.answer.outcome now_waiting)) is_post

pub not-when-not-met : Sums (taken_by ended_at_once) → ⊥
unfolding computed how_many now
not-when-not-met = denied (taken_by ended_at_once) 0 created_zero 4 5 counting.0 refl refl refl refl refl (λ e. omega arith)

-- by a pend alone: then a post that readies a waiter would count up too
abbrev pended : ℕ → CallAndAnswer → Bool
pended s e = is_accepted_on 0x22 s e && eqb e.answer.outcome done

pub not-wakes-and-counts : Sums (taken_by pended) → ⊥
unfolding computed how_many now
not-wakes-and-counts = denied (taken_by pended) 0 created_zero 4 3 counting.0 refl refl refl refl refl (λ e. omega arith)

-- "refused calls count nowhere": a refused pend has outcome 0 too
abbrev tried_to_pend : ℕ → CallAndAnswer → Bool
tried_to_pend = units (λ s e. eqb e.asked.number 0x22 && eqb e.asked.a s && eqb e.answer.outcome done) is_post

pub not-with-refused-pends : Sums (taken_by tried_to_pend) → ⊥
unfolding computed how_many now
not-with-refused-pends = denied (taken_by tried_to_pend) 0 created_zero 4 5 counting.0 refl refl refl refl refl (λ e. omega arith)

-- a pend on semaphore 1 takes nothing from semaphore 0
abbrev pended_anywhere : ℕ → CallAndAnswer → Bool
pended_anywhere = units (λ s e. is_accepted 0x22 e && eqb e.answer.outcome done) is_post

pub not-with-pends-elsewhere : Sums (taken_by pended_anywhere) → ⊥
unfolding computed how_many now
not-with-pends-elsewhere = denied (taken_by pended_anywhere) 0 created_zero 4 5 counting.0 refl refl refl refl refl (λ e. omega arith)

-- ---- "the accepted posts": on semaphore 1 one was refused, at 65,535
abbrev tried : ℕ → CallAndAnswer → Bool
tried s e = eqb e.asked.number 0x23 && eqb e.asked.a s

pub not-with-refused-posts : Sums (posted_by tried) → ⊥
unfolding computed how_many now
not-with-refused-posts = denied (posted_by tried) 1 reset_one 65537 65536 counting.1 refl refl refl refl refl (λ e. omega arith)

-- on this semaphore
abbrev posted_anywhere : ℕ → CallAndAnswer → Bool
posted_anywhere s e = is_accepted 0x23 e

pub not-with-posts-elsewhere : Sums (posted_by posted_anywhere) → ⊥
unfolding computed how_many now
not-with-posts-elsewhere = denied (posted_by posted_anywhere) 0 created_zero 8 4 counting.0 refl refl refl refl refl (λ e. omega arith)

-- ---- "creation or accepted reset": a refused reset sets nothing, nor does a refused creation, whose value is 0
abbrev tried_to_reset : ℕ → CallAndAnswer → Bool
tried_to_reset s e = (is_accepted 0x20 e && eqb e.answer.value s) || (eqb e.asked.number 0x24 && eqb e.asked.a s)

pub not-with-refused-resets : Sums (set_by tried_to_reset) → ⊥
unfolding computed how_many now
not-with-refused-resets = denied (set_by tried_to_reset) 0 25 6 3 counting.0 refl refl refl refl refl (λ e. omega arith)

abbrev tried_to_create : ℕ → CallAndAnswer → Bool
tried_to_create s e = (eqb e.asked.number 0x20 && eqb e.answer.value s) || is_accepted_on 0x24 s e

pub not-with-refused-creations : Sums (set_by tried_to_create) → ⊥
unfolding computed how_many now
not-with-refused-creations = denied (set_by tried_to_create) 0 8 10 4 counting.0 refl refl refl refl refl (λ e. omega arith)

-- a creation's first argument is the kind, and no number of a semaphore
abbrev created_by_kind : ℕ → CallAndAnswer → Bool
created_by_kind s e = (is_accepted 0x20 e && eqb e.asked.a s) || is_accepted_on 0x24 s e

pub not-by-the-first-argument : Sums (set_by created_by_kind) → ⊥
unfolding computed how_many now
not-by-the-first-argument = denied (set_by created_by_kind) 0 created_three 6 4 counting.0 refl refl refl refl refl (λ e. omega arith)

-- a reset of semaphore 1 sets nothing of semaphore 0, and a reset does set the count
abbrev reset_anywhere : ℕ → CallAndAnswer → Bool
reset_anywhere s e = (is_accepted 0x20 e && eqb e.answer.value s) || is_accepted 0x24 e

pub not-with-resets-elsewhere : Sums (set_by reset_anywhere) → ⊥
unfolding computed how_many now
not-with-resets-elsewhere = denied (set_by reset_anywhere) 0 reset_one 65537 4 counting.0 refl refl refl refl refl (λ e. omega arith)

abbrev created_alone : ℕ → CallAndAnswer → Bool
created_alone s e = is_accepted 0x20 e && eqb e.answer.value s

pub not-without-resets : Sums (set_by created_alone) → ⊥
unfolding computed how_many now
not-without-resets = denied (set_by created_alone) 1 4 8 65536 counting.1 refl refl refl refl refl (λ e. omega arith)

-- "last": not since the first creation of semaphore 0
abbrev since_any : Counted
since_any = record { sets = sets_count; count = λ e. e.asked.b; again = λ s e. false; posts = is_post; takes = takes_unit; Of = Counting }

pub not-since-an-earlier-one : Sums since_any → ⊥
unfolding computed how_many now
not-since-an-earlier-one = denied since_any 0 0 13 4 counting.0 refl refl refl refl refl (λ e. omega arith)

-- "the count set then": the second argument
abbrev set_to_first : Counted
set_to_first = record { sets = sets_count; count = λ e. e.asked.a; again = sets_count; posts = is_post; takes = takes_unit; Of = Counting }

pub not-set-to-the-first-argument : Sums set_to_first → ⊥
unfolding computed how_many now
not-set-to-the-first-argument = denied set_to_first 0 created_zero 5 4 counting.0 refl refl refl refl refl (λ e. omega arith)

-- ---- "For every counting semaphore": of a binary one a post at 1 is lost, and a deleted one has no count
abbrev InUse : ℕ → Tables → Type 0
InUse s t = semaphore t.semaphores s USED ≢ 0

pub not-of-binary : Sums (of_those InUse) → ⊥
unfolding computed how_many now
not-of-binary = denied (of_those InUse) 2 created_two 2 1 (λ e. omega (arith, e)) refl refl refl refl refl (λ e. omega arith)

abbrev NotBinary : ℕ → Tables → Type 0
NotBinary s t = (semaphore t.semaphores s USED ≢ 2) × (is_binary (semaphore t.semaphores s KIND) ≡ false)

pub not-of-deleted : Sums (of_those NotBinary) → ⊥
unfolding computed how_many now
not-of-deleted = denied (of_those NotBinary) 3 created_three 3 0 (λ e. omega (arith, e), refl) refl refl refl refl refl (λ e. omega arith)

-- ---- what a post's value tells: with value 0 nobody was readied, as by one more post after this run
abbrev once : List Line
once = post 0 ⇒ said 0 0 0 (T 1) ∷ []

unfoldable posted : Tables
posted =
    tables now.tasks now.lines (semaphores_of ((1 ∷ 2 ∷ 3 ∷ []) ∷ (1 ∷ 0 ∷ 65535 ∷ []) ∷ (1 ∷ 1 ∷ 1 ∷ []) ∷ []))
    now.events now.mailboxes now.swis now.clocks now.heap now.state

to-posted : Leads anything 0 now once 1 posted
unfolding computed lines_with pass in_words now posted
to-posted = leads anything 0 now to-now.typed to-now.sound once 1 posted refl refl

-- a post on s
abbrev post_on : ℕ → Call
post_on s = asked 0x23 s 0 0 0

-- its code and value
counted-up : ((made now (post_on 0)).answer.code ≡ 0) × ((made now (post_on 0)).answer.value ≡ 0)
unfolding says
counted-up = let e = to-posted.answers.so in (cc, cc)

pub not-told-by-a-value-of-0
    : ((t : Tables) → Typed t → Sound t → (q : Call) → is_post 0 record { asked = q; answer = (made t q).answer } ≡ true
    → (made t q).answer.value ≢ 1 → Woke semaphore_post t q (made t q).answer (next t q)) → ⊥
not-told-by-a-value-of-0 every =
    let w = every now to-now.typed to-now.sound (post_on 0) (rw (eq-eqb _ 0 counted-up.0)) (λ e. omega (arith, e, counted-up.1)) in
    w.named counted-up.1

-- ---- a waiter that a post readied shows in a value other than 0, whoever it is (No. 8): a unit is taken, and the value is 2
abbrev by_task_two : List Line
by_task_two =
    create_semaphore 0 0 ⇒ said 0 0 0 (T 0)
    ∷ create_task 5 ⇒ said 0 0 1 (T 1)
    ∷ create_task 6 ⇒ said 0 0 2 (T 2)
    ∷ pend 0 forever ⇒ said 0 2 0 (T 1)
    ∷ post 0 ⇒ said 0 0 2 (T 2)
    ∷ []

unfoldable taken : Tables
taken =
    tables (tasks_of ((ready ∷ 5 ∷ []) ∷ (ready ∷ 6 ∷ []) ∷ []))
    (lines_with (ready_line 0 has (0 ∷ []) ∷ ready_line 5 has (1 ∷ []) ∷ ready_line 6 has (2 ∷ []) ∷ []))
    (semaphores_of ((1 ∷ []) ∷ [])) no_events no_mailboxes no_swis no_clocks free_heap (state_of 0 2)

to-taken : Leads anything 0 fresh by_task_two 1 taken
unfolding computed lines_with pass in_words taken
to-taken = leads anything 0 fresh fresh-typed fresh-is-sound by_task_two 1 taken refl refl

abbrev two_told : List CallAndAnswer
two_told = told (calls by_task_two) (answers by_task_two)

taken-counting : Counting 0 taken
unfolding computed taken
taken-counting = record { used = λ e. omega (arith, e); kind = refl }

no-count : semaphore taken.semaphores 0 COUNT ≡ 0
unfolding computed taken
no-count = refl

abbrev of_task_one : ℕ → CallAndAnswer → Bool
of_task_one s e = (is_accepted_on 0x22 s e && eqb e.answer.outcome done) || (is_post s e && eqb e.answer.value 1)

pub not-of-task-1-alone : Sums (taken_by of_task_one) → ⊥
unfolding how_many
not-of-task-1-alone every =
    let split = history-told fresh (calls by_task_two) ∙ ap (λ (ys : List Said). told (calls by_task_two) ys) to-taken.answers.so in
    let sum =
    every fresh fresh-typed fresh-is-sound (asks (calls by_task_two)) to-taken.words 0 (rw to-taken.now taken-counting) []
    (record { asked = asked 0x20 0 0 0 0; answer = answer 0 0 0 }) (drop 1 two_told) split refl refl in
    omega (arith, no-count, rw to-taken.now at sum)
