-- Request No. 12 in a worked example: a run from fresh tables on with four semaphores, of which every premise of `no-post-lost` is met for two.
-- Semaphore 0 is counting by priority: it was deleted and made anew with count 1; since then a pend on it was done at once, one expired, one was not
-- met, one was ended by a post; a pend, a reset and a post were refused, and two posts counted up: 1 + 3 is 2 + 2. Semaphore 1 is counting in
-- arrival order and was reset to 65,534: a post counted up, the next was refused, a pend took one, a post counted up: 65,534 + 2 is 65,535 + 1.
-- Semaphore 2 is binary, semaphore 3 was deleted.
use Prim.Native.Nat.{ℕ, suc, ◌+◌}
use mathlib.Core.Path.{◌≡◌, refl, ap, ◌∙◌}
use mathlib.Core.Bool.{Bool, true}
use mathlib.Core.List.{List, [], ◌∷◌, ◌++◌}
use native.Mathlib.Omega.{arith}
use lib.ListN.{get_or, take, drop}
use Rattle.rules.specs.Answer.{answer, asked}
use Rattle.rules.specs.Tables.{Typed, few_levels, forever, ready, tables, semaphore, COUNT}
use Rattle.rules.specs.Lines.{ready_line}
use Rattle.rules.specs.Fresh.{fresh, made_fresh, no_events, no_mailboxes, no_swis, no_clocks, free_heap}
use Rattle.rules.specs.Sound.{Sound}
use Rattle.rules.specs.declared.Tables.{Tables}
use Rattle.rules_laws.proofs.Runs.{Line, Said, ◌⇒◌, said, saw, says, look, calls, answers, T, I, create_task, create_semaphore, delete_semaphore, pend, post}
use Rattle.rules_laws.proofs.Runs.{interrupt_in, interrupt_out, tick}
use Rattle.rules_laws.proofs.Runs as Runs
use Rattle.rules.proofs.Computed.{computed}
use Rattle.rules.proofs.Standing.{lines_with, ◌has◌}
use Rattle.runs.specs.Run.{next, after, AllWords}
use Rattle.rules_laws.proofs.Fresh.{fresh-typed, fresh-is-sound}
use Rattle.no_post_lost.specs.NoPostLost.{CallAndAnswer, history, how_many, sets_count, is_post, takes_unit, LastSet, Counting}
use Rattle.no_post_lost.proofs.NoPostLost.{no-post-lost, no-post-lost-from-fresh}
use Rattle.no_post_lost.proofs.LastSets.{one_last}
use Rattle.demands_examples.proofs.Rows.{tasks_of, semaphores_of, state_of}
use Rattle.demand_2_soundness.proofs.RunsBySteps.{asks, in_words}
use Rattle.demands_examples.proofs.BySteps.{pass, Leads, leads, anything}
use Rattle.rules.specs.declared.Call.{Call}

-- ---- the history of a run is what its lines say: each call, and what was answered
abbrev pub told : List Runs.Asked → List Said → List CallAndAnswer
told [] ys = []
told (x ∷ xs) [] = []
told (Runs.asked n a b c d ∷ xs) (said k o v t ∷ ys) = record { asked = asked n a b c d; answer = answer k o v } ∷ told xs ys
told (Runs.asked n a b c d ∷ xs) (saw m ∷ ys) = told xs ys
told (look f ∷ xs) (y ∷ ys) = told xs ys

pub history-told : (t : Tables) (xs : List Runs.Asked) → history t (asks xs) ≡ told xs (says t xs)
unfolding history says
history-told t [] = refl
history-told t (Runs.asked n a b c d ∷ xs) = rw (history-told (next t (asked n a b c d)) xs)
history-told t (look f ∷ xs) = history-told t xs

-- ---- the calls from number 0 on, and what each says: code, outcome, value, thread
abbrev reset : ℕ → ℕ → Runs.Asked
reset i count = Runs.asked 0x24 i count 0 0

-- 0 to 3: semaphore 0 is made, posted and deleted, and made anew by priority with count 1. 4 to 9: semaphore 1 is made in arrival order, 2 as a binary
-- one, 3 is made and deleted, a creation is refused, and 1 is posted
abbrev making : List Line
making =
    create_semaphore 0 9 ⇒ said 0 0 0 (T 0)
    ∷ post 0 ⇒ said 0 0 0 (T 0)
    ∷ delete_semaphore 0 ⇒ said 0 0 0 (T 0)
    ∷ create_semaphore 2 1 ⇒ said 0 0 0 (T 0)
    ∷ create_semaphore 0 5 ⇒ said 0 0 1 (T 0)
    ∷ create_semaphore 1 1 ⇒ said 0 0 2 (T 0)
    ∷ create_semaphore 0 3 ⇒ said 0 0 3 (T 0)
    ∷ delete_semaphore 3 ⇒ said 0 0 0 (T 0)
    ∷ create_semaphore 4 7 ⇒ said 4 0 0 (T 0)
    ∷ post 1 ⇒ said 0 0 0 (T 0)
    ∷ []

-- 10 to 15: semaphore 1 is reset, a post counts up, the next is refused, a pend takes one, and a post counts up again; a post on 2 is accepted and lost
abbrev filling : List Line
filling =
    reset 1 65534 ⇒ said 0 0 0 (T 0)
    ∷ post 1 ⇒ said 0 0 0 (T 0)
    ∷ post 1 ⇒ said 7 0 0 (T 0)
    ∷ pend 1 0 ⇒ said 0 0 0 (T 0)
    ∷ post 1 ⇒ said 0 0 0 (T 0)
    ∷ post 2 ⇒ said 0 0 0 (T 0)
    ∷ []

-- 16 to 29: task 1 pends on 0: done at once; for one tick, which runs out; with limit 0, not met; and without end. A pend by task 0, a reset and a
-- post with an argument too many are refused; a post readies task 1, and two count up
abbrev waiting : List Line
waiting =
    create_task 5 ⇒ said 0 0 1 (T 1)
    ∷ pend 0 forever ⇒ said 0 0 0 (T 1)
    ∷ pend 0 1 ⇒ said 0 2 0 (T 0)
    ∷ interrupt_in ⇒ said 0 0 0 I
    ∷ tick ⇒ said 0 0 0 I
    ∷ interrupt_out ⇒ said 0 0 0 (T 1)
    ∷ pend 0 0 ⇒ said 0 1 0 (T 1)
    ∷ pend 0 forever ⇒ said 0 2 0 (T 0)
    ∷ pend 0 forever ⇒ said 5 0 0 (T 0)
    ∷ reset 0 3 ⇒ said 5 0 0 (T 0)
    ∷ Runs.asked 0x23 0 1 0 0 ⇒ said 4 0 0 (T 0)
    ∷ post 0 ⇒ said 0 0 1 (T 1)
    ∷ post 0 ⇒ said 0 0 0 (T 1)
    ∷ post 0 ⇒ said 0 0 0 (T 1)
    ∷ []

-- the numbers of the last creations of semaphores 0, 2 and 3, and of the last reset of semaphore 1
abbrev pub created_zero : ℕ
created_zero = 3

abbrev pub created_two : ℕ
created_two = 5

abbrev pub created_three : ℕ
created_three = 6

abbrev pub reset_one : ℕ
reset_one = 10

abbrev run : List Line
run = making ++ (filling ++ waiting)

abbrev pub run_calls : List Call
run_calls = asks (calls run)

-- ---- the tables after it: task 1 is ready, with priority 5 and a last result of outcome 0; semaphores 0, 1 and 2; one tick
unfoldable pub now : Tables
now =
    tables (tasks_of ((ready ∷ 5 ∷ []) ∷ [])) (lines_with (ready_line 0 has (0 ∷ []) ∷ ready_line 5 has (1 ∷ []) ∷ []))
    (semaphores_of ((1 ∷ 2 ∷ 2 ∷ []) ∷ (1 ∷ 0 ∷ 65535 ∷ []) ∷ (1 ∷ 1 ∷ 1 ∷ []) ∷ [])) no_events no_mailboxes no_swis no_clocks free_heap (state_of 1 1)

pub to-now : Leads anything 0 fresh run 4 now
unfolding computed lines_with pass in_words now
to-now = leads anything 0 fresh fresh-typed fresh-is-sound run 4 now refl refl

-- its history
abbrev pub all : List CallAndAnswer
all = told (calls run) (answers run)

pub is_all : history fresh run_calls ≡ all
is_all = history-told fresh (calls run) ∙ ap (λ (ys : List Said). told (calls run) ys) to-now.answers.so

-- call number k of it, and those since
abbrev pub at : ℕ → CallAndAnswer
at k = get_or all k record { asked = asked 0 0 0 0 0; answer = answer 0 0 0 }

abbrev pub since : ℕ → List CallAndAnswer
since k = drop (suc k) all

-- ---- the statement over what is counted, so that the theorem, its instances and statements that say more stand side by side
pub record Counted : Type 1 where
  -- what sets the count and what it sets it to; what must not come again; what is a post, and what takes a unit
  pub sets : ℕ → CallAndAnswer → Bool
  pub count : CallAndAnswer → ℕ
  pub again : ℕ → CallAndAnswer → Bool
  pub posts : ℕ → CallAndAnswer → Bool
  pub takes : ℕ → CallAndAnswer → Bool
  -- of which semaphores
  pub Of : ℕ → Tables → Type 0

abbrev pub Sums : Counted → Type 0
Sums c =
    (t : Tables) → Typed t → Sound t → (qs : List Call) → AllWords t qs → (s : ℕ) → c.Of s (after t qs)
    → (before : List CallAndAnswer) (call : CallAndAnswer) (later : List CallAndAnswer)
    → history t qs ≡ before ++ (call ∷ later) → c.sets s call ≡ true → how_many (c.again s) later ≡ 0
    → c.count call + how_many (c.posts s) later ≡ semaphore (after t qs).semaphores s COUNT + how_many (c.takes s) later

abbrev pub right : Counted
right = record { sets = sets_count; count = λ e. e.asked.b; again = sets_count; posts = is_post; takes = takes_unit; Of = Counting }

pub stated : Sums right
stated t typed sound qs words s counting before call later split sets none =
    no-post-lost t typed sound qs words s counting
    record { before = before; call = call; since = later; split = split; sets = sets; none_since = none }

-- what such a statement says of this run, of semaphore s and since call number k
module _ (c : Counted) (every : Sums c) where
  pub in-run : (s : ℕ) → c.Of s now → (k : ℕ) → all ≡ take k all ++ (at k ∷ since k) → c.sets s (at k) ≡ true → how_many (c.again s) (since k) ≡ 0
      → c.count (at k) + how_many (c.posts s) (since k) ≡ semaphore now.semaphores s COUNT + how_many (c.takes s) (since k)
  in-run s of k split sets none =
      rw to-now.now at
      (every fresh fresh-typed fresh-is-sound run_calls to-now.words s (rw to-now.now of) (take k all) (at k) (since k) (is_all ∙ split) sets none)

-- ---- semaphore 0 since its last creation, semaphore 1 since its last reset: every premise is met
pub counting : Counting 0 now × Counting 1 now
unfolding computed now
counting = (record { used = λ e. omega (arith, e); kind = refl }, record { used = λ e. omega (arith, e); kind = refl })

-- counted from the history: posts, units taken; and the count now
pub counted-zero : (how_many (is_post 0) (since created_zero) ≡ 3) × (how_many (takes_unit 0) (since created_zero) ≡ 2) × (semaphore now.semaphores 0 COUNT ≡ 2)
unfolding computed how_many now
counted-zero = (refl, refl, refl)

pub counted-one : (how_many (is_post 1) (since reset_one) ≡ 2) × (how_many (takes_unit 1) (since reset_one) ≡ 1) × (semaphore now.semaphores 1 COUNT ≡ 65535)
unfolding computed how_many now
counted-one = (refl, refl, refl)

-- of the binary one the two sides are 1 + 1 and 1 + 0
pub counted-two : (how_many (is_post 2) (since created_two) ≡ 1) × (how_many (takes_unit 2) (since created_two) ≡ 0) × (semaphore now.semaphores 2 COUNT ≡ 1)
unfolding computed how_many now
counted-two = (refl, refl, refl)

-- the theorem's own instances: 1 + 3 is 2 + 2, and 65,534 + 2 is 65,535 + 1
pub zero-balanced : 1 + how_many (is_post 0) (since created_zero) ≡ semaphore now.semaphores 0 COUNT + how_many (takes_unit 0) (since created_zero)
unfolding how_many
zero-balanced = in-run right stated 0 counting.0 created_zero refl refl refl

pub one-balanced : 65534 + how_many (is_post 1) (since reset_one) ≡ semaphore now.semaphores 1 COUNT + how_many (takes_unit 1) (since reset_one)
unfolding how_many
one-balanced = in-run right stated 1 counting.1 reset_one refl refl refl

-- ---- from fresh tables on the theorem finds the last creation itself, and it is this one
pub found : (x : LastSet 0 (history fresh run_calls)) × (x.call ≡ at created_zero) × (x.since ≡ since created_zero)
unfolding how_many made_fresh
found =
    let (x, _) = no-post-lost-from-fresh few_levels run_calls to-now.words 0 (rw to-now.now counting.0) in
    let here : LastSet 0 (history fresh run_calls) =
    record { before = take created_zero all; call = at created_zero; since = since created_zero; split = is_all; sets = refl; none_since = refl } in
    let (call, later) = one_last 0 (history fresh run_calls) x here in
    (x, call, later)
