-- Request No. 4 in worked examples: a run of lines, handed over as one list, is accepted and leaves what its calls say one after the other. That is one law,
-- proved along the lines, so that of each example only the lines are computed. What is refused is so by the test of its length or of its tables.
use Prim.{tt}
use Prim.Native.Nat.{ℕ, ◌*◌, ◌≤◌}
use mathlib.Core.Path.{◌≡◌, refl, sym, ap, subst, ◌∙◌}
use mathlib.Core.Bool.{true, false}
use mathlib.Core.List.{List, [], ◌∷◌, ◌++◌}
use native.Mathlib.Omega.{arith}
use lib.ListN.{length, replicate}
use lib.Seq.{sets}
use Rattle.rules.specs.Answer.{answer, asked}
use Rattle.rules.specs.Dispatch.{running}
use Rattle.rules.specs.Fresh.{fresh, fresh_with}
use Rattle.rules.specs.Sound.{Sound, sound}
use Rattle.rules.specs.Tables.{Typed, forever}
use Rattle.rules.specs.declared.Answer.{Answer}
use Rattle.rules.specs.declared.Tables.{Tables}
use Rattle.rules.specs.declared.Thread.{Thread}
use Rattle.rules.proofs.Agree.{means-sound}
use Rattle.rules.proofs.Computed.{computed}
use Rattle.rules_laws.proofs.Runs.{Line, Said, ◌⇒◌, ◌runs◌, said, saw, look, says, calls, answers, T, create_task, create_semaphore, pend, post}
use Rattle.rules_laws.proofs.Runs.{create_event, pend_event, post_event}
use Rattle.rules_laws.proofs.Runs as Runs
use Rattle.runs.specs.Run.{ByType, made, next, after, Each, AllWords}
use Rattle.runs.specs.CallList.{calls_of, laid_out, answers_to, words_of, bad_list, Handed, handed, all_made, nothing_done, hand_over}
use Rattle.runs.proofs.CallList.{length-laid-out, calls-laid-out, unsound-left, bad-left}
use Rattle.demands.specs.Lists.{Fits, PromisedList}
use Rattle.demands.proofs.Lists.{of-a-list, promised-list}
use Rattle.rules_laws.proofs.Fresh.{fresh-typed, fresh-is-sound}
use Rattle.demands.proofs.Two.{demand-2}
use Rattle.demand_2_soundness.proofs.RunsBySteps.{asks, in_words}
use Rattle.demands_examples.proofs.BySteps.{Pass, pass, Leads, leads, anything}
use Rattle.demands_examples.proofs.StrongerAnswers.{stray, not_sound}
use Rattle.rules.specs.declared.Call.{Call}
use Rattle.rules.specs.Step.{step}

-- ---- a run by steps, to the tables that the steps compute
abbrev pub in_steps : Tables → List Line → Pass
in_steps t ls = pass anything 0 t (calls ls)

any-all : (t : Tables) (xs : List Runs.Asked) → (pass anything 0 t xs).all ≡ true
unfolding pass
any-all t [] = refl
any-all t (Runs.asked n a b c d ∷ xs) = any-all (step t n a b c d).tables xs
any-all t (look f ∷ xs) = any-all t xs

abbrev pub Stepped : Tables → List Line → Type 0
Stepped t ls = Leads anything 0 t ls (in_steps t ls).posts (in_steps t ls).now

pub by-steps : (t : Tables) → Typed t → Sound t → (ls : List Line) → in_words (asks (calls ls)) ≡ true → (in_steps t ls).says ≡ answers ls → Stepped t ls
by-steps t typed sound ls words e =
    let r : Pass = in_steps t ls in
    leads anything 0 t typed sound ls r.posts r.now words
    (λ i. record { says = e i; posts = r.posts; all = any-all t (calls ls) i; now = r.now })

-- ---- what lines say: the answers, and the thread after the last call, which is x where there is none
abbrev pub answers_said : List Said → List Answer
answers_said [] = []
answers_said (said k o v x ∷ ys) = answer k o v ∷ answers_said ys
answers_said (saw n ∷ ys) = answers_said ys

abbrev pub thread_said : Thread → List Said → Thread
thread_said x [] = x
thread_said x (said k o v y ∷ ys) = thread_said y ys
thread_said x (saw n ∷ ys) = thread_said x ys

answers-said : (t : Tables) (xs : List Runs.Asked) → answers_to t (asks xs) ≡ answers_said (says t xs)
unfolding answers_to says
answers-said t [] = refl
answers-said t (Runs.asked n a b c d ∷ xs) = ap (λ (rs : List Answer). (made t (asked n a b c d)).answer ∷ rs) (answers-said (next t (asked n a b c d)) xs)
answers-said t (look f ∷ xs) = answers-said t xs

abbrev pub thread_in : Tables → Thread
thread_in t = running t.lines t.state

thread-said : (t : Tables) → Typed t → Sound t → (xs : List Runs.Asked) → AllWords t (asks xs)
    → thread_in (after t (asks xs)) ≡ thread_said (thread_in t) (says t xs)
unfolding after says Each
thread-said t typed sound [] w = refl
thread-said t typed sound (Runs.asked n a b c d ∷ xs) w =
    let k = demand-2 t typed sound (asked n a b c d) w.0 in
    thread-said (next t (asked n a b c d)) k.typed k.sound xs w.1
    ∙ ap (λ (x : Thread). thread_said x (says (next t (asked n a b c d)) xs)) (sym k.thread)
thread-said t typed sound (look f ∷ xs) w = thread-said t typed sound xs w

-- ---- the law: a run of lines, handed over as one list
abbrev pub list_of : List Line → List ℕ
list_of ls = laid_out (asks (calls ls))

-- what it leaves: the tables as after the lines, their answers in front of the room, and the thread of the last one
abbrev pub left_by : Tables → List Line → List ℕ → Handed
left_by t ls room =
    handed (after t (asks (calls ls))) (sets room 0 (words_of (answers_said (answers ls)))) (answer 0 0 0) (thread_said (thread_in t) (answers ls))

pub as-one-list : (t : Tables) → Typed t → Sound t → (ls : List Line) → t runs ls → AllWords t (asks (calls ls)) → (room : List ℕ)
    → length (asks (calls ls)) ≤ 256 → length (asks (calls ls)) * 3 ≤ length room → hand_over t (list_of ls) room ≡ left_by t ls room
unfolding all_made
as-one-list t typed sound ls run words room few enough =
    let qs : List Call = asks (calls ls) in
    let fits : Fits (list_of ls) room = record { calls = length qs; multiple = length-laid-out qs; most = few; space = enough } in
    of-a-list t (list_of ls) room (λ h. h ≡ all_made t (calls_of (list_of ls)) room)
    (λ unsound. absurd (unsound sound)) (λ _ misfit. absurd (misfit fits)) (λ _ _. refl)
    ∙ rw (calls-laid-out qs, answers-said t (calls ls), thread-said t typed sound (calls ls) words, run.so)

-- and with any room it leaves what the entry promises
by-type : (t : Tables) → Typed t → Sound t → (qs : List Call) → AllWords t qs → Each ByType t qs
unfolding Each
by-type t typed sound [] w = tt
by-type t typed sound (q ∷ qs) w =
    let k = demand-2 t typed sound q w.0 in
    ((typed, w.0), by-type (next t q) k.typed k.sound qs w.1)

pub promised-lines : (t : Tables) → Typed t → Sound t → (ls : List Line) → AllWords t (asks (calls ls)) → (room : List ℕ)
    → PromisedList t (list_of ls) room (hand_over t (list_of ls) room)
promised-lines t typed sound ls words room =
    promised-list t (list_of ls) room refl (λ _ _. rw (calls-laid-out (asks (calls ls))) (by-type t typed sound (asks (calls ls)) words))

-- ---- the lines of the examples: what each call says by itself
-- 01's five calls; post 7 by No. 2
abbrev pub sample : List Line
sample =
    create_task 5 ⇒ said 0 0 1 (T 1)
    ∷ create_semaphore 0 0 ⇒ said 0 0 0 (T 1)
    ∷ pend 0 forever ⇒ said 0 2 0 (T 0)
    ∷ post 0 ⇒ said 0 0 1 (T 1)
    ∷ post 7 ⇒ said 11 0 3 (T 1)
    ∷ []

abbrev pub one_task : List Line
one_task = create_task 5 ⇒ said 0 0 1 (T 1) ∷ []

-- a priority that 16 levels do not have; two numbers that no call has, more than a byte holds
abbrev pub bad_priority : List Line
bad_priority = create_task 16 ⇒ said 4 0 0 (T 0) ∷ create_task 5 ⇒ said 0 0 1 (T 1) ∷ []

abbrev pub bad_numbers : List Line
bad_numbers =
    Runs.asked 256 0 0 0 0 ⇒ said 1 0 0 (T 0)
    ∷ Runs.asked 4294967295 0 0 0 0 ⇒ said 1 0 0 (T 0)
    ∷ create_task 5 ⇒ said 0 0 1 (T 1)
    ∷ []

-- bits 1 and 2 are posted; and-mask 5 is bits 0 and 2, not all posted, and or-mask 2 is bit 1, which is matched and cleared
abbrev pub matching : List Line
matching =
    create_event ⇒ said 0 0 0 (T 0)
    ∷ post_event 0 6 ⇒ said 0 0 0 (T 0)
    ∷ pend_event 0 5 2 0 ⇒ said 0 0 2 (T 0)
    ∷ pend_event 0 5 2 0 ⇒ said 0 1 0 (T 0)
    ∷ []

-- task 1 begins to wait; then, from there, task 2 does too, and two posts wake them in turn
abbrev pub one_waits : List Line
one_waits =
    create_task 5 ⇒ said 0 0 1 (T 1)
    ∷ create_task 5 ⇒ said 0 0 2 (T 1)
    ∷ create_semaphore 0 0 ⇒ said 0 0 0 (T 1)
    ∷ pend 0 forever ⇒ said 0 2 0 (T 2)
    ∷ []

abbrev pub both_woken : List Line
both_woken =
    pend 0 forever ⇒ said 0 2 0 (T 0)
    ∷ post 0 ⇒ said 0 0 1 (T 1)
    ∷ post 0 ⇒ said 0 0 2 (T 1)
    ∷ []

to-sample : Stepped fresh sample
unfolding computed pass in_words
to-sample = by-steps fresh fresh-typed fresh-is-sound sample refl refl

pub to-one-task : Stepped fresh one_task
unfolding computed pass in_words
to-one-task = by-steps fresh fresh-typed fresh-is-sound one_task refl refl

pub to-bad-priority : Stepped fresh bad_priority
unfolding computed pass in_words
to-bad-priority = by-steps fresh fresh-typed fresh-is-sound bad_priority refl refl

to-bad-numbers : Stepped fresh bad_numbers
unfolding computed pass in_words
to-bad-numbers = by-steps fresh fresh-typed fresh-is-sound bad_numbers refl refl

to-matching : Stepped fresh matching
unfolding computed pass in_words
to-matching = by-steps fresh fresh-typed fresh-is-sound matching refl refl

pub to-one-waits : Stepped fresh one_waits
unfolding computed pass in_words
to-one-waits = by-steps fresh fresh-typed fresh-is-sound one_waits refl refl

pub to-both-woken : Stepped (in_steps fresh one_waits).now both_woken
unfolding computed pass in_words
to-both-woken = by-steps (in_steps fresh one_waits).now to-one-waits.typed to-one-waits.sound both_woken refl refl

-- the seven of both
pub to-seven : Stepped fresh (one_waits ++ both_woken)
unfolding computed pass in_words
to-seven = by-steps fresh fresh-typed fresh-is-sound (one_waits ++ both_woken) refl refl

-- ---- the examples
-- room for n words, with 99 in each
abbrev pub nines : ℕ → List ℕ
nines n = replicate n 99

-- these words, handed over on tables t with this room, are accepted: they leave the tables as after these lines, and in the room these words
abbrev pub Accepted : Tables → List Line → List ℕ → List ℕ → List ℕ → Thread → Type 0
Accepted t ls words room out x = hand_over t words room ≡ handed (after t (asks (calls ls))) out (answer 0 0 0) x

-- they are refused with this code: tables and room are as they were
abbrev pub Refused : Tables → List ℕ → List ℕ → ℕ → Thread → Type 0
Refused t words room code x = hand_over t words room ≡ handed t room (answer code 0 0) x

abbrev pub sample_words : List ℕ
sample_words =
    0x00 ∷ 5 ∷ 0 ∷ 0 ∷ 0
    ∷ 0x20 ∷ 0 ∷ 0 ∷ 0 ∷ 0
    ∷ 0x22 ∷ 0 ∷ 4294967295 ∷ 0 ∷ 0
    ∷ 0x23 ∷ 0 ∷ 0 ∷ 0 ∷ 0
    ∷ 0x23 ∷ 7 ∷ 0 ∷ 0 ∷ 0
    ∷ []

-- one call: a task of priority 5
abbrev pub create_words : List ℕ
create_words = 0x00 ∷ 5 ∷ 0 ∷ 0 ∷ 0 ∷ []

-- the first of two lists, and the tables that it leaves
abbrev pub first_words : List ℕ
first_words =
    0x00 ∷ 5 ∷ 0 ∷ 0 ∷ 0
    ∷ 0x00 ∷ 5 ∷ 0 ∷ 0 ∷ 0
    ∷ 0x20 ∷ 0 ∷ 0 ∷ 0 ∷ 0
    ∷ 0x22 ∷ 0 ∷ 4294967295 ∷ 0 ∷ 0
    ∷ []

abbrev pub after_first : Tables
after_first = (hand_over fresh first_words (nines 12)).tables

pub record Lists : Type 0 where
  -- "five to a call (number, four arguments)", "fills three words for each (code, outcome, value)", "Answer words past the last call stay as they were."
  pub five-calls : Accepted fresh sample sample_words (nines 17)
      (0 ∷ 0 ∷ 1 ∷ 0 ∷ 0 ∷ 0 ∷ 0 ∷ 2 ∷ 0 ∷ 0 ∷ 0 ∷ 1 ∷ 11 ∷ 0 ∷ 3 ∷ 99 ∷ 99 ∷ []) (T 1)
  -- the second argument is the and-mask, the third the or-mask
  pub arguments : Accepted fresh matching
      (0x30 ∷ 0 ∷ 0 ∷ 0 ∷ 0 ∷ 0x33 ∷ 0 ∷ 6 ∷ 0 ∷ 0 ∷ 0x32 ∷ 0 ∷ 5 ∷ 2 ∷ 0 ∷ 0x32 ∷ 0 ∷ 5 ∷ 2 ∷ 0 ∷ []) (nines 12)
      (0 ∷ 0 ∷ 0 ∷ 0 ∷ 0 ∷ 0 ∷ 0 ∷ 0 ∷ 2 ∷ 0 ∷ 1 ∷ 0 ∷ []) (T 0)
  -- "The final tables and every answer must equal those of the same calls made one after the other.": also over two lists
  pub five-one-by-one : fresh runs sample
  pub seven-one-by-one : fresh runs (one_waits ++ both_woken)
  pub first-list : Accepted fresh one_waits first_words (nines 12) (0 ∷ 0 ∷ 1 ∷ 0 ∷ 0 ∷ 2 ∷ 0 ∷ 0 ∷ 0 ∷ 0 ∷ 2 ∷ 0 ∷ []) (T 2)
  pub second-list : Accepted after_first both_woken
      (0x22 ∷ 0 ∷ 4294967295 ∷ 0 ∷ 0 ∷ 0x23 ∷ 0 ∷ 0 ∷ 0 ∷ 0 ∷ 0x23 ∷ 0 ∷ 0 ∷ 0 ∷ 0 ∷ []) (nines 9)
      (0 ∷ 2 ∷ 0 ∷ 0 ∷ 0 ∷ 1 ∷ 0 ∷ 0 ∷ 2 ∷ []) (T 1)
  -- "Refused calls do not stop the rest."
  pub past-priority : Accepted fresh bad_priority (0x00 ∷ 16 ∷ 0 ∷ 0 ∷ 0 ∷ 0x00 ∷ 5 ∷ 0 ∷ 0 ∷ 0 ∷ []) (nines 6) (4 ∷ 0 ∷ 0 ∷ 0 ∷ 0 ∷ 1 ∷ []) (T 1)
  pub past-numbers : Accepted fresh bad_numbers (256 ∷ 0 ∷ 0 ∷ 0 ∷ 0 ∷ 4294967295 ∷ 0 ∷ 0 ∷ 0 ∷ 0 ∷ 0x00 ∷ 5 ∷ 0 ∷ 0 ∷ 0 ∷ []) (nines 9)
      (1 ∷ 0 ∷ 0 ∷ 1 ∷ 0 ∷ 0 ∷ 0 ∷ 0 ∷ 1 ∷ []) (T 1)
  -- "A list accepted, even an empty one, answers code, outcome and value 0 and the last thread."
  pub empty : hand_over fresh [] [] ≡ handed fresh [] (answer 0 0 0) (T 0)
  -- "code 4 for the whole list, nothing done": "if its length is not a multiple of five"
  pub one_word : Refused fresh (0x00 ∷ []) (nines 9) 4 (T 0)
  pub four-words : Refused fresh (0x00 ∷ 5 ∷ 0 ∷ 0 ∷ []) (nines 9) 4 (T 0)
  pub six-words : Refused fresh (0x00 ∷ 5 ∷ 0 ∷ 0 ∷ 0 ∷ 0 ∷ []) (nines 9) 4 (T 0)
  -- "exceeds 256 calls"
  pub no_call_lem : bad_list 0 0 ≡ false
  pub calls-256 : bad_list 1280 768 ≡ false
  pub one_word_more : bad_list 1281 776 ≡ true
  pub four-words-more : bad_list 1284 776 ≡ true
  pub calls-257 : bad_list 1285 776 ≡ true
  -- "or the answer room is short"
  pub calls-256-short : bad_list 1280 767 ≡ true
  pub five-exact : Accepted fresh sample sample_words (nines 15) (0 ∷ 0 ∷ 1 ∷ 0 ∷ 0 ∷ 0 ∷ 0 ∷ 2 ∷ 0 ∷ 0 ∷ 0 ∷ 1 ∷ 11 ∷ 0 ∷ 3 ∷ []) (T 1)
  pub five-short : Refused fresh sample_words (nines 14) 4 (T 0)
  pub one-exact : Accepted fresh one_task create_words (nines 3) (0 ∷ 0 ∷ 1 ∷ []) (T 1)
  pub one-short : Refused fresh create_words (nines 2) 4 (T 0)
  -- "nothing done": the thread that ran runs on
  pub thread-kept : Refused (after fresh (asks (calls one_task))) (0x00 ∷ 5 ∷ 0 ∷ 0 ∷ []) (nines 9) 4 (T 1)
  -- "code 10 comes before it": of a list that is good, of none, and of one that would be refused with 4
  pub unsound-good : Refused (fresh_with 17) create_words (nines 3) 10 (T 0)
  pub unsound-none : Refused (fresh_with 17) [] [] 10 (T 0)
  pub unsound-bad : Refused (fresh_with 17) (0x00 ∷ 5 ∷ 0 ∷ 0 ∷ []) (nines 3) 10 (T 0)
  -- and with it the thread is T0, also where task 1 is the current one
  pub unsound-thread : Refused stray create_words (nines 3) 10 (T 0)

-- lines from fresh tables, as one list
pub from-fresh : (ls : List Line) → Stepped fresh ls → (room : List ℕ) → length (asks (calls ls)) ≤ 256 → length (asks (calls ls)) * 3 ≤ length room
    → hand_over fresh (list_of ls) room ≡ left_by fresh ls room
from-fresh ls run room = as-one-list fresh fresh-typed fresh-is-sound ls run.answers run.words room

-- the second list, on what the first one left
pub then-woken : hand_over after_first (list_of both_woken) (nines 9) ≡ left_by after_first both_woken (nines 9)
unfolding laid_out
then-woken =
    let u : Tables = (in_steps fresh one_waits).now in
    let left = from-fresh one_waits to-one-waits (nines 12) (omega arith) (omega arith) in
    subst (λ (v : Tables). hand_over v (list_of both_woken) (nines 9) ≡ left_by v both_woken (nines 9))
    (sym (ap (λ (h : Handed). h.tables) left ∙ to-one-waits.now))
    (as-one-list u to-one-waits.typed to-one-waits.sound both_woken to-both-woken.answers to-both-woken.words (nines 9) (omega arith) (omega arith))

-- ---- refusals: on sound tables, and on others
refused-4 : (t : Tables) → Sound t → (ws room : List ℕ) → bad_list (length ws) (length room) ≡ true
    → hand_over t ws room ≡ handed t room (answer 4 0 0) (thread_in t)
unfolding nothing_done
refused-4 t s ws room bad = bad-left t ws room (means-sound t s) bad ∙ rw (means-sound t s)

pub task-0-runs : thread_in fresh ≡ T 0
unfolding computed
task-0-runs = refl

fresh-refuses : (ws room : List ℕ) → bad_list (length ws) (length room) ≡ true → Refused fresh ws room 4 (T 0)
fresh-refuses ws room bad = refused-4 fresh fresh-is-sound ws room bad ∙ rw task-0-runs

empty_left : hand_over fresh [] [] ≡ handed fresh [] (answer 0 0 0) (T 0)
unfolding laid_out words_of after says Each
empty_left = as-one-list fresh fresh-typed fresh-is-sound [] record { so = refl } tt [] (omega arith) (omega arith) ∙ rw task-0-runs

-- after lines from fresh tables the thread of the last one runs
pub runs_last : (ls : List Line) → Stepped fresh ls → thread_in (after fresh (asks (calls ls))) ≡ thread_said (thread_in fresh) (answers ls)
runs_last ls run = thread-said fresh fresh-typed fresh-is-sound (calls ls) run.words ∙ rw run.answers.so

still_one : Refused (after fresh (asks (calls one_task))) (0x00 ∷ 5 ∷ 0 ∷ 0 ∷ []) (nines 9) 4 (T 1)
unfolding bad_list
still_one = refused-4 (after fresh (asks (calls one_task))) (rw to-one-task.now to-one-task.sound) _ _ refl ∙ rw (runs_last one_task to-one-task)

pub levels-17 : sound (fresh_with 17) ≡ false
unfolding computed
levels-17 = refl

pub refused-10 : (t : Tables) → sound t ≡ false → (ws room : List ℕ) → Refused t ws room 10 (T 0)
unfolding nothing_done
refused-10 t e ws room = unsound-left t ws room e ∙ rw e

pub lists : Lists
unfolding laid_out words_of bad_list
lists =
    record {
      five-calls = from-fresh sample to-sample (nines 17) (omega arith) (omega arith);
      arguments = from-fresh matching to-matching (nines 12) (omega arith) (omega arith);
      five-one-by-one = to-sample.answers;
      seven-one-by-one = to-seven.answers;
      first-list = from-fresh one_waits to-one-waits (nines 12) (omega arith) (omega arith);
      second-list = then-woken;
      past-priority = from-fresh bad_priority to-bad-priority (nines 6) (omega arith) (omega arith);
      past-numbers = from-fresh bad_numbers to-bad-numbers (nines 9) (omega arith) (omega arith);
      empty = empty_left;
      one_word = fresh-refuses _ _ refl;
      four-words = fresh-refuses _ _ refl;
      six-words = fresh-refuses _ _ refl;
      no_call_lem = refl;
      calls-256 = refl;
      one_word_more = refl;
      four-words-more = refl;
      calls-257 = refl;
      calls-256-short = refl;
      five-exact = from-fresh sample to-sample (nines 15) (omega arith) (omega arith);
      five-short = fresh-refuses _ _ refl;
      one-exact = from-fresh one_task to-one-task (nines 3) (omega arith) (omega arith);
      one-short = fresh-refuses _ _ refl;
      thread-kept = still_one;
      unsound-good = refused-10 (fresh_with 17) levels-17 _ _;
      unsound-none = refused-10 (fresh_with 17) levels-17 _ _;
      unsound-bad = refused-10 (fresh_with 17) levels-17 _ _;
      unsound-thread = refused-10 stray not_sound _ _;
    }
