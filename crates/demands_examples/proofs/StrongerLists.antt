-- Request No. 4 says no more than is true: statements that count a list's calls otherwise, or say more of its code, its thread or its answers, and of each a
-- list of one or two calls that denies it. What such a list leaves is what its lines say (`Lists`), and two threads, two codes or two lengths differ.
use Prim.{tt}
use Prim.Native.Nat.{ℕ, ◌≤◌}
use mathlib.Core.Path.{◌≡◌, refl, sym, ap, ◌∙◌}
use mathlib.Core.Logic.{◌≢◌}
use mathlib.Core.Bool.{true≢false, cond as if}
use mathlib.Core.List.{List, [], ◌∷◌, ◌++◌, append-nil}
use native.Mathlib.Omega.{arith}
use lib.Dec.{eqb}
use lib.ListN.{length, get_or}
use Rattle.rules.specs.Fresh.{fresh, fresh_with}
use Rattle.rules.specs.Sound.{Sound}
use Rattle.rules.specs.declared.Tables.{Tables}
use Rattle.rules.proofs.Agree.{means-sound}
use Rattle.rules.proofs.Computed.{computed}
use Rattle.rules_laws.proofs.Runs.{Line, ◌⇒◌, said, says, calls, T, create_task}
use Rattle.runs.specs.Run.{made, next, after}
use Rattle.runs.specs.CallList.{first_calls, calls_of, laid_out, Handed, hand_over}
use Rattle.runs.proofs.CallList.{calls-laid-out, length-answers}
use Rattle.demands.specs.One.{thread_of}
use Rattle.demands.specs.Lists.{Fits, PromisedList}
use Rattle.rules_laws.proofs.Fresh.{fresh-sound, fresh-typed, fresh-is-sound}
use Rattle.demands.proofs.Lists.{promised-list}
use Rattle.mixtures.specs.Mixtures.{HandedList, Piece, single, list, Mixture, tables_after, if_accepted, calls_made, answers_had}
use Rattle.mixtures.proofs.Mixtures.{mixtures-are-calls}
use Rattle.demand_2_soundness.proofs.RunsBySteps.{asks, in_words}
use Rattle.demands_examples.proofs.BySteps.{pass}
use Rattle.demands_examples.proofs.Lists.{Stepped, by-steps, thread_in, list_of, left_by, promised-lines, one_task, bad_priority, to-one-task}
use Rattle.demands_examples.proofs.Lists.{to-bad-priority, nines, lists, from-fresh, runs_last, task-0-runs, levels-17, refused-10}
use Rattle.rules.specs.Answer.{asked}
use Rattle.rules.specs.declared.Call.{Call}

-- ---- lines handed over as one list on fresh tables, with any room: a mixture of one piece
abbrev left : List Line → List ℕ → Handed
left ls room = hand_over fresh (list_of ls) room

promised-left : (ls : List Line) → Stepped fresh ls → (room : List ℕ) → PromisedList fresh (list_of ls) room (left ls room)
promised-left ls run room = promised-lines fresh fresh-typed fresh-is-sound ls run.words room

abbrev one_list : List Line → List ℕ → List Piece
one_list ls room = list record { words = list_of ls; room = room; left = left ls room } ∷ []

one_list_lem : (ls : List Line) → Stepped fresh ls → (room : List ℕ) → Mixture fresh (one_list ls room)
unfolding Mixture
one_list_lem ls run room = (promised-left ls run room, tt)

-- ---- the statement over which calls of a list count, so that the true one and others stand side by side
unfoldable pub counted_by : (HandedList → List Call) → List Piece → List Call
counted_by of [] = []
counted_by of (single e ∷ ps) = e.call ∷ counted_by of ps
counted_by of (list l ∷ ps) = of l ++ counted_by of ps

abbrev pub Counts : (HandedList → List Call) → Type 0
Counts of = (t : Tables) → Sound t → (ps : List Piece) → Mixture t ps → tables_after t ps ≡ after t (counted_by of ps)

abbrev pub all_if_accepted : HandedList → List Call
all_if_accepted l = if_accepted l (calls_of l.words)

counted-right : (ps : List Piece) → calls_made ps ≡ counted_by all_if_accepted ps
unfolding calls_made counted_by
counted-right [] = refl
counted-right (single e ∷ ps) = ap (λ (qs : List Call). e.call ∷ qs) (counted-right ps)
counted-right (list l ∷ ps) = ap (λ (qs : List Call). all_if_accepted l ++ qs) (counted-right ps)

pub stated : Counts all_if_accepted
stated t sound ps m = (mixtures-are-calls t sound ps m).tables ∙ ap (after t) (counted-right ps)

-- denied by a list of lines on fresh tables that leaves task i running, where after the calls that would count task j runs
module _ (of : HandedList → List Call) (ls : List Line) (run : Stepped fresh ls) (room : List ℕ) (qs : List Call) (i j : ℕ) where
  denied : of record { words = list_of ls; room = room; left = left ls room } ≡ qs → thread_in (left ls room).tables ≡ T i → thread_in (after fresh qs) ≡ T j
      → i ≢ j → Counts of → ⊥
  unfolding counted_by tables_after
  denied counted here there differ every =
      let same = every fresh fresh-is-sound (one_list ls room) (one_list_lem ls run room) ∙ ap (after fresh) (append-nil _ ∙ counted) in
      let thread : T i ≡ T j = sym here ∙ ap thread_in same ∙ there in
      differ (cc)

-- "nothing done": a list that was refused made no call. One call, with room for two words of its answer
pub not-counting-refused-lists : Counts (λ l. calls_of l.words) → ⊥
unfolding laid_out
not-counting-refused-lists =
    denied (λ l. calls_of l.words) one_task to-one-task (nines 2) (asks (calls one_task)) 0 1 (calls-laid-out (asks (calls one_task)))
    (ap (λ (h : Handed). thread_in h.tables) lists.one-short ∙ task-0-runs)
    (runs_last one_task to-one-task) (λ e. omega arith)

-- "counts each call of a list as one call": two tasks are made, and the second one runs
abbrev two_tasks : List Line
two_tasks = create_task 5 ⇒ said 0 0 1 (T 1) ∷ create_task 6 ⇒ said 0 0 2 (T 2) ∷ []

to-two-tasks : Stepped fresh two_tasks
unfolding computed pass in_words
to-two-tasks = by-steps fresh fresh-typed fresh-is-sound two_tasks refl refl

abbrev first_if_accepted : HandedList → List Call
first_if_accepted l = if_accepted l (first_calls 1 l.words)

two-left : left two_tasks (nines 6) ≡ left_by fresh two_tasks (nines 6)
two-left = from-fresh two_tasks to-two-tasks (nines 6) (omega arith) (omega arith)

pub not-a-list-as-one-call : Counts first_if_accepted → ⊥
unfolding laid_out first_calls
not-a-list-as-one-call =
    denied first_if_accepted two_tasks to-two-tasks (nines 6) (asks (calls one_task)) 2 1 (rw two-left)
    (ap (λ (h : Handed). thread_in h.tables) two-left ∙ runs_last two_tasks to-two-tasks) (runs_last one_task to-one-task) (λ e. omega arith)

-- ---- "code 10 comes before it": also where the list would be refused with 4. One word, on tables with 17 levels
abbrev pub FourWhateverTheTables : Type 0
FourWhateverTheTables =
    (t : Tables) (words room : List ℕ) (s : Handed) → PromisedList t words room s → (Fits words room → ⊥) → s.answer.code ≡ 4

never-sound : Sound (fresh_with 17) → ⊥
never-sound s = true≢false (sym (means-sound (fresh_with 17) s) ∙ levels-17)

pub not-four-before-ten : FourWhateverTheTables → ⊥
not-four-before-ten every =
    let p = promised-list (fresh_with 17) (0 ∷ []) [] refl (λ s. absurd (never-sound s)) in
    let ten = ap (λ (h : Handed). h.answer.code) (refused-10 (fresh_with 17) levels-17 (0 ∷ []) []) in
    omega (arith, ten, every (fresh_with 17) (0 ∷ []) [] _ p (λ f. omega (arith, f.multiple)))

-- ---- "answers .. the last thread": not the one that ran before
abbrev pub ThreadFromBefore : Type 0
ThreadFromBefore = (t : Tables) → Sound t → (words room : List ℕ) (s : Handed) → PromisedList t words room s → s.thread ≡ thread_of t

pub not-the-thread-from-before : ThreadFromBefore → ⊥
unfolding laid_out
not-the-thread-from-before every =
    let before : thread_of fresh ≡ T 0 = rw fresh-sound task-0-runs in
    let now = every fresh fresh-is-sound (list_of one_task) (nines 3) _ (promised-left one_task to-one-task (nines 3)) in
    let same : T 1 ≡ T 0 = sym (ap (λ (h : Handed). h.thread) lists.one-exact) ∙ now ∙ before in
    let z : ◌≡◌ {A = ℕ} 1 0 = cc in
    omega arith

-- ---- "Refused calls do not stop the rest.": there are more answers than calls up to the first refused one
unfoldable pub until_refused : Tables → List Call → List Call
until_refused t [] = []
until_refused t (q ∷ qs) = q ∷ if (eqb (made t q).answer.code 0) (until_refused (next t q) qs) []

abbrev pub AnswersUntilRefused : Type 0
AnswersUntilRefused =
    (t : Tables) → Sound t → (ps : List Piece) → Mixture t ps → length (answers_had ps) ≡ length (until_refused t (calls_made ps))

code-4 : (made fresh (asked 0x00 16 0 0 0)).answer.code ≡ 4
unfolding says
code-4 = let e = to-bad-priority.answers.so in cc

-- both calls of the list count
both-count : calls_made (one_list bad_priority (nines 6)) ≡ asks (calls bad_priority)
unfolding calls_made
both-count = rw (from-fresh bad_priority to-bad-priority (nines 6) (omega arith) (omega arith), calls-laid-out (asks (calls bad_priority)))

pub not-stopping-at-a-refusal : AnswersUntilRefused → ⊥
unfolding until_refused
not-stopping-at-a-refusal every =
    let ps : List Piece = one_list bad_priority (nines 6) in
    let m = one_list_lem bad_priority to-bad-priority (nines 6) in
    let two = ap length (mixtures-are-calls fresh fresh-is-sound ps m).answers ∙ length-answers fresh (calls_made ps) ∙ ap length both-count in
    let one = rw (both-count, code-4) at (every fresh fresh-is-sound ps m) in
    omega (arith, two, one)

-- ---- "Answer words past the last call stay": three words for each call do not, and one call has three
abbrev pub FromOneWordACall : Type 0
FromOneWordACall =
    (t : Tables) (words room : List ℕ) (s : Handed) → PromisedList t words room s → (k : ℕ) → length (calls_of words) ≤ k
    → get_or s.answers k 0 ≡ get_or room k 0

pub not-from-one-word-a-call : FromOneWordACall → ⊥
unfolding laid_out
not-from-one-word-a-call every =
    let one = ap length (calls-laid-out (asks (calls one_task))) in
    let same = every fresh (list_of one_task) (nines 3) _ (promised-left one_task to-one-task (nines 3)) 1 (omega arith) in
    omega (arith, same, ap (λ (h : Handed). get_or h.answers 1 0) lists.one-exact)
