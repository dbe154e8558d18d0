-- "Demand 3 counts each call of a list as one call.": in one list task 1 begins to wait, then task 2 behind it, and a post wakes task 1. A list that is refused
-- follows, and a post by a single call. Every premise of demand 3 is met for task 2, k is 1, and by the theorem one of the two posts served it.
use Prim.{tt}
use Prim.Native.Nat.{ℕ}
use mathlib.Core.Path.{◌≡◌, refl, ap, ◌∙◌}
use mathlib.Core.List.{List, [], ◌∷◌, ◌++◌}
use native.Mathlib.Omega.{arith}
use lib.ListN.{length, drop}
use Rattle.rules.specs.Answer.{answer, asked, Words}
use Rattle.rules.specs.Fresh.{fresh}
use Rattle.rules.specs.Lines.{line, semaphore_line}
use Rattle.rules.specs.Sound.{Sound}
use Rattle.rules.specs.Tables.{Typed, forever, current, semaphore, KIND}
use Rattle.rules.specs.declared.Tables.{Tables}
use Rattle.rules.proofs.Agree.{means-sound}
use Rattle.rules.proofs.Computed.{computed}
use Rattle.rules_laws.proofs.Runs as Runs
use Rattle.rules_laws.proofs.Runs.{Line, Said, ◌⇒◌, said, calls, answers, T, post}
use Rattle.runs.specs.Run.{made, next, after}
use Rattle.runs.specs.CallList.{bad_list, Handed, nothing_done, hand_over}
use Rattle.runs.specs.Turn.{ServedIn}
use Rattle.runs.proofs.CallList.{calls-laid-out, bad-left}
use Rattle.demands.specs.Lists.{PromisedList}
use Rattle.demands.specs.Three.{pend}
use Rattle.rules_laws.proofs.Fresh.{fresh-typed, fresh-is-sound}
use Rattle.demands.proofs.Promised.{promised}
use Rattle.demands.proofs.Lists.{promised-list}
use Rattle.no_post_lost.specs.NoPostLost.{history, how_many}
use Rattle.mixtures.specs.Mixtures.{Piece, single, list, Mixture, calls_made, history_of}
use Rattle.mixtures.specs.Shown as Shown
use Rattle.mixtures.specs.Shown.{Begins}
use Rattle.mixtures.proofs.Mixtures.{mixtures-are-calls}
use Rattle.mixtures.proofs.DemandThree.{demand-3-mixed}
use Rattle.demand_2_soundness.proofs.RunsBySteps.{asks, in_words}
use Rattle.demands_examples.proofs.BySteps.{pass}
use Rattle.demands_examples.proofs.Posts.{told, history-told}
use Rattle.demands_examples.proofs.Lists.{in_steps, Stepped, by-steps, list_of, left_by, promised-lines, nines, one_waits, to-one-waits, from-fresh}
use Rattle.rules.specs.declared.Call.{Call}

-- ---- task 1 waits, then task 2 behind it, and one post wakes task 1: six calls in one list
abbrev in_one_list : List Line
in_one_list = one_waits ++ (Runs.pend 0 forever ⇒ said 0 2 0 (T 0) ∷ post 0 ⇒ said 0 0 1 (T 1) ∷ [])

-- then one call by itself
abbrev one_more : List Line
one_more = post 0 ⇒ said 0 0 2 (T 1) ∷ []

abbrev all : List Line
all = in_one_list ++ one_more

to-list : Stepped fresh in_one_list
unfolding computed pass in_words
to-list = by-steps fresh fresh-typed fresh-is-sound in_one_list refl refl

to-all : Stepped fresh all
unfolding computed pass in_words
to-all = by-steps fresh fresh-typed fresh-is-sound all refl refl

-- between them a list of four words, which is refused
abbrev four_words : List ℕ
four_words = 0x23 ∷ 0 ∷ 0 ∷ 0 ∷ []

abbrev left_first : Handed
left_first = hand_over fresh (list_of in_one_list) (nines 18)

abbrev left_bad : Handed
left_bad = hand_over left_first.tables four_words (nines 3)

abbrev posted : Call
posted = asked 0x23 0 0 0 0

abbrev pub pieces : List Piece
pieces =
    list record { words = list_of in_one_list; room = nines 18; left = left_first }
    ∷ list record { words = four_words; room = nines 3; left = left_bad }
    ∷ single record { call = posted; left = made left_bad.tables posted }
    ∷ []

-- ---- what each was made on: the tables after the first list, which are safe
first-left : left_first ≡ left_by fresh in_one_list (nines 18)
first-left = from-fresh in_one_list to-list (nines 18) (omega arith) (omega arith)

after_first : left_first.tables ≡ (in_steps fresh in_one_list).now
after_first = ap (λ (h : Handed). h.tables) first-left ∙ to-list.now

bad-is : (t : Tables) → Sound t → hand_over t four_words (nines 3) ≡ nothing_done t (nines 3) 4
unfolding bad_list
bad-is t sound = bad-left t four_words (nines 3) (means-sound t sound) refl

abbrev SafeThere : Tables → Type 0
SafeThere t = Typed t × Sound t

first-safe : SafeThere left_first.tables
first-safe = rw after_first (to-list.typed, to-list.sound)

bad-promised : (t : Tables) → Sound t → PromisedList t four_words (nines 3) (hand_over t four_words (nines 3))
unfolding nothing_done
bad-promised t sound =
    promised-list t four_words (nines 3) refl
    (λ _ code. absurd (omega (arith, ap (λ (h : Handed). h.answer.code) (bad-is t sound), code)))

after-bad : left_bad.tables ≡ left_first.tables
unfolding nothing_done
after-bad = ap (λ (h : Handed). h.tables) (bad-is left_first.tables first-safe.1)

in-words : Words posted
in-words = record { a = omega arith; b = omega arith; c = omega arith; d = omega arith }

pub mixed : Mixture fresh pieces
unfolding Mixture
mixed = (
  promised-lines fresh fresh-typed fresh-is-sound in_one_list to-list.words (nines 18),
  (
    bad-promised left_first.tables first-safe.1,
    (promised left_bad.tables posted refl (λ _. (rw after-bad first-safe.0, in-words)), tt),
  ),
)

-- ---- the calls of the list and the single one, one after the other, and their history
first-accepted : left_first.answer.code ≡ 0
first-accepted = ap (λ (h : Handed). h.answer.code) first-left

bad-refused : left_bad.answer.code ≡ 4
unfolding nothing_done
bad-refused = ap (λ (h : Handed). h.answer.code) (bad-is left_first.tables first-safe.1)

all-count : calls_made pieces ≡ asks (calls all)
unfolding calls_made
all-count = rw (first-accepted, bad-refused, calls-laid-out (asks (calls in_one_list)))

is-told : history_of pieces ≡ told (calls all) (answers all)
is-told =
    (mixtures-are-calls fresh fresh-is-sound pieces mixed).history
    ∙ ap (history fresh) all-count
    ∙ history-told fresh (calls all)
    ∙ ap (λ (ys : List Said). told (calls all) ys) to-all.answers.so

-- ---- the premises: it begins to wait there, at a semaphore of arrival order
pub begins : Begins 0 (history_of pieces)
begins =
    record {
      before = told (calls one_waits) (answers one_waits);
      answer = answer 0 2 0;
      since = drop 5 (told (calls all) (answers all));
      split = is-told;
      waits = refl;
    }

-- task 2 is the current one there, and task 1 waits, in arrival order
abbrev begun : Tables
begun = after fresh (asks (calls one_waits))

abbrev BehindOne : Tables → Type 0
BehindOne t = (current t.state ≡ 2) × (line t.lines (semaphore_line 0) ≡ 1 ∷ []) × (semaphore t.semaphores 0 KIND ≡ 0)

by-computing : BehindOne (in_steps fresh one_waits).now
unfolding computed pass
by-computing = (refl, refl, refl)

pub in-begun : BehindOne begun
in-begun = rw to-one-waits.now by-computing

-- ---- so one of the two posts served task 2: k is 1
pub served : ServedIn 0 2 1 (next begun (pend 0)) (asked 0x23 0 0 0 0 ∷ asked 0x23 0 0 0 0 ∷ [])
unfolding Shown.asks how_many begins
served =
    let turn = demand-3-mixed fresh fresh-is-sound pieces mixed 0 begins (omega (arith, in-begun.2)) in
    rw (in-begun.0, in-begun.1) at (turn.in_time (omega (arith, ap length in-begun.1)))
