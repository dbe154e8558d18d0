-- Demands 1 and 2 hold of a list of calls: what is refused is looked at case by case, and an accepted list is its calls one after the other.
-- In this order: a list fits or is bad; what it leaves; demand 1; demand 2; the whole; its words; the same calls one by one.
use Prim.{tt}
use Prim.Native.Nat.{ℕ, suc, ◌*◌, ◌/◌, ◌%◌, ◌<◌, ◌≤◌}
use mathlib.Core.Path.{◌≡◌, refl, sym, ap, subst, ◌∙◌}
use mathlib.Core.Logic.{◌≢◌, inr, ⊎_elim}
use mathlib.Core.Bool.{true, false, true≢false}
use mathlib.Core.List.{List, [], ◌∷◌}
use native.Mathlib.Omega.{arith}
use borrow.Author.Tests.{eq-eqb, ne_eqb, lt-ltb, le-ltb}
use lib.ListN.{length}
use lib.Seq.{length-sets}
use Rattle.basics.proofs.Laws.{same?, lt-or-le}
use Rattle.basics.proofs.Runs.{get_or-sets-out}
use Rattle.rules.specs.Tables.{Typed}
use Rattle.rules.specs.Answer.{answer}
use Rattle.rules.specs.Sound.{Sound, sound}
use Rattle.rules.proofs.Agree.{sound-means, means-sound}
use Rattle.rules.specs.declared.Answer.{Answer}
use Rattle.rules.specs.declared.Tables.{Tables}
use Rattle.runs.specs.Run.{ByType, made, next, after, Each}
use Rattle.runs.specs.CallList.{calls_of, answers_to, words_of, bad_list, Handed, handed, all_made, nothing_done, hand_over, most_calls, call_words, answer_words}
use Rattle.runs.proofs.CallList.{length-first, length-answers, length-words, answers-stand, laid_out_lem, calls-laid-out, unsound-left, bad-left, good_left}
use Rattle.demand_1_refusals.proofs.First.{by_bool}
use Rattle.demand_2_soundness.proofs.Nothing.{nothing_left_lem}
use Rattle.demands.specs.One.{thread_of}
use Rattle.demands.specs.Two.{Kept}
use Rattle.demands.specs.Sequence.{Entered, Sequence, calls, tables_after}
use Rattle.demands.specs.Lists.{Fits, ListsAreWords, CallsAreLists, ListAnswered, ListKept, PromisedList, answers_of, last_thread, SameOneByOne, ListsAreCalls, ListsCanBeCalls}
use Rattle.demands.proofs.Two.{demand-2}
use Rattle.demands.proofs.Promised as Single
use Rattle.demands.proofs.Sequence.{as-entered}
use Rattle.rules.specs.declared.Call.{Call}

-- ---- a list fits, or it is bad
module _ (ws room : List ℕ) where
  of_test : Fits ws room → bad_list (length ws) (length room) ≡ false
  unfolding bad_list
  of_test f =
      let n : length ws / call_words ≡ f.calls = omega (arith, f.multiple) in
      let whole : length ws % call_words ≡ 0 = omega (arith, f.multiple) in
      rw (n, eq-eqb (length ws % call_words) 0 whole, le-ltb most_calls f.calls f.most, le-ltb (length room) (f.calls * answer_words) f.space)

  pub no-fit : bad_list (length ws) (length room) ≡ true → Fits ws room → ⊥
  no-fit bad f = true≢false (sym bad ∙ of_test f)

  pub fits : bad_list (length ws) (length room) ≡ false → Fits ws room
  unfolding bad_list
  fits good =
      ⊎_elim
      (λ (whole : length ws % call_words ≡ 0).
      ⊎_elim
      (λ (many : most_calls < length ws / call_words).
      absurd (true≢false (sym (rw (eq-eqb (length ws % call_words) 0 whole, lt-ltb most_calls (length ws / call_words) many)) ∙ good)))
      (λ (few : length ws / call_words ≤ most_calls).
      ⊎_elim
      (λ (short : length room < length ws / call_words * answer_words).
      absurd
      (true≢false
      (sym
      (rw (eq-eqb (length ws % call_words) 0 whole, le-ltb most_calls (length ws / call_words) few)
      (rw (lt-ltb (length room) (length ws / call_words * answer_words) short)))
      ∙ good)))
      (λ (enough : length ws / call_words * answer_words ≤ length room).
      record { calls = length ws / call_words; multiple = omega arith; most = few; space = enough })
      (lt-or-le (length room) (length ws / call_words * answer_words)))
      (lt-or-le most_calls (length ws / call_words)))
      (λ (odd : length ws % call_words ≢ 0). absurd (true≢false (sym (rw (ne_eqb (length ws % call_words) 0 odd)) ∙ good)))
      (same? (length ws % call_words) 0)

-- ---- what a list leaves: code 10 on tables that are not sound, code 4 where it does not fit, all calls made else
module _ (t : Tables) (ws room : List ℕ) where
  pub of-a-list : (P : Handed → Type 0) → ((Sound t → ⊥) → P (nothing_done t room 10)) → (Sound t → (Fits ws room → ⊥) → P (nothing_done t room 4))
      → (Sound t → Fits ws room → P (all_made t (calls_of ws) room)) → P (hand_over t ws room)
  of-a-list P ten four none =
      by_bool (sound t)
      (λ e.
      let s : Sound t = sound-means t e in
      by_bool (bad_list (length ws) (length room))
      (λ bad. rw (bad-left t ws room e bad) (four s (no-fit ws room bad)))
      (λ good. rw (good_left t ws room e good) (none s (fits ws room good))))
      (λ e. rw (unsound-left t ws room e) (ten (λ s. true≢false (sym (means-sound t s) ∙ e))))

-- ---- demand 1
calls-fit : (ws room : List ℕ) → Fits ws room → length (calls_of ws) * 3 ≤ length room
calls-fit ws room f =
    let n : length ws / call_words ≡ f.calls = omega (arith, f.multiple) in
    omega (arith, length-first (length ws / call_words) ws, n, f.space)

-- a refusal with code k
refused-list : (t : Tables) (room : List ℕ) (k : ℕ) → nothing_done t room k ≡ handed t room (answer k 0 0) (thread_of t)
unfolding nothing_done
refused-list t room k = refl

module _ (t : Tables) (ws room : List ℕ) where
  unsound-answered : (Sound t → ⊥) → ListAnswered t ws room (nothing_done t room 10)
  unfolding nothing_done
  unsound-answered not_sound =
      record {
        unsound = (λ _. not_sound, λ _. refl);
        bad = (λ e. absurd (omega (arith, e)), λ p. absurd (not_sound p.0));
        accepted = (λ e. absurd (omega (arith, e)), λ p. absurd (not_sound p.0));
        refused = λ _. refused-list t room 10;
        done = λ e. absurd (omega (arith, e));
        each = λ e. absurd (omega (arith, e));
      }

  bad-answered : Sound t → (Fits ws room → ⊥) → ListAnswered t ws room (nothing_done t room 4)
  unfolding nothing_done
  bad-answered s misfit =
      record {
        unsound = (λ e. absurd (omega (arith, e)), λ n. absurd (n s));
        bad = (λ _. (s, misfit), λ _. refl);
        accepted = (λ e. absurd (omega (arith, e)), λ p. absurd (misfit p.1));
        refused = λ _. refused-list t room 4;
        done = λ e. absurd (omega (arith, e));
        each = λ e. absurd (omega (arith, e));
      }

  good-answered : Sound t → Fits ws room → ListAnswered t ws room (all_made t (calls_of ws) room)
  unfolding all_made
  good-answered s f =
      record {
        unsound = (λ e. absurd (omega (arith, e)), λ n. absurd (n s));
        bad = (λ e. absurd (omega (arith, e)), λ p. absurd (p.1 f));
        accepted = (λ _. (s, f), λ _. refl);
        refused = λ n. absurd (n refl);
        done = λ _. refl;
        each = λ _. answers-stand t (calls_of ws) room (calls-fit ws room f);
      }

  pub list-answered : ListAnswered t ws room (hand_over t ws room)
  list-answered = of-a-list t ws room (λ h. ListAnswered t ws room h) unsound-answered bad-answered good-answered

-- ---- demand 2
-- along calls of which it is known what the types say
pub kept-along : (t : Tables) → Sound t → (qs : List Call) → Each ByType t qs
    → Each (λ u q. Kept u q (made u q)) t qs × Sound (after t qs) × (Typed t → Typed (after t qs))
unfolding Each after
kept-along t s [] w = (tt, s, λ typed. typed)
kept-along t s (q ∷ qs) ((typed, words), later) =
    let k = demand-2 t typed s q words in
    let (each, sound, types) = kept-along (next t q) k.sound qs later in
    ((k, each), sound, λ _. types k.typed)

module _ (t : Tables) (ws room : List ℕ) (s : Sound t) where
  bad-kept : ListKept t ws (nothing_done t room 4)
  unfolding nothing_done
  bad-kept =
      record {
        tables = λ e. absurd (omega (arith, e));
        each = λ e. absurd (omega (arith, e));
        tested = λ e. omega (arith, e);
        typed = λ typed. typed;
        sound = s;
        thread = rw (means-sound t s);
        nothing_left = nothing_left_lem t s;
      }

  good-kept : Each ByType t (calls_of ws) → ListKept t ws (all_made t (calls_of ws) room)
  unfolding all_made
  good-kept w =
      let (each, sound, types) = kept-along t s (calls_of ws) w in
      record {
        tables = λ _. refl;
        each = λ _. each;
        tested = λ e. omega (arith, e);
        typed = types;
        sound = sound;
        thread = refl;
        nothing_left = nothing_left_lem (after t (calls_of ws)) sound;
      }

  made_code : (all_made t (calls_of ws) room).answer.code ≡ 0
  unfolding all_made
  made_code = refl

  pub list-kept : ((hand_over t ws room).answer.code ≡ 0 → Each ByType t (calls_of ws)) → ListKept t ws (hand_over t ws room)
  list-kept =
      of-a-list t ws room (λ h. (h.answer.code ≡ 0 → Each ByType t (calls_of ws)) → ListKept t ws h)
      (λ not_sound _. absurd (not_sound s))
      (λ _ _ _. bad-kept)
      (λ _ _ w. good-kept (w made_code))

-- ---- a list that leaves the whole leaves what demands 1 and 2 say of it
pub promised-list : (t : Tables) (ws room : List ℕ) {s : Handed} → s ≡ hand_over t ws room
    → (Sound t → s.answer.code ≡ 0 → Each ByType t (calls_of ws)) → PromisedList t ws room s
promised-list t ws room e types =
    record {
      whole = e;
      answered = subst (λ (x : Handed). ListAnswered t ws room x) (sym e) (list-answered t ws room);
      kept = λ sound. subst (λ (x : Handed). ListKept t ws x) (sym e) (list-kept t ws room sound (rw e at types sound));
      types = types;
    }

-- ---- a list that fits is its calls' words, one after the other
pub lists-are-words : ListsAreWords
lists-are-words ws room f =
    let n : length ws / call_words ≡ f.calls = omega (arith, f.multiple) in
    laid_out_lem (length ws / call_words) ws (omega (arith, n, f.multiple))

pub calls-are-lists : CallsAreLists
calls-are-lists = calls-laid-out

-- ---- the same calls one by one
answers_of_lem : (t : Tables) (es : List Entered) → Sequence t es → answers_of es ≡ answers_to t (calls es)
unfolding answers_of answers_to calls Sequence
answers_of_lem t [] row = refl
answers_of_lem t (e ∷ es) (p, rest) = rw (answers_of_lem e.left.tables es rest, p.whole)

length-calls : (es : List Entered) → length (calls es) ≡ length es
unfolding calls
length-calls [] = refl
length-calls (e ∷ es) = ap suc (length-calls es)

-- the thread that an entry call answers is the one that runs in what it left, so the last one's is that of the last tables
last-thread : (t : Tables) (es : List Entered) → Sequence t es → last_thread (thread_of t) es ≡ thread_of (tables_after t es)
unfolding last_thread tables_after Sequence
last-thread t [] row = refl
last-thread t (e ∷ es) (p, rest) = rw (Single.thread-is t e.call p) (last-thread e.left.tables es rest)

-- of any calls that were made one after the other with room for their answers
made-one-by-one : (t : Tables) (room : List ℕ) → Sound t → (es : List Entered) → Sequence t es → length es * 3 ≤ length room
    → SameOneByOne t room (all_made t (calls es) room) es
unfolding all_made
made-one-by-one t room sound es row enough =
    let a = as-entered t sound es row in
    let rs : List Answer = answers_to t (calls es) in
    let long : length (words_of rs) ≡ length es * 3 =
    length-words rs ∙ ap (λ (n : ℕ). n * 3) (length-answers t (calls es) ∙ length-calls es) in
    record {
      tables = sym a.tables;
      answers =
          rw (answers_of_lem t es row, sym (length-calls es))
          (answers-stand t (calls es) room (omega (arith, length-calls es, enough)));
      fits = enough;
      thread = sym (rw (last-thread t es row, a.tables, means-sound (after t (calls es)) (subst Sound a.tables a.sound)));
      past = λ k behind. get_or-sets-out (words_of rs) room 0 k (inr (omega (arith, long, behind)));
      same_length = length-sets room 0 (words_of rs);
    }

-- what an accepted list left
accepted-left : (t : Tables) (ws room : List ℕ) → Sound t → Fits ws room → hand_over t ws room ≡ all_made t (calls_of ws) room
accepted-left t ws room s f = good_left t ws room (means-sound t s) (of_test ws room f)

pub lists-are-calls : ListsAreCalls
lists-are-calls t ws room s p code es row same =
    let (sound, f) = p.answered.accepted.0 code in
    let enough : length es * 3 ≤ length room = omega (arith, calls-fit ws room f, ap length same, length-calls es) in
    rw (p.whole, accepted-left t ws room sound f, sym same) (made-one-by-one t room sound es row enough)

-- each call of an accepted list can be made by an entry
pub singly : Tables → List Call → List Entered
singly t [] = []
singly t (q ∷ qs) = record { call = q; left = made t q } ∷ singly (next t q) qs

pub singly-row : (t : Tables) → Sound t → (qs : List Call) → Each ByType t qs → Sequence t (singly t qs)
unfolding Sequence Each singly
singly-row t sound [] w = tt
singly-row t sound (q ∷ qs) ((typed, words), later) = (
  Single.promised t q refl (λ _. (typed, words)),
  singly-row (next t q) (demand-2 t typed sound q words).sound qs later,
)

pub singly-calls : (t : Tables) (qs : List Call) → calls (singly t qs) ≡ qs
unfolding calls singly
singly-calls t [] = refl
singly-calls t (q ∷ qs) = ap (λ (l : List Call). q ∷ l) (singly-calls (next t q) qs)

pub lists-can-be-calls : ListsCanBeCalls
lists-can-be-calls t ws room s p code =
    let sound : Sound t = (p.answered.accepted.0 code).0 in
    record {
      entered = singly t (calls_of ws);
      row = singly-row t sound (calls_of ws) (p.types sound code);
      same = singly-calls t (calls_of ws);
    }
