-- Demand 3 of a mixture: the call with which a task begins to wait is one of its calls, and the calls since are those that demand 3 speaks of.
use Prim.Native.Nat.{ℕ}
use mathlib.Core.Path.{◌≡◌, refl, sym, ap, subst, ◌∙◌}
use mathlib.Core.List.{List, [], ◌∷◌, ◌++◌, head-eq_of_cons-eq, tail-eq_of_cons-eq, append-ne-nil_of_right_ne-nil, cons≢nil}
use Rattle.rules.specs.Tables.{current}
use Rattle.rules.specs.Lines.{line, semaphore_line}
use Rattle.rules.specs.Sound.{Sound}
use Rattle.rules.specs.declared.Answer.{Answer}
use Rattle.rules.specs.declared.Tables.{Tables}
use Rattle.runs.specs.Run.{ByType, made, next, after, Each, AllWords}
use Rattle.runs.specs.Turn.{posts_on}
use Rattle.demands.specs.Three.{ArrivalOrder, Turn, pend}
use Rattle.demands.proofs.Three.{demand-3}
use Rattle.demands.proofs.Lists.{kept-along}
use Rattle.no_post_lost.specs.NoPostLost.{CallAndAnswer, history, how_many, is_post}
use Rattle.no_post_lost.proofs.DemandThree.{posts-of-demand-3}
use Rattle.mixtures.specs.Mixtures.{Piece, Mixture, tables_after, calls_made, history_of}
use Rattle.mixtures.specs.Shown.{asks, Begins, TurnSince, DemandThreeMixed}
use Rattle.mixtures.proofs.Appended.{after-append, each-split, each_of, asks-history}
use Rattle.mixtures.proofs.Mixtures.{mixtures-are-calls}
use Rattle.rules.specs.Answer.{Words}
use Rattle.rules.specs.declared.Call.{Call}

-- ---- a place in a history: what was asked before it, its answer, and the history since
pub record PlaceIn (t : Tables) (qs : List Call) (before : List CallAndAnswer) (e : CallAndAnswer) (since : List CallAndAnswer) : Type 0 where
  pub calls : qs ≡ asks before ++ (e.asked ∷ asks since)
  pub answer : e.answer ≡ (made (after t (asks before)) e.asked).answer
  pub since-is : since ≡ history (next (after t (asks before)) e.asked) (asks since)

pub place_in : (before : List CallAndAnswer) (t : Tables) (qs : List Call) (e : CallAndAnswer) (since : List CallAndAnswer)
    → history t qs ≡ before ++ (e ∷ since) → PlaceIn t qs before e since
unfolding history asks after
place_in before t [] e since same = absurd (append-ne-nil_of_right_ne-nil before cons≢nil (sym same))
place_in [] t (q ∷ qs) e since same =
    let first = head-eq_of_cons-eq same in
    let rest = tail-eq_of_cons-eq same in
    let all : asks (history (next t q) qs) ≡ qs = asks-history (next t q) qs in
    rw (← first, ← rest)
    record {
      calls = ap (λ (l : List Call). q ∷ l) (sym all);
      answer = refl;
      since-is = ap (history (next t q)) (sym all);
    }
place_in (b ∷ before) t (q ∷ qs) e since same =
    let first = head-eq_of_cons-eq same in
    let later = place_in before (next t q) qs e since (tail-eq_of_cons-eq same) in
    rw (← first)
    record {
      calls = ap (λ (l : List Call). q ∷ l) later.calls;
      answer = later.answer;
      since-is = later.since-is;
    }

-- ---- the turn of a task that began to wait at a place of the history
module _ (t : Tables) (sound : Sound t) (ps : List Piece) (m : Mixture t ps) (s : ℕ) (b : Begins s (history_of ps))
    (arrival : ArrivalOrder s (after t (asks b.before))) where
  -- the tables on which it began
  abbrev v : Tables
  v = after t (asks b.before)

  place : PlaceIn t (calls_made ps) b.before record { asked = pend s; answer = b.answer } b.since
  place = place_in b.before t (calls_made ps) _ b.since (sym (mixtures-are-calls t sound ps m).history ∙ b.split)

  types : Each ByType t (asks b.before) × Each ByType v (pend s ∷ asks b.since)
  types =
      each-split ByType t (asks b.before) (pend s ∷ asks b.since)
      (subst (λ (qs : List Call). Each ByType t qs) place.calls (mixtures-are-calls t sound ps m).types)

  begins : ByType v (pend s)
  unfolding Each
  begins = types.1.0

  words-since : AllWords (next v (pend s)) (asks b.since)
  unfolding Each
  words-since = each_of ByType (λ u q. Words q) (λ u q types. types.1) (next v (pend s)) (asks b.since) types.1.1

  -- the tables now, and the posts since
  now-is : tables_after t ps ≡ after (next v (pend s)) (asks b.since)
  unfolding after
  now-is =
      (mixtures-are-calls t sound ps m).tables ∙ ap (after t) place.calls ∙ after-append t (asks b.before) (pend s ∷ asks b.since)

  posts-are : how_many (is_post s) b.since ≡ posts_on s (next v (pend s)) (asks b.since)
  posts-are = ap (how_many (is_post s)) place.since-is ∙ posts-of-demand-3 s (next v (pend s)) (asks b.since)

  has-turn : Turn s (current v.state) (line v.lines (semaphore_line s)) (next v (pend s))
  has-turn =
      let (typed, words) = begins in
      demand-3 v typed (kept-along t sound (asks b.before) types.0).1 s words.a arrival
      (ap (λ (r : Answer). r.outcome) (sym place.answer) ∙ b.waits)

  pub turn-since : TurnSince s b.since v (tables_after t ps)
  turn-since =
      record {
        turn = has-turn;
        sofar = rw (now-is, posts-are) (has-turn.waits.turn (asks b.since) words-since);
        in_time = rw posts-are (has-turn.waits.in_time (asks b.since) words-since);
        left = now-is;
        words = words-since;
      }

pub demand-3-mixed : DemandThreeMixed
demand-3-mixed t sound ps m s b arrival = turn-since t sound ps m s b arrival
