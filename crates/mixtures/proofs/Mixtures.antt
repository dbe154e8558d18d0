-- A piece of a mixture is its calls one after the other, by what its entry promises; so is a mixture, piece by piece, and what holds of calls holds of it.
use Prim.{tt}
use mathlib.Core.Path.{◌≡◌, refl, sym, ap, subst, ◌∙◌}
use mathlib.Core.Logic.{◌≢◌}
use mathlib.Core.Bool.{false, true≢false}
use mathlib.Core.List.{List, [], ◌∷◌}
use borrow.Author.Tests.{eq-eqb, eqb-true}
use lib.Dec.{eqb}
use Rattle.rules.specs.Answer.{answer}
use Rattle.rules.specs.Dispatch.{running}
use Rattle.rules.specs.Sound.{Sound, sound}
use Rattle.rules.specs.Step.{step_of, call}
use Rattle.rules.proofs.Agree.{sound-means, means-sound}
use Rattle.rules.specs.declared.Step.{Step}
use Rattle.rules.specs.declared.Tables.{Tables}
use Rattle.rules.specs.declared.Thread.{Thread}
use Rattle.rules.specs.declared.Thread.TheVariants.{Task}
use Rattle.runs.specs.Run.{ByType, made, after, Each}
use Rattle.runs.specs.CallList.{answers_to, Handed, nothing_done}
use Rattle.runs.proofs.CallList.{unsound-left}
use Rattle.demand_1_refusals.proofs.First.{by_bool}
use Rattle.demands.specs.One.{Answered, thread_of}
use Rattle.demands.specs.Promised.{Promised}
use Rattle.demands.specs.Sequence.{Entered}
use Rattle.demands.specs.Lists.{PromisedList}
use Rattle.demands.proofs.One.{demand-1}
use Rattle.demands.proofs.Promised.{thread-is}
use Rattle.demands.proofs.Lists.{kept-along}
use Rattle.mixtures.specs.Mixtures.{HandedList, Piece, single, list, tables_of, thread_of_piece, code_of_piece, Mixture, tables_after, thread_after}
use Rattle.mixtures.specs.Mixtures.{codes_of, calls_of_piece, answers_of_piece, calls_made, answers_had}
use Rattle.mixtures.specs.Shown.{MixturesAreCalls, CutAsYouLike, AllTen, UnsoundStay}
use Rattle.mixtures.proofs.Appended.{after-append, answers-append, each_append, each-always, paired-history}

-- ---- a piece made on tables t
pub record PieceMade (t : Tables) (p : Piece) : Type 0 where
  pub tables : tables_of p ≡ after t (calls_of_piece p)
  pub answers : answers_of_piece p ≡ answers_to t (calls_of_piece p)
  pub types : Each ByType t (calls_of_piece p)
  pub sound : Sound (tables_of p)
  pub thread : thread_of_piece p ≡ thread_of (tables_of p)

single-made : (t : Tables) → Sound t → (e : Entered) → Promised t e.call e.left → PieceMade t (single e)
unfolding after answers_to Each
single-made t sound e p =
    record {
      tables = ap (λ (s : Step). s.tables) p.whole;
      answers = rw p.whole;
      types = (p.types sound, tt);
      sound = (p.kept sound).sound;
      thread = thread-is t e.call p;
    }

list-thread : (t : Tables) → Sound t → (l : HandedList) → PromisedList t l.words l.room l.left → l.left.thread ≡ thread_of l.left.tables
list-thread t sound l p = (p.kept sound).thread ∙ rw (means-sound l.left.tables (p.kept sound).sound)

list-made : (t : Tables) → Sound t → (l : HandedList) → PromisedList t l.words l.room l.left → PieceMade t (list l)
unfolding after answers_to Each
list-made t sound l p =
    by_bool (eqb l.left.answer.code 0)
    (λ e.
    let code : l.left.answer.code ≡ 0 = eqb-true l.left.answer.code 0 e in
    record {
      tables = rw e ((p.kept sound).tables code);
      answers = rw e (p.answered.each code);
      types = rw e (p.types sound code);
      sound = (p.kept sound).sound;
      thread = list-thread t sound l p;
    })
    (λ e.
    let refused : l.left.answer.code ≢ 0 = λ z. true≢false (sym (eq-eqb l.left.answer.code 0 z) ∙ e) in
    record {
      tables = rw e (ap (λ (h : Handed). h.tables) (p.answered.refused refused));
      answers = rw e;
      types = rw e tt;
      sound = (p.kept sound).sound;
      thread = list-thread t sound l p;
    })

-- ---- a mixture
-- the first piece, and the mixture of the others
pub piece-first : (t : Tables) → Sound t → (p : Piece) (ps : List Piece) → Mixture t (p ∷ ps) → PieceMade t p × Mixture (tables_of p) ps
unfolding Mixture
piece-first t sound (single e) ps (p, rest) = (single-made t sound e p, rest)
piece-first t sound (list l) ps (p, rest) = (list-made t sound l p, rest)

record Made (t : Tables) (ps : List Piece) : Type 0 where
  pub tables : tables_after t ps ≡ after t (calls_made ps)
  pub answers : answers_had ps ≡ answers_to t (calls_made ps)
  pub types : Each ByType t (calls_made ps)
  pub thread : thread_after (thread_of t) ps ≡ thread_of (tables_after t ps)

all_made : (t : Tables) → Sound t → (ps : List Piece) → Mixture t ps → Made t ps
unfolding tables_after thread_after calls_made answers_had after answers_to Each
all_made t sound [] m = record { tables = refl; answers = refl; types = tt; thread = refl }
all_made t sound (p ∷ ps) m =
    let (first, rest) = piece-first t sound p ps m in
    let later = all_made (tables_of p) first.sound ps rest in
    record {
      tables = later.tables ∙ ap (λ (u : Tables). after u (calls_made ps)) first.tables ∙ sym (after-append t (calls_of_piece p) (calls_made ps));
      answers =
          rw (first.answers, later.answers, first.tables)
          (sym (answers-append t (calls_of_piece p) (calls_made ps)));
      types =
          each_append ByType t (calls_of_piece p) (calls_made ps) first.types
          (subst (λ (u : Tables). Each ByType u (calls_made ps)) first.tables later.types);
      thread = ap (λ (x : Thread). thread_after x ps) first.thread ∙ later.thread;
    }

pub mixtures-are-calls : MixturesAreCalls
mixtures-are-calls t sound ps m =
    let a = all_made t sound ps m in
    let (kept, after-sound, _) = kept-along t sound (calls_made ps) a.types in
    record {
      tables = a.tables;
      answers = a.answers;
      history = rw a.answers (paired-history t (calls_made ps));
      thread = a.thread ∙ rw (means-sound (tables_after t ps) (rw a.tables after-sound));
      answered = each-always (λ u q. Answered u q (made u q)) demand-1 t (calls_made ps);
      kept = kept;
      sound = rw a.tables after-sound;
      types = a.types;
    }

pub cut-as-you-like : CutAsYouLike
cut-as-you-like t sound ps rs m n same =
    let a = mixtures-are-calls t sound ps m in
    let b = mixtures-are-calls t sound rs n in
    record {
      tables = a.tables ∙ ap (after t) same ∙ sym b.tables;
      answers = a.answers ∙ ap (answers_to t) same ∙ sym b.answers;
      thread = a.thread ∙ ap (λ (u : Tables). running u.lines u.state) (a.tables ∙ ap (after t) same ∙ sym b.tables) ∙ sym b.thread;
    }

-- ---- on tables that are not sound: by a single call and by a list, and so piece by piece
single-ten : (t : Tables) → sound t ≡ false → (e : Entered) → Promised t e.call e.left → e.left ≡ step_of t (answer 10 0 0) (Task 0)
unfolding call
single-ten t not_so e p = p.whole ∙ rw not_so

list-ten : (t : Tables) → sound t ≡ false → (l : HandedList) → PromisedList t l.words l.room l.left → l.left ≡ nothing_done t l.room 10
list-ten t not_so l p = p.whole ∙ unsound-left t l.words l.room not_so

piece-ten : (t : Tables) → sound t ≡ false → (p : Piece) (ps : List Piece) → Mixture t (p ∷ ps)
    → (code_of_piece p ≡ 10) × (tables_of p ≡ t) × Mixture (tables_of p) ps
unfolding Mixture nothing_done
piece-ten t not_so (single e) ps (p, rest) =
    let left = single-ten t not_so e p in (ap (λ (s : Step). s.answer.code) left, ap (λ (s : Step). s.tables) left, rest)
piece-ten t not_so (list l) ps (p, rest) =
    let left = list-ten t not_so l p in (ap (λ (h : Handed). h.answer.code) left, ap (λ (h : Handed). h.tables) left, rest)

all-ten : (t : Tables) → sound t ≡ false → (ps : List Piece) → Mixture t ps → AllTen t ps
unfolding codes_of tables_after
all-ten t not_so [] m = record { codes = refl; tables = refl }
all-ten t not_so (p ∷ ps) m =
    let (code, same, rest) = piece-ten t not_so p ps m in
    let later = all-ten t not_so ps (subst (λ (u : Tables). Mixture u ps) same rest) in
    record { codes = rw (code, later.codes); tables = rw same later.tables }

pub unsound-stay : UnsoundStay
unsound-stay t never ps m = by_bool (sound t) (λ e. absurd (never (sound-means t e))) (λ e. all-ten t e ps m)
