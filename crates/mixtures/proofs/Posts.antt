-- Nos. 8 and 12 of a mixture: its calls are calls one after the other, and its history is theirs.
use Prim.Native.Nat.{ℕ}
use mathlib.Core.Path.{◌≡◌, sym, ap, subst, ◌∙◌}
use mathlib.Core.List.{List, [], ◌∷◌, append-ne-nil_of_right_ne-nil, cons≢nil}
use Rattle.rules.specs.Tables.{Typed}
use Rattle.rules.specs.Fresh.{made_fresh}
use Rattle.rules.specs.Sound.{Sound}
use Rattle.rules.specs.declared.Answer.{Answer}
use Rattle.rules.specs.declared.Tables.{Tables}
use Rattle.runs.specs.Run.{ByType, made, next, after, Each, AllWords}
use Rattle.demands.proofs.Two.{made-fresh-safe}
use Rattle.demands.proofs.Lists.{kept-along}
use Rattle.woken_task.specs.WokenTask.{Post, Tells, ValueTells, OfAllThree, semaphore_post, event_post, mailbox_post}
use Rattle.woken_task.proofs.WokenTask.{woken-task}
use Rattle.no_post_lost.specs.NoPostLost.{CallAndAnswer, history, LastSet, Counting, Balanced}
use Rattle.no_post_lost.proofs.NoPostLost.{no-post-lost, no-post-lost-from-fresh}
use Rattle.mixtures.specs.Mixtures.{Piece, Mixture, tables_after, calls_made, history_of}
use Rattle.mixtures.specs.Shown.{asks, MixedTells, NoPostLostMixed, NoPostLostMixedFromFresh}
use Rattle.mixtures.proofs.Appended.{each-split, each_of}
use Rattle.mixtures.proofs.DemandThree.{place_in}
use Rattle.mixtures.proofs.Mixtures.{mixtures-are-calls}
use Rattle.rules.specs.Answer.{Words}
use Rattle.rules.specs.declared.Call.{Call}

-- ---- No. 8
-- a call of the history was made on sound tables, and what the caller has of it is its answer there
mixed-tells : (p : Post) → ValueTells p → MixedTells p
unfolding Each
mixed-tells p tells t sound ps m before e since split number code =
    let a = mixtures-are-calls t sound ps m in
    let place = place_in before t (calls_made ps) e since (sym a.history ∙ split) in
    let (first, here) =
    each-split ByType t (asks before) (e.asked ∷ asks since) (subst (λ (qs : List Call). Each ByType t qs) place.calls a.types) in
    let u : Tables = after t (asks before) in
    let accepted : (made u e.asked).answer.code ≡ 0 = ap (λ (r : Answer). r.code) (sym place.answer) ∙ code in
    subst (λ (r : Answer). Tells p u e.asked r (next u e.asked)) (sym place.answer)
    (tells u here.0.0 (kept-along t sound (asks before) first).1 e.asked number accepted)

pub woken-task-mixed : OfAllThree MixedTells
woken-task-mixed =
    record {
      semaphores = mixed-tells semaphore_post woken-task.semaphores;
      events = mixed-tells event_post woken-task.events;
      mailboxes = mixed-tells mailbox_post woken-task.mailboxes;
    }

-- ---- No. 12: what holds of the calls' own history and tables holds of what the caller has
module _ (t : Tables) (sound : Sound t) (ps : List Piece) (m : Mixture t ps) where
  words : AllWords t (calls_made ps)
  words = each_of ByType (λ u q. Words q) (λ u q types. types.1) t (calls_made ps) (mixtures-are-calls t sound ps m).types

  told : (P : List CallAndAnswer → Tables → Type 0) → P (history t (calls_made ps)) (after t (calls_made ps)) → P (history_of ps) (tables_after t ps)
  told P p = let a = mixtures-are-calls t sound ps m in rw (a.history, a.tables) p

-- the first call tells that the arrays have their types' lengths; without one there is no history
typed-first : (t : Tables) (qs : List Call) → Each ByType t qs → (s : ℕ) → LastSet s (history t qs) → Typed t
unfolding Each history
typed-first t [] types s x = absurd (append-ne-nil_of_right_ne-nil x.before cons≢nil (sym x.split))
typed-first t (q ∷ qs) types s x = types.0.0

pub no-post-lost-mixed : NoPostLostMixed
no-post-lost-mixed t sound ps m s now x =
    let a = mixtures-are-calls t sound ps m in
    let typed : Typed t = typed-first t (calls_made ps) a.types s (subst (λ (h : List CallAndAnswer). LastSet s h) a.history x) in
    told t sound ps m (λ h u. Counting s u → (y : LastSet s h) → Balanced s h y u)
    (no-post-lost t typed sound (calls_made ps) (words t sound ps m) s) now x

pub no-post-lost-mixed-from-fresh : NoPostLostMixedFromFresh
no-post-lost-mixed-from-fresh n ps m s =
    let t : Tables = (made_fresh n).tables in
    let sound : Sound t = (made-fresh-safe n).1 in
    told t sound ps m (λ h u. Counting s u → (x : LastSet s h) × Balanced s h x u)
    (no-post-lost-from-fresh n (calls_made ps) (words t sound ps m) s)
