-- Entry calls one after the other answer what `Run.made` says and leave the tables that it leaves, so what holds of their history is `no-post-lost`.
use Prim.Native.Nat.{ℕ}
use mathlib.Core.Path.{◌≡◌, refl, sym}
use mathlib.Core.List.{List, [], ◌∷◌, append-ne-nil_of_right_ne-nil, cons≢nil}
use Rattle.rules.specs.Tables.{Typed}
use Rattle.rules.specs.Fresh.{made_fresh}
use Rattle.rules.specs.Sound.{Sound}
use Rattle.rules.specs.declared.Tables.{Tables}
use Rattle.runs.specs.Run.{after}
use Rattle.demands.specs.Sequence.{Entered, Sequence, calls, tables_after}
use Rattle.demands.proofs.Sequence.{as-entered}
use Rattle.demands.proofs.Two.{made-fresh-safe}
use Rattle.no_post_lost.specs.NoPostLost.{CallAndAnswer, history, LastSet, Counting, Balanced}
use Rattle.no_post_lost.specs.Entered.{history_of, NoPostLostEntered, NoPostLostEnteredFromFresh}
use Rattle.no_post_lost.proofs.NoPostLost.{no-post-lost, no-post-lost-from-fresh}

pub history-entered : (t : Tables) (es : List Entered) → Sequence t es → history_of es ≡ history t (calls es)
unfolding Sequence calls history history_of
history-entered t [] row = refl
history-entered t (e ∷ es) (p, rest) = rw (history-entered e.left.tables es rest, p.whole)

-- what holds of the calls' own history and tables holds of what the entry calls told and left
module _ (t : Tables) (sound : Sound t) (es : List Entered) (row : Sequence t es) where
  told : (P : List CallAndAnswer → Tables → Type 0) → P (history t (calls es)) (after t (calls es)) → P (history_of es) (tables_after t es)
  told P p = rw (history-entered t es row, (as-entered t sound es row).tables) p

  of_calls : Typed t → (s : ℕ) → Counting s (tables_after t es) → (x : LastSet s (history_of es)) → Balanced s (history_of es) x (tables_after t es)
  of_calls typed s =
      told (λ h u. Counting s u → (x : LastSet s h) → Balanced s h x u)
      (no-post-lost t typed sound (calls es) (as-entered t sound es row).words s)

-- the first entry call tells that the arrays have their types' lengths; without one there is no history
pub no-post-lost-entered : NoPostLostEntered
unfolding Sequence history_of
no-post-lost-entered t sound [] row s now x = absurd (append-ne-nil_of_right_ne-nil x.before cons≢nil (sym x.split))
no-post-lost-entered t sound (e ∷ es) row s now x = of_calls t sound (e ∷ es) row (row.0.types sound).0 s now x

pub no-post-lost-entered-from-fresh : NoPostLostEnteredFromFresh
no-post-lost-entered-from-fresh n es row s =
    let t : Tables = (made_fresh n).tables in
    let sound : Sound t = (made-fresh-safe n).1 in
    told t sound es row (λ h u. Counting s u → (x : LastSet s h) × Balanced s h x u)
    (no-post-lost-from-fresh n (calls es) (as-entered t sound es row).words s)
