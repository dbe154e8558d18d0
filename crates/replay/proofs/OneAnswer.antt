-- What `Handed` allows is one answer but for whether the replay was stopped, which hangs on whether its text could be written.
use Prim.Native.Nat.{ℕ}
use mathlib.Core.Path.{◌≡◌, sym, ap, ◌∙◌}
use mathlib.Core.Logic.{◌⊎◌, ⊎_elim}
use mathlib.Core.Bool.{Bool, true, false}
use mathlib.Core.List.{List}
use lib.Dec.{eqb}
use Rattle.desk_parts.specs.Part.{ReplayState, turn}
use Rattle.replay.specs.Turns.{Came, more, failed, stop, HandedIf, Handed}

stops : (next m : ReplayState) → (m ≡ next) ⊎ (m ≡ stop next) → stop m ≡ stop next
stops next m p = ⊎_elim (λ (e : m ≡ next). ap stop e) (λ (e : m ≡ stop next). ap stop e) p

one-stop : (b : Bool) (l next m n : ReplayState) → HandedIf b l next m → HandedIf b l next n → stop m ≡ stop n
one-stop true l next m n p q = ap stop (p ∙ sym q)
one-stop false l next m n p q = stops next m p ∙ sym (stops next n q)

pub handed-one-answer : (r : Came) (c : List ℕ) (l m n : ReplayState) → Handed r c l m → Handed r c l n → stop m ≡ stop n
handed-one-answer r c l m n p q = one-stop (failed r) l (turn (eqb (more r) 0) c l) m n p q
