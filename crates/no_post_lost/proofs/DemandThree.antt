-- The posts counted here are those that demand 3 counts (`runs/specs/Turn`): the two ask for the same three things, in another order.
use Prim.Native.Nat.{ℕ}
use mathlib.Core.Path.{◌≡◌, refl}
use mathlib.Core.Bool.{Bool, true, false, ◌&&◌}
use mathlib.Core.List.{List, [], ◌∷◌}
use lib.Dec.{eqb}
use Rattle.rules.specs.declared.Tables.{Tables}
use Rattle.runs.specs.Run.{made, next}
use Rattle.runs.specs.Turn as Turn
use Rattle.no_post_lost.specs.NoPostLost.{history, how_many, is_post}
use Rattle.rules.specs.declared.Call.{Call}

other-order : (a b c : Bool) → a && b && c ≡ a && c && b
other-order true true true = refl
other-order true true false = refl
other-order true false true = refl
other-order true false false = refl
other-order false b c = refl

pub posts-of-demand-3 : (s : ℕ) (t : Tables) (qs : List Call) → how_many (is_post s) (history t qs) ≡ Turn.posts_on s t qs
unfolding history how_many Turn.posts_on
posts-of-demand-3 s t [] = refl
posts-of-demand-3 s t (q ∷ qs) =
    rw (other-order (eqb q.number 0x23) (eqb (made t q).answer.code 0) (eqb q.a s), posts-of-demand-3 s (next t q) qs)
