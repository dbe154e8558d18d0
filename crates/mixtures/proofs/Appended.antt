-- Calls and then more calls: what holds of them is put together from the two.
use Prim.{tt}
use mathlib.Core.Path.{◌≡◌, refl, ap}
use mathlib.Core.List.{List, [], ◌∷◌, ◌++◌}
use Rattle.rules.specs.declared.Answer.{Answer}
use Rattle.rules.specs.declared.Tables.{Tables}
use Rattle.runs.specs.Run.{made, next, after, Each}
use Rattle.runs.specs.CallList.{answers_to}
use Rattle.no_post_lost.specs.NoPostLost.{CallAndAnswer, history}
use Rattle.mixtures.specs.Mixtures.{paired}
use Rattle.mixtures.specs.Shown.{asks}
use Rattle.rules.specs.declared.Call.{Call}

pub after-append : (t : Tables) (qs rs : List Call) → after t (qs ++ rs) ≡ after (after t qs) rs
unfolding after
after-append t [] rs = refl
after-append t (q ∷ qs) rs = after-append (next t q) qs rs

pub answers-append : (t : Tables) (qs rs : List Call) → answers_to t (qs ++ rs) ≡ answers_to t qs ++ answers_to (after t qs) rs
unfolding after answers_to
answers-append t [] rs = refl
answers-append t (q ∷ qs) rs = ap (λ (l : List Answer). (made t q).answer ∷ l) (answers-append (next t q) qs rs)

module _ (P : Tables → Call → Type 0) where
  pub each_append : (t : Tables) (qs rs : List Call) → Each P t qs → Each P (after t qs) rs → Each P t (qs ++ rs)
  unfolding after Each
  each_append t [] rs first then = then
  each_append t (q ∷ qs) rs (here, later) then = (here, each_append (next t q) qs rs later then)

  pub each-split : (t : Tables) (qs rs : List Call) → Each P t (qs ++ rs) → Each P t qs × Each P (after t qs) rs
  unfolding after Each
  each-split t [] rs all = (tt, all)
  each-split t (q ∷ qs) rs (here, later) = let (first, then) = each-split (next t q) qs rs later in ((here, first), then)

  pub each_of : (Q : Tables → Call → Type 0) → ((u : Tables) (q : Call) → P u q → Q u q) → (t : Tables) (qs : List Call) → Each P t qs → Each Q t qs
  unfolding Each
  each_of Q f t [] all = tt
  each_of Q f t (q ∷ qs) (here, later) = (f t q here, each_of Q f (next t q) qs later)

  pub each-always : ((u : Tables) (q : Call) → P u q) → (t : Tables) (qs : List Call) → Each P t qs
  unfolding Each
  each-always f t [] = tt
  each-always f t (q ∷ qs) = (f t q, each-always f (next t q) qs)

-- ---- calls paired with their answers are the history
pub paired-history : (t : Tables) (qs : List Call) → paired qs (answers_to t qs) ≡ history t qs
unfolding paired answers_to history
paired-history t [] = refl
paired-history t (q ∷ qs) = ap (λ (l : List CallAndAnswer). record { asked = q; answer = (made t q).answer } ∷ l) (paired-history (next t q) qs)

pub asks-history : (t : Tables) (qs : List Call) → asks (history t qs) ≡ qs
unfolding asks history
asks-history t [] = refl
asks-history t (q ∷ qs) = ap (λ (l : List Call). q ∷ l) (asks-history (next t q) qs)

pub asks_append : (h i : List CallAndAnswer) → asks (h ++ i) ≡ asks h ++ asks i
unfolding asks
asks_append [] i = refl
asks_append (e ∷ h) i = ap (λ (l : List Call). e.asked ∷ l) (asks_append h i)

pub history-append : (t : Tables) (qs rs : List Call) → history t (qs ++ rs) ≡ history t qs ++ history (after t qs) rs
unfolding after history
history-append t [] rs = refl
history-append t (q ∷ qs) rs = ap (λ (l : List CallAndAnswer). record { asked = q; answer = (made t q).answer } ∷ l) (history-append (next t q) qs rs)
