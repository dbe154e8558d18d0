-- Demand 3's worked example: in the run of `Story` every premise of `demand-3` is met for task 3, and what it says comes true. Here k is 2, one
-- accepted post comes before the one that readies task 3, and j is 2.
use Prim.Native.Nat.{ℕ, ◌<◌}
use mathlib.Core.Path.{◌≡◌, refl, sym}
use mathlib.Core.Logic.{◌≢◌, inl, inr, ⊎_elim}
use mathlib.Core.List.{[], ◌∷◌}
use native.Mathlib.Omega.{arith}
use borrow.Author.Tests.{ne_eqb}
use Rattle.basics.specs.Lists.{count, ahead}
use Rattle.basics.proofs.Laws.{same?}
use Rattle.rules.specs.Answer.{asked}
use Rattle.rules.specs.Dispatch.{running}
use Rattle.rules.specs.declared.Tables.{Tables}
use Rattle.rules.specs.declared.Thread.TheVariants.{Task}
use Rattle.rules_laws.proofs.Runs.{says}
use Rattle.rules.proofs.Computed.{computed}
use Rattle.rules.proofs.Standing.{lines_with}
use Rattle.runs.specs.Run.{made}
use Rattle.runs.specs.Turn.{ServedIn, ReadyAt, queue_at, AtFront, Gone}
use Rattle.demands.specs.Three.{Turn}
use Rattle.demands_examples.proofs.BySteps.{Leads, undisturbed, gone-at-last}
use Rattle.demands_examples.proofs.Stated.{Readied, Begins}
use Rattle.demands_examples.proofs.Story.{queueing, tables_of, start, begun, moment, ending, story, shown}
use Rattle.demands_examples.proofs.Told.{later}
use Rattle.demands_examples.proofs.Told as Told

-- ---- the premise of demand 3, and its instance
pub begins : Begins 2 start 3 (1 ∷ 2 ∷ []) begun
begins = Told.begins story shown

pub turn : Turn 0 3 (1 ∷ 2 ∷ []) begun
turn = Told.turn story shown

-- ---- by the theorem there is a post that readies it, since there are three; it is the one after the flood, in which there is one
pub in-time : ServedIn 0 3 2 begun (Told.run story)
in-time = Told.in-time story shown

pub in-moment : ReadyAt 5 3 moment × (ahead 3 (queue_at 5 moment) ≡ 1 ∷ 2 ∷ []) × (running moment.lines moment.state ≡ Task 1)
unfolding computed ahead lines_with tables_of moment
in-moment = ((refl, refl), refl, refl)

-- ---- its turn in the queue: of those before it, 1 yields and 2 ends
pub to-ending : Leads (undisturbed 5 3) 0 moment queueing 1 ending
to-ending = Told.to-ending story shown

pub in-ending : (queue_at 5 ending ≡ 3 ∷ 1 ∷ 4 ∷ []) × (running ending.lines ending.state ≡ Task 3)
unfolding computed lines_with tables_of ending
in-ending = (refl, refl)

pub yields : (made moment (asked 0x03 0 0 0 0)).answer.code ≡ 0
unfolding says
yields = let e = to-ending.answers.so in cc

pub one-gone : Gone 5 1 moment (later story)
unfolding Gone
one-gone = inr (inl (in-moment.2, refl, yields))

pub two_gone : Gone 5 2 moment (later story)
unfolding count
two_gone = gone-at-last 5 2 moment (later story) (rw (to-ending.now, in-ending.0))

pub all-gone : (x : ℕ) → 0 < count x (ahead 3 (queue_at 5 moment)) → Gone 5 x moment (later story)
unfolding count
all-gone x h =
    ⊎_elim
    (λ (e : 1 ≡ x). rw (sym e) one-gone)
    (λ (n : 1 ≢ x).
    ⊎_elim
    (λ (e : 2 ≡ x). rw (sym e) two_gone)
    (λ (m : 2 ≢ x). absurd (omega (arith, rw (in-moment.1, ne_eqb 1 x n, ne_eqb 2 x m) at h)))
    (same? 2 x))
    (same? 1 x)

-- ---- what is said of each moment at which a task is readied is said of this one
pub readied-there : (P : ℕ → ℕ → Tables → Type 0) → Readied P → P 5 3 moment
readied-there = Told.readied-there story shown

-- ---- from the theorem: it is at the front, and it runs; by computation the same, `in-ending`
pub front : AtFront 5 3 ending
front = Told.front story shown all-gone

pub at_last : running ending.lines ending.state ≡ Task 3
at_last = Told.at_last story shown all-gone
