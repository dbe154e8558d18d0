-- No. 14, both sides of each line that it draws: with 16 levels and with 32. Each case is computed from the definitions.
use Prim.Native.Nat.{ℕ}
use mathlib.Core.Path.{◌≡◌, refl}
use mathlib.Core.Logic.{◌≢◌, ⊎_elim}
use mathlib.Core.Bool.{Bool, true, false}
use mathlib.Core.List.{List, [], ◌∷◌}
use borrow.Author.Tests.{ne_eqb}
use Rattle.rules.specs.Answer.{answer}
use Rattle.rules.specs.Tables.{state, LEVELS}
use Rattle.rules.specs.Fresh.{fresh, fresh_with, made_fresh}
use Rattle.rules.specs.Sound.{sound}
use Rattle.rules.specs.Step.{step_of}
use Rattle.rules.specs.declared.Tables.{Tables}
use Rattle.rules.proofs.Agree.{sound-means}
use Rattle.rules.proofs.Computed.{computed}
use Rattle.rules_laws.proofs.Runs.{Line, says, ◌runs◌, AllRun, ◌⇒◌, said, saw, T, S, I, create_task, set_priority, yield, end, create_swi, post_swi}
use Rattle.rules_laws.proofs.Runs.{create_semaphore, pend, post}
use Rattle.rules_laws.proofs.Fresh.{fresh-sound, fresh-for-sound, fresh-typed, fresh-with-typed}
use Rattle.demand_2_soundness.proofs.RunsBySteps.{runs-by-steps, steps}

-- "With 32, priorities run to 31": (i) for 32 levels: 16 and 31 are made, 32 is code 4. With 16 levels 16 is code 4 (`Cases.case-i`, `set-16`)
abbrev pub case-i-32 : List Line
case-i-32 =
    create_task 16 ⇒ said 0 0 1 (T 1)
    ∷ create_task 31 ⇒ said 0 0 2 (T 2)
    ∷ create_task 32 ⇒ said 4 0 0 (T 2)
    ∷ create_task 4294967295 ⇒ said 0 0 3 (T 2)
    ∷ create_task 0 ⇒ said 4 0 0 (T 2)
    ∷ []

-- the same of call 02
abbrev pub set-32 : List Line
set-32 =
    create_task 15 ⇒ said 0 0 1 (T 1)
    ∷ set_priority 1 16 ⇒ said 0 0 15 (T 1)
    ∷ set_priority 1 31 ⇒ said 0 0 16 (T 1)
    ∷ set_priority 1 32 ⇒ said 4 0 0 (T 1)
    ∷ []

abbrev pub set-16 : List Line
set-16 =
    create_task 15 ⇒ said 0 0 1 (T 1)
    ∷ set_priority 1 16 ⇒ said 4 0 0 (T 1)
    ∷ set_priority 1 31 ⇒ said 4 0 0 (T 1)
    ∷ []

-- Swis keep 16 levels: priority 15 is made, 16 and 31 are code 4
abbrev pub swis-32 : List Line
swis-32 =
    create_swi 15 0 ⇒ said 0 0 0 (T 0)
    ∷ create_swi 16 0 ⇒ said 4 0 0 (T 0)
    ∷ create_swi 31 0 ⇒ said 4 0 0 (T 0)
    ∷ []

-- dispatch looks at every queue: 31 before 16, 16 before 15, and in its queue by turns
abbrev pub dispatch-32 : List Line
dispatch-32 =
    create_task 15 ⇒ said 0 0 1 (T 1)
    ∷ create_task 16 ⇒ said 0 0 2 (T 2)
    ∷ create_task 31 ⇒ said 0 0 3 (T 3)
    ∷ create_task 16 ⇒ said 0 0 4 (T 3)
    ∷ end ⇒ said 0 0 0 (T 2)
    ∷ yield ⇒ said 0 0 0 (T 4)
    ∷ end ⇒ said 0 0 0 (T 2)
    ∷ end ⇒ said 0 0 0 (T 1)
    ∷ []

-- a woken task of priority 31 runs before one of 15, and a Swi of priority 0 before both
abbrev pub wakes-32 : List Line
wakes-32 =
    create_semaphore 0 0 ⇒ said 0 0 0 (T 0)
    ∷ create_task 31 ⇒ said 0 0 1 (T 1)
    ∷ pend 0 4294967295 ⇒ said 0 2 0 (T 0)
    ∷ create_task 15 ⇒ said 0 0 2 (T 2)
    ∷ post 0 ⇒ said 0 0 1 (T 1)
    ∷ create_swi 0 0 ⇒ said 0 0 0 (T 1)
    ∷ post_swi 0 ⇒ said 0 0 0 (S 0)
    ∷ []

-- a call on tables of neither number of levels
abbrev pub refused-10 : List Line
refused-10 =
    create_task 5 ⇒ said 10 0 0 (T 0)
    ∷ []

abbrev pub with-32 : List (List Line)
with-32 = case-i-32 ∷ set-32 ∷ dispatch-32 ∷ wakes-32 ∷ swis-32 ∷ []

pub record Levels : Type 0 where
  pub runs-with-32 : AllRun (fresh_with 32) with-32
  pub set-with-16 : fresh runs set-16
  -- "set when they are made fresh"; "fresh tables asked for with other levels are 4 and come with 16"
  pub made-16 : made_fresh 16 ≡ step_of (fresh_with 16) (answer 0 0 0) (T 0)
  pub made-32 : made_fresh 32 ≡ step_of (fresh_with 32) (answer 0 0 0) (T 0)
  pub made_other : (n : ℕ) → n ≢ 16 → n ≢ 32 → made_fresh n ≡ step_of (fresh_with 16) (answer 4 0 0) (T 0)
  -- "The number of levels, 16 or 32": tables with another are not sound
  pub sound-16 : sound (fresh_with 16) ≡ true
  pub sound-32 : sound (fresh_with 32) ≡ true
  pub other-unsound : (t : Tables) → state t.state LEVELS ≢ 16 → state t.state LEVELS ≢ 32 → sound t ≡ false
  pub code-10 : fresh_with 17 runs refused-10

all-run : AllRun (fresh_with 32) with-32
unfolding steps
all-run = runs-by-steps (fresh_with 32) with-32 (fresh-with-typed 32) (fresh-for-sound 2) refl refl

set-alone : AllRun fresh (set-16 ∷ [])
unfolding steps
set-alone = runs-by-steps fresh (set-16 ∷ []) fresh-typed fresh-sound refl refl

-- by the rule of the state: it does not hold, so not all do
not_sound : (t : Tables) → state t.state LEVELS ≢ 16 → state t.state LEVELS ≢ 32 → sound t ≡ false
not_sound t few most = go (sound t) refl
  where
    go : (b : Bool) → sound t ≡ b → b ≡ false
    go true e = let (_, (_, (_, (_, (_, rule))))) = (sound-means t e).state in absurd (⊎_elim few most rule)
    go false e = refl

pub levels : Levels
unfolding computed says
levels =
    record {
      runs-with-32 = all-run;
      set-with-16 = set-alone.0;
      made-16 = refl;
      made-32 = refl;
      made_other = λ n few most. rw (ne_eqb n 16 few, ne_eqb n 32 most);
      sound-16 = fresh-sound;
      sound-32 = fresh-for-sound 2;
      other-unsound = not_sound;
      code-10 = record { so = refl };
    }
