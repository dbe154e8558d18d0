-- Where one rule of 01's 'Sound tables' is broken, in one row, every call is refused with code 10.
use Prim.Native.Nat.{ℕ, zero, suc}
use mathlib.Core.Path.{◌≡◌, refl}
use mathlib.Core.Bool.{Bool, true, false, not, ◌&&◌, and-eq-true_iff}
use mathlib.Core.List.{List, [], ◌∷◌, ◌++◌, map}
use native.Mathlib.Decide.{ℕ_discrete}
use native.Mathlib.Omega.{arith}
use borrow.Author.Tests.{ltb-true, lt-ltb, not-true}
use lib.Dec.{ltb}
use lib.ListN.{get_or}
use Rattle.basics.specs.Find.{all_below}
use Rattle.basics.specs.Rule.{Rule, ◌is◌, ◌isnt◌, ◌under◌, test, ◌and◌, ◌or◌, ◌gives◌, each, every, holds}
use Rattle.rules.specs.Answer.{answer}
use Rattle.rules.specs.Tables.{task_count, swi_count, levels}
use Rattle.rules.specs.Lines.{task_home, swi_home}
use Rattle.rules.specs.Sound.{sound, state_rule, heap_rule, clocks_rule, tasks_rule, lines_rule, members_rule, once_rule, semaphores_rule, events_rule}
use Rattle.rules.specs.Sound.{mailboxes_rule, swis_rule, active_rule, dispatch_rule}
use Rattle.rules.specs.Step.{call}
use Rattle.rules.specs.declared.Tables.{Tables}
use Rattle.rules.specs.declared.Thread.TheVariants.{Task}

infix 70 ◌breaks◌
infix 75 ◌row◌
-- "A refusal has outcome 0, value 0 and no change; with code 10 the thread given is T0.": whatever is called
abbrev pub Refuses : Tables → Type 0
Refuses t = (number a b c d : ℕ) → call t number a b c d ≡ record { tables = t; answer = answer 10 0 0; thread = Task 0 }

-- ---- the rules by name, as the fields of `Sound`
pub data Name : Type 0 where
  of-state of-heap of-clocks of-tasks of-lines of_members of-task-once of-swi-once of-semaphores of-events of-mailboxes of-swis : Name
  of-active of-dispatch : Name

abbrev pub rule_of : Name → Tables → Rule
rule_of of-state t = state_rule t.tasks t.state
rule_of of-heap t = heap_rule t.heap
rule_of of-clocks t = clocks_rule t.clocks t.swis
rule_of of-tasks t = tasks_rule (levels t.state) t.tasks
rule_of of-lines t = lines_rule t.lines
rule_of of_members t = members_rule t.tasks t.swis t.lines
rule_of of-task-once t = once_rule task_count (task_home t.tasks) t.lines
rule_of of-swi-once t = once_rule swi_count (swi_home t.swis) t.lines
rule_of of-semaphores t = semaphores_rule t.semaphores t.lines
rule_of of-events t = events_rule t.tasks t.events t.lines
rule_of of-mailboxes t = mailboxes_rule t.tasks t.mailboxes t.lines
rule_of of-swis t = swis_rule t.swis t.lines
rule_of of-active t = active_rule t.swis t.lines
rule_of of-dispatch t = dispatch_rule t.swis t.lines t.state

-- a rule as a whole, or at one of its rows
pub data Broken : Type 0 where
  whole : Name → Broken
  ◌row◌ : Name → ℕ → Broken

unfoldable pub fails_at : Rule → ℕ → Bool
fails_at (x is y) i = false
fails_at (x isnt y) i = false
fails_at (x under y) i = false
fails_at (test b) i = false
fails_at (r and s) i = false
fails_at (r or s) i = false
fails_at (r gives s) i = false
fails_at (each n f) i = ltb i n && not (holds (f i))
fails_at (every xs f) i = false

unfoldable pub is_broken : Broken → Tables → Bool
is_broken (whole n) t = not (holds (rule_of n t))
is_broken (n row i) t = fails_at (rule_of n t) i

-- ---- a broken rule does not hold
and-false : (a : Bool) → a && false ≡ false
and-false true = refl
and-false false = refl

below_false : (n i : ℕ) (f : ℕ → Bool) → ltb i n ≡ true → f i ≡ false → all_below n f ≡ false
unfolding all_below
below_false zero i f lt e = absurd (let h = ltb-true i 0 lt in omega arith)
below_false (suc n) i f lt e = go (λ h. below_false n i f h e) (ℕ_discrete i n)
  where
    go : (ltb i n ≡ true → all_below n f ≡ false) → Dec (i ≡ n) → all_below n f && f n ≡ false
    go lower (yes p) = rw (← p, e) (and-false (all_below i f))
    go lower (no p) = rw (lower (lt-ltb i n (let h = ltb-true i (suc n) lt in omega arith)))

fails-at : (r : Rule) (i : ℕ) → fails_at r i ≡ true → holds r ≡ false
unfolding fails_at
fails-at (x is y) i e = cc
fails-at (x isnt y) i e = cc
fails-at (x under y) i e = cc
fails-at (test b) i e = cc
fails-at (r and s) i e = cc
fails-at (r or s) i e = cc
fails-at (r gives s) i e = cc
fails-at (each n f) i e =
    let h = (and-eq-true_iff (ltb i n) (not (holds (f i)))).0 e in
    below_false n i (λ k. holds (f k)) h.0 (not-true (holds (f i)) h.1)
fails-at (every xs f) i e = cc

name_of : Broken → Name
name_of (whole n) = n
name_of (n row i) = n

is-broken : (b : Broken) (t : Tables) → is_broken b t ≡ true → holds (rule_of (name_of b) t) ≡ false
unfolding is_broken name_of
is-broken (whole n) t e = not-true (holds (rule_of n t)) e
is-broken (n row i) t e = fails-at (rule_of n t) i e

-- ---- and one rule that does not hold is enough
all_true : Bool → List Bool → Bool
all_true b [] = b
all_true b (c ∷ cs) = all_true (b && c) cs

from_false : (cs : List Bool) → all_true false cs ≡ false
unfolding all_true
from_false [] = refl
from_false (c ∷ cs) = from_false cs

one-false : (b : Bool) (cs : List Bool) (k : ℕ) → get_or cs k true ≡ false → all_true b cs ≡ false
unfolding all_true
one-false b [] k e = cc
one-false b (c ∷ cs) zero e = rw (e, and-false b) (from_false cs)
one-false b (c ∷ cs) (suc k) e = one-false (b && c) cs k e

-- the rules after the first, in the order in which `sound` asks for them, and whether each holds
names : List Name
names =
    (of-heap ∷ of-clocks ∷ of-tasks ∷ of-lines ∷ of_members ∷ of-task-once ∷ of-swi-once ∷ [])
    ++ (of-semaphores ∷ of-events ∷ of-mailboxes ∷ of-swis ∷ of-active ∷ of-dispatch ∷ [])

others : Tables → List Bool
others t = map (λ (n : Name). holds (rule_of n t)) names

-- by the place of each among them
unsound : (n : Name) (t : Tables) → holds (rule_of n t) ≡ false → sound t ≡ false
unfolding sound all_true names others
unsound of-state t e = rw e
unsound of-heap t e = one-false (holds (rule_of of-state t)) (others t) 0 e
unsound of-clocks t e = one-false (holds (rule_of of-state t)) (others t) 1 e
unsound of-tasks t e = one-false (holds (rule_of of-state t)) (others t) 2 e
unsound of-lines t e = one-false (holds (rule_of of-state t)) (others t) 3 e
unsound of_members t e = one-false (holds (rule_of of-state t)) (others t) 4 e
unsound of-task-once t e = one-false (holds (rule_of of-state t)) (others t) 5 e
unsound of-swi-once t e = one-false (holds (rule_of of-state t)) (others t) 6 e
unsound of-semaphores t e = one-false (holds (rule_of of-state t)) (others t) 7 e
unsound of-events t e = one-false (holds (rule_of of-state t)) (others t) 8 e
unsound of-mailboxes t e = one-false (holds (rule_of of-state t)) (others t) 9 e
unsound of-swis t e = one-false (holds (rule_of of-state t)) (others t) 10 e
unsound of-active t e = one-false (holds (rule_of of-state t)) (others t) 11 e
unsound of-dispatch t e = one-false (holds (rule_of of-state t)) (others t) 12 e

refuses : (t : Tables) → sound t ≡ false → Refuses t
unfolding call
refuses t e number a b c d = rw e

-- ---- changes that each break a rule
pub data Flaw : Type 0 where
  ◌breaks◌ : (Tables → Tables) → Broken → Flaw

-- the tables after each of the changes alone are refused
abbrev pub AllRefused : Tables → List Flaw → Type 0
AllRefused t [] = Unit {0}
AllRefused t (f breaks b ∷ fs) = Refuses (f t) × AllRefused t fs

unfoldable pub all_broken : Tables → List Flaw → Bool
all_broken t [] = true
all_broken t (f breaks b ∷ fs) = is_broken b (f t) && all_broken t fs

pub all-refused : (t : Tables) (fs : List Flaw) → all_broken t fs ≡ true → AllRefused t fs
unfolding all_broken
all-refused t [] e = tt
all-refused t (f breaks b ∷ fs) e =
    let h = (and-eq-true_iff (is_broken b (f t)) (all_broken t fs)).0 e in
    (refuses (f t) (unsound (name_of b) (f t) (is-broken b (f t) h.0)), all-refused t fs h.1)
