-- 01, 'Easy ways to get it wrong': for each, a run in which a program with that mistake would answer otherwise.
use mathlib.Core.Path.{refl}
use mathlib.Core.List.{List, [], ◌∷◌}
use Rattle.rules.specs.Tables.{minus_one, forever}
use Rattle.rules.specs.Fresh.{fresh}
use Rattle.rules_laws.proofs.Runs.{Line, AllRun, ◌⇒◌, said, saw, T, S, I, create_task, delete_task, last_result, create_swi, delete_swi, post_swi, add_one, end_swi}
use Rattle.rules_laws.proofs.Runs.{taken_trigger, trigger_of, create_semaphore, delete_semaphore, pend, post, count_of, create_event, delete_event, post_event}
use Rattle.rules_laws.proofs.Runs.{create_mailbox, delete_mailbox, post_mailbox, create_clock, delete_clock, start_clock, interrupt_in, tick}
use Rattle.rules_laws.proofs.Fresh.{fresh-sound, fresh-typed}
use Rattle.demand_2_soundness.proofs.RunsBySteps.{runs-by-steps, steps}

-- "A number below the table's size passes although its object was deleted.": it is code 11, of each kind; an inactive task can be deleted
abbrev pub deleted : List Line
deleted =
    create_task minus_one ⇒ said 0 0 1 (T 0)
    ∷ delete_task 1 ⇒ said 0 0 0 (T 0)
    ∷ last_result 1 ⇒ said 11 0 1 (T 0)
    ∷ create_swi 3 0 ⇒ said 0 0 0 (T 0)
    ∷ create_clock 0 1 0 ⇒ said 0 0 0 (T 0)
    ∷ delete_clock 0 ⇒ said 0 0 0 (T 0)
    ∷ start_clock 0 ⇒ said 11 0 6 (T 0)
    ∷ delete_swi 0 ⇒ said 0 0 0 (T 0)
    ∷ post_swi 0 ⇒ said 11 0 2 (T 0)
    ∷ create_clock 0 1 0 ⇒ said 11 0 2 (T 0)
    ∷ create_semaphore 0 0 ⇒ said 0 0 0 (T 0)
    ∷ delete_semaphore 0 ⇒ said 0 0 0 (T 0)
    ∷ post 0 ⇒ said 11 0 3 (T 0)
    ∷ create_event ⇒ said 0 0 0 (T 0)
    ∷ delete_event 0 ⇒ said 0 0 0 (T 0)
    ∷ post_event 0 1 ⇒ said 11 0 4 (T 0)
    ∷ create_mailbox 1 ⇒ said 0 0 0 (T 0)
    ∷ delete_mailbox 0 ⇒ said 0 0 0 (T 0)
    ∷ post_mailbox 0 7 0 ⇒ said 11 0 5 (T 0)
    ∷ []

-- "A waiter that expires is readied but stays in the line, so a later post goes to it.": the post wakes nobody and counts up
abbrev pub expired : List Line
expired =
    create_semaphore 0 0 ⇒ said 0 0 0 (T 0)
    ∷ create_task 5 ⇒ said 0 0 1 (T 1)
    ∷ pend 0 1 ⇒ said 0 2 0 (T 0)
    ∷ interrupt_in ⇒ said 0 0 0 I
    ∷ tick ⇒ said 0 0 0 I
    ∷ post 0 ⇒ said 0 0 0 I
    ∷ count_of 0 ⇒ saw 1
    ∷ last_result 1 ⇒ said 0 1 0 I
    ∷ []

-- "A post adds to the count and also wakes.": the post that wakes leaves the count at 0
abbrev pub woken : List Line
woken =
    create_semaphore 0 0 ⇒ said 0 0 0 (T 0)
    ∷ create_task 5 ⇒ said 0 0 1 (T 1)
    ∷ pend 0 forever ⇒ said 0 2 0 (T 0)
    ∷ post 0 ⇒ said 0 0 1 (T 1)
    ∷ count_of 0 ⇒ saw 0
    ∷ pend 0 0 ⇒ said 0 1 0 (T 1)
    ∷ []

-- "A Swi's trigger is set back when it ends, not when it starts.": one up while it runs, from 5, is what the next run takes
abbrev pub triggered : List Line
triggered =
    create_swi 3 5 ⇒ said 0 0 0 (T 0)
    ∷ post_swi 0 ⇒ said 0 0 0 (S 0)
    ∷ taken_trigger ⇒ said 0 0 5 (S 0)
    ∷ add_one 0 ⇒ said 0 0 0 (S 0)
    ∷ trigger_of 0 ⇒ saw 6
    ∷ taken_trigger ⇒ said 0 0 5 (S 0)
    ∷ end_swi ⇒ said 0 0 0 (S 0)
    ∷ taken_trigger ⇒ said 0 0 6 (S 0)
    ∷ trigger_of 0 ⇒ saw 5
    ∷ end_swi ⇒ said 0 0 0 (T 0)
    ∷ delete_swi 0 ⇒ said 0 0 0 (T 0)
    ∷ []

abbrev pub all : List (List Line)
all = deleted ∷ expired ∷ woken ∷ triggered ∷ []

-- from fresh tables each says what stands beside its calls
pub mistakes : AllRun fresh all
unfolding steps
mistakes = runs-by-steps fresh all fresh-typed fresh-sound refl refl
