-- A number that no call on semaphores has.
use Prim.Native.Nat.{ℕ}
use mathlib.Core.Path.{◌≡◌}
use mathlib.Core.Logic.{◌≢◌}
use mathlib.Core.List.{List}
use borrow.Author.Tests.{ne_eqb}
use Rattle.rules.specs.Answer.{unknown}
use Rattle.rules.specs.Waits.{WaitTables}
use Rattle.rules.specs.Semaphores.{semaphore_call}

pub no_call_lem : (q : WaitTables) (st : List ℕ) (x number a b c d : ℕ)
    → number ≢ 0x20 → number ≢ 0x21 → number ≢ 0x22 → number ≢ 0x23 → number ≢ 0x24 → semaphore_call q st x number a b c d ≡ unknown q
unfolding semaphore_call
no_call_lem q st x number a b c d h i j k l =
    rw (ne_eqb number 0x20 h, ne_eqb number 0x21 i, ne_eqb number 0x22 j, ne_eqb number 0x23 k, ne_eqb number 0x24 l)
