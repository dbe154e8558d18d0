-- A number that no call on events has.
use Prim.Native.Nat.{ℕ}
use mathlib.Core.Path.{◌≡◌}
use mathlib.Core.Logic.{◌≢◌}
use mathlib.Core.List.{List}
use borrow.Author.Tests.{ne_eqb}
use Rattle.rules.specs.Answer.{unknown}
use Rattle.rules.specs.Waits.{WaitTables}
use Rattle.rules.specs.Events.{event_call}

pub no_call_lem : (q : WaitTables) (st : List ℕ) (x number a b c d : ℕ)
    → number ≢ 0x30 → number ≢ 0x31 → number ≢ 0x32 → number ≢ 0x33 → event_call q st x number a b c d ≡ unknown q
unfolding event_call
no_call_lem q st x number a b c d h i j k =
    rw (ne_eqb number 0x30 h, ne_eqb number 0x31 i, ne_eqb number 0x32 j, ne_eqb number 0x33 k)
