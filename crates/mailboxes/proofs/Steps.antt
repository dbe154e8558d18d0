-- A number that no call on mailboxes has.
use Prim.Native.Nat.{ℕ}
use mathlib.Core.Path.{◌≡◌}
use mathlib.Core.Logic.{◌≢◌}
use mathlib.Core.List.{List}
use borrow.Author.Tests.{ne_eqb}
use Rattle.rules.specs.Answer.{unknown}
use Rattle.rules.specs.Waits.{WaitTables}
use Rattle.rules.specs.Mailboxes.{mailbox_call}

pub no_call_lem : (q : WaitTables) (st : List ℕ) (x number a b c d : ℕ) → number ≢ 0x40 → number ≢ 0x41 → number ≢ 0x42 → number ≢ 0x43
    → mailbox_call q st x number a b c d ≡ unknown q
unfolding mailbox_call
no_call_lem q st x number a b c d k l m n = rw (ne_eqb number 0x40 k, ne_eqb number 0x41 l, ne_eqb number 0x42 m, ne_eqb number 0x43 n)
