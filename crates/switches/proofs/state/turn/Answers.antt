-- `turn` meets its contract: of each of the four that the two last bits can be, the definition's two tests are computed.
use Rattle.std.proofs.Common.{◌≡◌, arith}
use lib.Bits.{bit_and, and_le_r}
use Rattle.rules.specs.Switches.{both_bits}
use Rattle.switches.proofs.Steps.{swis-named, tasks-named}
use Rattle.switches.proofs.state.turn.Goals as goal

pub returns-in-1 : goal.returns-in-1
returns-in-1 c = rw (swis-named c.args.bits c.in-1.is, tasks-named c.args.bits c.in-1.is)

pub returns-in-2 : goal.returns-in-2
returns-in-2 c = rw (swis-named c.args.bits c.in-2.is, tasks-named c.args.bits c.in-2.is)

pub returns-in-3 : goal.returns-in-3
returns-in-3 c = rw (swis-named c.args.bits c.in-3.is, tasks-named c.args.bits c.in-3.is)

pub returns-in_default : goal.returns-in_default
returns-in_default c =
    let most = and_le_r c.args.bits both_bits in
    let (((_, no-1), no-2), no-3) = c.in_default.in_default-own.rest in
    let none : bit_and c.args.bits both_bits ≡ 0 = omega arith in
    rw (swis-named c.args.bits none, tasks-named c.args.bits none)
