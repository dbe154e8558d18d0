-- `highest_posted` meets its contract: from `level` up nobody is posted, so the answer among the lower priorities is the whole answer
use Prim.Native.Nat.{◌+◌, ◌-◌}
use mathlib.Core.Path.{◌≡◌, sym, ◌∙◌}
use native.Mathlib.Omega.{arith}
use Rattle.basics.proofs.Finds.{high_goes, high-here, high-none}
use Rattle.rules.specs.Dispatch.{highest_posted}
use Rattle.std.proofs.Common.{rules}
use Rattle.dispatch.proofs.due.highest_posted.Goals as goal

pub returns-then-anyone : goal.returns-then-anyone
unfolding highest_posted
returns-then-anyone c =
    let some = sym c.anyone.ensures ∙ c.if-anyone.true in
    let back : c.loop-p.p - 1 + 1 ≡ c.loop-p.p = omega (arith, c.loop-p-test.true) in (
      back ∙ high-here _ c.loop-p.p _ (omega (arith, c.loop-p-test.true)) some c.loop-p.invariant.1,
      omega (arith, back, c.loop-p.invariant.0),
    )

pub loop-p-preserved : goal.loop-p-preserved
unfolding highest_posted
loop-p-preserved c =
    let nobody = sym c.anyone.ensures ∙ c.if-anyone.false in
    (search rules, high_goes _ c.loop-p.p _ (omega (arith, c.loop-p-test.true)) nobody c.loop-p.invariant.1)

pub returns : goal.returns
unfolding highest_posted
returns c = (high-none _ c.loop-p.p _ c.loop-p-test.false c.loop-p.invariant.1, search rules)
