-- `each_from` meets its contract: each turn adds one number to those that meet the rule
use mathlib.Core.Path.{sym}
use native.Mathlib.Nat.{sub_self}
use native.Mathlib.Omega.{arith}
use Rattle.basics.proofs.Finds.{all_none, all-step}
use Rattle.std.proofs.Common.{◌≡◌, ◌+◌, ◌-◌}
use Rattle.sound.proofs.each_from.Goals as goal

pub loop-k-init : goal.loop-k-init
loop-k-init g c = (omega arith, λ f h. rw sub_self (sym (all_none _)))

pub loop-k-preserved : goal.loop-k-preserved
loop-k-preserved g c =
    let p : c.loop-k.k + 1 - c.args.first ≡ c.loop-k.k - c.args.first + 1 = omega (arith, c.loop-k.auto.k) in
    let q : c.args.first + (c.loop-k.k - c.args.first) ≡ c.loop-k.k = omega (arith, c.loop-k.auto.k) in (
      omega (arith, c.loop-k-test.true),
      λ f h. rw p (all-step (λ k. f (c.args.first + k)) _ (c.loop-k.invariant.1 f h)
          (rw q (h _ c.loop-k.auto.k c.loop-k-test.true _ c.rule-ok.ensures))),
    )

pub returns : goal.returns
returns g c =
    let p : c.loop-k.k - c.args.first ≡ c.args.n - c.args.first = omega (arith, c.loop-k.invariant.0, c.loop-k-test.false) in
    λ f h. rw p at (c.loop-k.invariant.1 f h)
