-- `each_in` meets its contract: each turn adds one of those in the line
use mathlib.Core.Path.{sym}
use Rattle.basics.proofs.Finds.{all_of-none}
use Rattle.rules.specs.Lines.{line}
use Rattle.sound.proofs.StandingLoops.{members-more}
use Rattle.sound.proofs.each_in.Goals as goal

pub loop-k-init : goal.loop-k-init
loop-k-init g c = λ f h. sym (all_of-none f (line c.args.lines.now c.args.j))

pub loop-k-preserved : goal.loop-k-preserved
loop-k-preserved g c =
    λ f h. members-more f _ _ c.len-k-end.ensures (c.loop-k.invariant f h) c.loop-k-test.true
    (rw (c.wide.ensures.0, c.member.ensures) at (h _ c.wide.ensures.1 _ c.rule-ok.ensures))
