-- `highest_posted` meets its contract: from `level` up nobody is posted, so the answer among the lower priorities is the whole answer
use Prim.Native.Nat.{◌≤◌}
use mathlib.Core.Path.{◌≡◌}
use Rattle.basics.specs.Find.{highest_below}
use Rattle.rules.specs.Tables.{swi_levels}
use Rattle.rules.specs.Lines.{anyone, posted_line}
use Rattle.dispatch.proofs.due.highest_posted.Given as goal

abbrev pub invariant-loop-p : goal.invariant-loop-p
invariant-loop-p l =
    (l.p ≤ swi_levels) × (highest_below l.p (λ p. anyone l.lines (posted_line p)) ≡ highest_below swi_levels (λ p. anyone l.lines (posted_line p)))
