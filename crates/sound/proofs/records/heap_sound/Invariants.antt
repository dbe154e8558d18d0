-- `heap_sound` meets its contract: each turn adds one unit, told from the one before it
use Prim.Native.Nat.{◌-◌}
use mathlib.Core.Path.{◌≡◌}
use Rattle.basics.specs.Find.{all_below}
use Rattle.basics.specs.Rule.{holds, ◌is◌, ◌isnt◌, ◌under◌, ◌and◌, ◌gives◌}
use Rattle.rules.specs.Heap.{unit, free, later_in}
use Rattle.sound.proofs.Steps.{unit_before}
use Rattle.sound.proofs.records.heap_sound.Given as goal

abbrev pub invariant-loop-entry : goal.invariant-loop-entry
invariant-loop-entry l =
    (l.before ≡ unit_before l.heap l.entry-index) × (l.ok ≡ all_below l.entry-index
    (λ k. holds ((unit l.heap k under 3) and (unit l.heap k is later_in gives (k isnt 0) and (unit l.heap (k - 1) isnt free)))))
