-- `heap_sound` meets its contract: each turn adds one unit, told from the one before it
use mathlib.Core.Path.{sym}
use native.Mathlib.Omega.{arith}
use Rattle.basics.proofs.Finds.{all_none, all-step}
use Rattle.sound.proofs.Steps.{before-none, before_more, heap-step, unit-here}
use Rattle.sound.proofs.records.heap_sound.Goals as goal

pub loop-entry-init : goal.loop-entry-init
loop-entry-init c = (before-none _, sym (all_none _))

pub loop-entry-preserved : goal.loop-entry-preserved
loop-entry-preserved c =
    let e = unit-here c.args.heap.now c.loop-entry.entry-index (omega (arith, c.loop-entry-test.true, c.told-heap)) in
    (before_more _ _ e, all-step _ _ c.loop-entry.invariant.1 (heap-step _ _ c.loop-entry.invariant.0 e c.unit_sound-ok.ensures))
