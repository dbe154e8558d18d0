-- `count_units` meets its contract: the entries of the map are the units'.
use Rattle.std.proofs.Common.{rules, arith, ◌∙◌, ◌≡◌, eqb}
use Rattle.std.specs.List.{count_by}
use Rattle.rules.specs.Tables.{heap_units}
use Rattle.rules.specs.Heap.{unit}
use Rattle.trace_changes.specs.Changes.{units_with}
use Rattle.trace_changes.proofs.Steps.{count_most}
use Rattle.trace_objects.proofs.Units.{units-counted}
use Rattle.trace_objects.proofs.count_units.Goals as goal

pub returns : goal.returns
unfolding units_with
returns c =
    let n : c.count.result ≡ count_by (λ x. eqb x c.args.e) c.args.heap.now = search rules in
    let all = n ∙ units-counted c.args.heap.now c.told-heap c.args.e in
    (all, omega (arith, all, count_most (λ k. eqb (unit c.args.heap.now k) c.args.e) heap_units))
