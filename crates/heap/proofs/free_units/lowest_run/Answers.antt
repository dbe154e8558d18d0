-- `lowest_run` meets its contract: no run begins before u, so the next free place has the lowest, or there is none.
use Rattle.heap.proofs.Runs.{run-never, run-start, run-here, run-later, run-next, run_end}
use Rattle.std.proofs.Common.{rules}
use Rattle.heap.proofs.free_units.lowest_run.Goals as goal

pub returns-then-n-gt-HEAP_UNITS : goal.returns-then-n-gt-HEAP_UNITS
returns-then-n-gt-HEAP_UNITS c = (run-never _ _ c.if-n-gt-HEAP_UNITS.true, search rules)

pub loop-u-init : goal.loop-u-init
loop-u-init c = run-start _ _ c.if-n-gt-HEAP_UNITS.false

pub returns-then-p-u : goal.returns-then-p-u
returns-then-p-u c =
    (run-here _ _ _ c.loop-u.invariant _ c.loop-u-test.true c.free_from-p.ensures c.if-p-u.true, search rules)

pub loop-u-smaller : goal.loop-u-smaller
loop-u-smaller c =
    run-later _ _ _ c.loop-u.invariant _ c.loop-u-test.true c.free_from-p.ensures c.if-p-u.false
    c.first_free-u.ensures

pub loop-u-preserved : goal.loop-u-preserved
loop-u-preserved c =
    run-next _ _ _ c.loop-u.invariant _ c.loop-u-test.true c.free_from-p.ensures c.if-p-u.false
    c.first_free-u.ensures

pub returns : goal.returns
returns c = (run_end _ _ _ c.loop-u.invariant c.loop-u-test.false, search rules)
