-- `desk_whole::replay_log` meets its contract: the texts so far, and what is written for the rest of the log, are the text of the whole log; each turn takes
-- from the rest, and the one for which nothing came ends the replay.
use Prim.Native.Nat.{◌^◌, ◌<◌}
use mathlib.Core.Path.{refl}
use native.Mathlib.Omega.{arith}
use lib.ListN.{length}
use borrow.Author.Tests.{not-true, not-false}
use Rattle.std.proofs.lemmas.List.{take_rest}
use Rattle.entries.proofs.Starts.{few-fresh}
use Rattle.desk_whole.proofs.Parts.{sofar-none, sofar-next, sofar-less, sofar-all, some}
use Rattle.desk_whole.proofs.replay_log.Goals as goal

pub loop-p-init : goal.loop-p-init
loop-p-init c =
    let short : length c.args.log.now < 2 ^ 64 = omega arith in
    sofar-none c.args.log.now c.args.out.now _ _ (few-fresh c.fresh.ensures.value) refl c.begun-p.ensures short

pub slice_bounds-rest-start : goal.slice_bounds-rest-start
slice_bounds-rest-start c =
    let part = c.next_part-more in
    omega (arith, some c.args.log.now c.args.out.now c.loop-p.invariant (not-true _ c.loop-p-test.true) part.result part.ensures)

pub slice_bounds-rest-count : goal.slice_bounds-rest-count
slice_bounds-rest-count c =
    let part = c.next_part-more in
    omega (arith, some c.args.log.now c.args.out.now c.loop-p.invariant (not-true _ c.loop-p-test.true) part.result part.ensures)

pub loop-p-smaller : goal.loop-p-smaller
loop-p-smaller c =
    let part = c.next_part-more in
    sofar-less c.args.log.now c.args.out.now c.loop-p.invariant (not-true _ c.loop-p-test.true) part.result part.ensures
    c.replay_part-p.ensures (take_rest _ part.result)

pub loop-p-preserved : goal.loop-p-preserved
loop-p-preserved c =
    let part = c.next_part-more in
    sofar-next c.args.log.now c.args.out.now c.loop-p.invariant (not-true _ c.loop-p-test.true) part.result part.ensures
    c.replay_part-p.ensures c.put_turn-at.ensures (take_rest _ part.result)

pub returns : goal.returns
returns c = sofar-all c.args.log.now c.args.out.now c.loop-p.invariant (not-false _ c.loop-p-test.false)
