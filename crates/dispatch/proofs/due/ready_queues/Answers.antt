-- `ready_queues` meets its contract: the loop makes the word of the empty queues from the top, and the bits that it leaves are the word of the others
use Prim.Native.Nat.{ℕ, ◌+◌, ◌*◌, ◌≤◌, ◌<◌, min}
use mathlib.Core.Bool.{Bool}
use native.Mathlib.Omega.{arith}
use lib.Pow.{le_ones}
use Rattle.basics.proofs.Leading.{Made, made_none, made_more, made_all, made-room, word-under, word-others}
use Rattle.dispatch.proofs.due.ready_queues.Goals as goal

least-most : (n : ℕ) → min n 32 ≤ 32
least-most n = omega arith

-- there is room for the next bit
room : (n : ℕ) (f : ℕ → Bool) {p w : ℕ} → 0 < p → Made (min n 32) f p w → w * 2 + 1 < 4294967296
room n f = made-room 31 (min n 32) f (least-most n)

pub loop-p-init : goal.loop-p-init
loop-p-init c = (c.wide-first.ensures.0, c.wide-first.ensures.1, rw c.least-p.ensures (made_none _ _))

pub overflow_mul-empties : goal.overflow_mul-empties
overflow_mul-empties c = omega (arith, room _ _ (omega (arith, c.loop-p-test.true)) c.loop-p.invariant.2)

pub overflow_add-empties : goal.overflow_add-empties
overflow_add-empties c =
    omega (arith, room _ _ (omega (arith, c.loop-p-test.true)) c.loop-p.invariant.2, c.empty.ensures.1)

pub loop-p-preserved : goal.loop-p-preserved
loop-p-preserved c =
    let (first-is, first-low, so_far) = c.loop-p.invariant in
    (first-is, first-low, made_more _ _ _ (omega (arith, c.loop-p-test.true)) so_far (rw first-is at c.empty.ensures.0))

pub overflow_sub-result : goal.overflow_sub-result
overflow_sub-result c =
    let empties = made_all _ _ c.loop-p-test.false c.loop-p.invariant.2 in
    rw (c.ones.ensures, empties) (le_ones _ (word-under _ _))

pub returns : goal.returns
returns c =
    let empties = made_all _ _ c.loop-p-test.false c.loop-p.invariant.2 in
    rw (c.ones.ensures, empties) (word-others _ _)
