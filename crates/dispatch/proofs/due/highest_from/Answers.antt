-- `highest_from` meets its contract: leading zeros of the word of non-empty queues tell the highest of them
use Prim.Native.Nat.{ℕ, ◌≤◌, min}
use native.Mathlib.Omega.{arith}
use Rattle.basics.proofs.Finds.{high_is}
use Rattle.basics.proofs.Leading.{leading-highest}
use Rattle.dispatch.proofs.due.highest_from.Goals as goal

least-most : (n : ℕ) → min n 32 ≤ 32
least-most n = omega arith

pub returns : goal.returns
returns c =
    let highest = leading-highest 32 _ _ (least-most c.args.n) in
    (rw c.ready_queues.ensures highest, rw (c.ready_queues.ensures, highest) (high_is _ _).high)
