-- `ready_queues` meets its contract: the loop makes the word of the empty queues from the top, and the bits that it leaves are the word of the others
use Prim.Native.Nat.{◌+◌, ◌<◌, min}
use mathlib.Core.Path.{◌≡◌}
use mathlib.Core.Bool.{not}
use Rattle.basics.proofs.Leading.{Made}
use Rattle.rules.specs.Lines.{anyone, ready_line}
use Rattle.dispatch.proofs.due.ready_queues.Given as goal

abbrev pub invariant-loop-p : goal.invariant-loop-p
invariant-loop-p l =
    (l.first ≡ l.from) × (l.first < 256) × Made (min l.n 32) (λ q. not (anyone l.lines (ready_line (l.from + q)))) l.p l.empties
