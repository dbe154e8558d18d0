-- `eight_tick` meets its contract: with no ticks left among the eight nothing changes; else each task's tick is one step more.
use Rattle.std.proofs.Common.{◌+◌, ◌*◌, sym, refl}
use Rattle.switches.proofs.Still.{still-stays}
use Rattle.switches.proofs.Ticks.{one_more, task-still}
use Rattle.basics.proofs.Finds.{rising_none}
use Rattle.rules.specs.Lines.{task_queues}
use Rattle.rules.specs.Tables.{task}
use Rattle.switches.proofs.ticking.eight_tick.Invariants.{from}
use Rattle.switches.proofs.ticking.eight_tick.Goals as goal

pub returns-then-eight_still : goal.returns-then-eight_still
unfolding task
returns-then-eight_still c =
    still-stays (λ k. (task c.args.tasks.now (c.args.g * 8 + k)).left) (from c.args.g) (task_queues c.args.tasks.now c.args.lines.now) 8
    (λ k z. task-still c.args.tasks.now c.args.lines.now (c.args.g * 8 + k) refl z) c.eight_still.ensures c.if-eight_still.true

pub loop-k-init : goal.loop-k-init
unfolding task
loop-k-init c =
    sym (rising_none (from c.args.g) (task_queues c.args.tasks.now c.args.lines.now))

pub loop-k-preserved : goal.loop-k-preserved
unfolding task
loop-k-preserved c =
    one_more (from c.args.g) (task_queues c.args.tasks.now c.args.lines.now) c.loop-k.k c.loop-k.invariant c.task_tick.ensures
