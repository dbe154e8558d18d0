-- `clock_tick` meets its contract: a clock with no ticks left stays.
use Rattle.switches.proofs.Still.{clock-still}
use Rattle.switches.proofs.ticking.clock_tick.Goals as goal

pub returns-then-k-eq0 : goal.returns-then-k-eq0
returns-then-k-eq0 c =
    clock-still c.args.clocks.now c.args.swis.now c.args.lines.now c.args.n c.clock-k.ensures c.if-k-eq0.true
