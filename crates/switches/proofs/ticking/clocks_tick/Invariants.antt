-- `clocks_tick` meets its contract: with no ticks left anywhere nothing changes; else each clock's tick is one step more in rising number.
use Rattle.std.proofs.Common.{◌≡◌}
use Rattle.basics.specs.Find.{rising}
use Rattle.rules.specs.Tick.{clock_tables, clock_tick}
use Rattle.switches.proofs.ticking.clocks_tick.Given as goal

abbrev pub invariant-loop-n : goal.invariant-loop-n
invariant-loop-n l =
    clock_tables l.clocks l.swis l.lines ≡ rising l.n clock_tick (clock_tables l.initial.clocks l.initial.swis l.initial.lines)
