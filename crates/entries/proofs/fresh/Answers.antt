-- `fresh` meets its contract: by its test
use Rattle.rules.specs.Fresh.{made_fresh}
use Rattle.entries.proofs.Starts.{fresh-safe}
use Rattle.entries.proofs.fresh.Goals as goal

pub returns-then-levels : goal.returns-then-levels
unfolding made_fresh
returns-then-levels c =
    let e = fresh-safe c.args.levels (rw (c.if-levels.true, c.fresh.ensures, c.accepted.ensures)) in record { value = e.0; safe = e.1 }

pub returns : goal.returns
unfolding made_fresh
returns c =
    let e = fresh-safe c.args.levels (rw (c.if-levels.false, c.fresh-2.ensures, c.from.ensures)) in record { value = e.0; safe = e.1 }
