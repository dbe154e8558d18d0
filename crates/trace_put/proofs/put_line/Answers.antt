-- `put_line` meets its contract: each of those in line is told.
use Rattle.std.proofs.Common.{rules, [], ◌∷◌, get_or}
use Rattle.rules.specs.Lines.{line}
use Rattle.trace_changes.proofs.Telling.{each_member}
use Rattle.trace_put.proofs.put_line.Goals as goal

pub returns : goal.returns
returns c =
    let all = line c.args.lines.now c.args.j in
    rw (c.len.ensures, each_member all) at (c.put_each.ensures (λ k. get_or all k 0 ∷ []) (λ k p r m q l h. search rules))
