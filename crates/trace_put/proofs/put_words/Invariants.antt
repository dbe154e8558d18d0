-- the words so far are told
use Rattle.std.proofs.Common.{take}
use Rattle.trace_changes.specs.Numbers.{PutNumbers}
use Rattle.trace_put.proofs.put_words.Given as goal

abbrev pub invariant-loop-x : goal.invariant-loop-x
invariant-loop-x l = PutNumbers l.initial.out l.at (take l.x-index l.words) l.out l.p
