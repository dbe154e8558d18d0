-- `pace_sums::as_calls` meets its contract: after k turns the words of the first k records stand one behind the other.
use Rattle.pace_sums.proofs.Words.{no_words, next-words}
use Rattle.pace_sums.proofs.as_calls.Goals as goal

pub loop-k-init : goal.loop-k-init
loop-k-init c = no_words c.args.log.now c.args.calls.now

pub loop-k-preserved : goal.loop-k-preserved
loop-k-preserved c =
    next-words c.args.log.now c.args.calls.now c.loop-k.calls c.loop-k.k c.loop-k.invariant c.from.ensures
    c.read_arguments-bytes.ensures.bytes c.argument.ensures c.argument-in-loop-k.ensures
    c.argument-in-loop-k-2.ensures c.argument-in-loop-k-3.ensures
