-- `test_reader::walk` meets its contract: what is found and handed out is what `walked` says, since each read begins with the reader that the one before
-- it left.
use Rattle.test_reader.proofs.Walking.{walked-is}
use Rattle.test_reader.proofs.walk.Goals as goal

pub returns : goal.returns
returns c =
    walked-is c.args.log c.new-reader.ensures c.next-first.ensures
    (record { start = c.start_of.ensures; part = c.arguments.ensures.bytes; words = c.arguments_in-one.ensures })
    c.next-second.ensures
    (record { start = c.start_of-2.ensures; part = c.arguments-2.ensures.bytes; words = c.arguments_in-two.ensures })
    c.next-third.ensures
