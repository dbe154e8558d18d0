-- `test_reader::main` expects what `walked` computes to for its log.
use Rattle.test_reader.proofs.Example.{as-expected}
use Rattle.test_reader.proofs.main.Goals as goal

pub expect-requires : goal.expect-requires
expect-requires c =
    as-expected c.walk-walked.ensures c.is_record.ensures c.are.ensures c.is_record-2.ensures c.are-2.ensures
    c.is_version.ensures
