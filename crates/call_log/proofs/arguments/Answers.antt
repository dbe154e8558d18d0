-- `call_log::arguments` meets its contract: each `return` hands out what `handed_out` says past the tests before it.
-- The last one hands it out where it lies.
-- At the others sixteen bytes are not there.
use Rattle.std.proofs.Common.{refl, arith}
use Rattle.call_log.proofs.Records.{past-empty, short-empty, sixteen-is}
use Rattle.call_log.proofs.arguments.Goals as goal

pub returns-then-len-start : goal.returns-then-len-start
returns-then-len-start c = record {
  bytes = past-empty c.args.log.now c.args.start c.if-len-start.true;
  place = λ there. absurd (omega (arith, c.if-len-start.true));
}

pub returns-then-len-start-lt16 : goal.returns-then-len-start-lt16
returns-then-len-start-lt16 c =
    record {
      bytes = short-empty c.args.log.now c.args.start c.if-len-start.false c.if-len-start-lt16.true;
      place = λ there. absurd (omega (arith, c.if-len-start-lt16.true));
    }

pub returns : goal.returns
returns c = record { bytes = sixteen-is c.args.log.now c.args.start c.if-len-start-lt16.false; place = λ there. refl }
