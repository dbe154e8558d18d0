-- `read_in` meets its contract: its tests are those of `read_in`, in their order
use Rattle.std.proofs.Common.{◌≡◌, sym, ◌∙◌}
use Rattle.rules.specs.Log.{half_at}
use Rattle.call_log.proofs.Records.{past_is, end_is, one-left-is, length-is, short-is, version-is, record_is}
use Rattle.call_log.proofs.read_in.Goals as goal

pub returns-then-log-at : goal.returns-then-log-at
returns-then-log-at c = past_is c.args.version c.args.log.now c.args.at c.if-log-at.true

pub returns-then-log-at-2 : goal.returns-then-log-at-2
returns-then-log-at-2 c = end_is c.args.version c.args.log.now c.args.at c.if-log-at-2.true

pub returns-then-log-at-eq1 : goal.returns-then-log-at-eq1
returns-then-log-at-eq1 c =
    one-left-is c.args.version c.args.log.now c.args.at c.if-log-at.false c.if-log-at-2.false c.if-log-at-eq1.true

pub returns-then-half_at-ne18 : goal.returns-then-half_at-ne18
returns-then-half_at-ne18 c =
    length-is c.args.version c.args.log.now c.args.at c.if-log-at.false c.if-log-at-2.false c.if-log-at-eq1.false
    (λ h. c.if-half_at-ne18.true (c.half_at.ensures.0 ∙ h))

pub returns-then-log-at-lt20 : goal.returns-then-log-at-lt20
returns-then-log-at-lt20 c =
    let length-18 : half_at c.args.log.now c.args.at ≡ 18 = sym c.half_at.ensures.0 ∙ c.if-half_at-ne18.false in
    short-is c.args.version c.args.log.now c.args.at c.if-log-at.false c.if-log-at-2.false c.if-log-at-eq1.false (length-18) c.if-log-at-lt20.true

pub returns-then-is_version-log : goal.returns-then-is_version-log
returns-then-is_version-log c =
    let length-18 : half_at c.args.log.now c.args.at ≡ 18 = sym c.half_at.ensures.0 ∙ c.if-half_at-ne18.false in
    version-is c.args.version c.args.log.now c.args.at c.if-log-at.false c.if-log-at-2.false c.if-log-at-eq1.false
    (length-18) c.if-log-at-lt20.false (rw (← c.is_version.ensures) c.if-is_version-log.true)

pub returns : goal.returns
returns c =
    let length-18 : half_at c.args.log.now c.args.at ≡ 18 = sym c.half_at.ensures.0 ∙ c.if-half_at-ne18.false in
    record_is c.args.version c.args.log.now c.args.at c.if-log-at.false c.if-log-at-2.false c.if-log-at-eq1.false
    (length-18) c.if-log-at-lt20.false (rw (← c.is_version.ensures) c.if-is_version-log.false)
