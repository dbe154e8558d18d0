-- `zeros_behind` meets its contract: the places that are looked at are those behind the messages
use mathlib.Core.Path.{◌∙◌}
use borrow.Author.Tests.{lt-ltb}
use Rattle.rules.specs.Tables.{mailbox_most, mailbox_width}
use Rattle.std.proofs.Common.{rules, ◌+◌, ◌*◌, eqb, get_or}
use Rattle.sound.proofs.StandingLoops.{zeros-behind}
use Rattle.sound.proofs.objects.zeros_behind.Goals as goal

pub returns-then-m-lt-MAILBOX_ROWS : goal.returns-then-m-lt-MAILBOX_ROWS
returns-then-m-lt-MAILBOX_ROWS c =
    rw (lt-ltb _ _ c.if-m-lt-MAILBOX_ROWS.true)
    (zeros-behind mailbox_most _ _ (c.least-n.ensures ∙ rw c.index.ensures)
    (c.each_from.ensures (λ k. eqb (get_or c.args.mailboxes.now (c.args.m * mailbox_width + 1 + 1 + k) 0) 0) (λ k o l b p. search rules)))
