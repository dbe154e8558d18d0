-- `put_messages` meets its contract: each message is told.
use Rattle.std.proofs.Common.{rules, arith, ◌<◌, ◌∷◌, [], get_or}
use Rattle.rules.specs.Tables.{messages}
use Rattle.trace_changes.proofs.Telling.{each_member}
use Rattle.mailboxes.proofs.InMailbox.{message-is, count-is}
use Rattle.trace_objects.proofs.put_messages.Goals as goal

pub put_each-requires : goal.put_each-requires
put_each-requires c = λ m p i l. let few : i < 8 = omega (arith, c.count-n.ensures, count-is c.args.mailboxes.now c.args.i) in search rules

pub returns : goal.returns
returns c =
    let all = messages c.args.mailboxes.now c.args.i in
    rw (c.count-n.ensures, each_member all) at (c.put_each.ensures (λ k. get_or all k 0 ∷ []) (λ k p r m q l h. rw (← message-is _ _ k c.count-n.ensures l) (search rules)))
