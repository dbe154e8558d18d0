-- `put_waited` meets its contract: three parts, each behind its bar.
use Rattle.trace_changes.proofs.Telling.{part-first, part-last}
use Rattle.trace_line.proofs.put_waited.Goals as goal

pub returns : goal.returns
returns c =
    part-first _ _ c.put_bar-s.ensures c.put_lined-after_s.ensures
    (part-first _ _ c.put_bar-e.ensures c.put_lined-after_e.ensures
    (part-last _ c.put_bar-m.ensures c.put_mailboxes.ensures))
