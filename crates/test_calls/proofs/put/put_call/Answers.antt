-- `put_call` meets its contract: where the entries differ that is said; else the note is put over the end of the call's line.
use borrow.Author.Tests.{not-false}
use Rattle.rules.specs.Text.{line_text}
use Rattle.text.proofs.Lengths.{line-most}
use Rattle.test_calls.proofs.Texts.{some, put-over}
use Rattle.test_calls.proofs.put.put_call.Goals as goal

pub overflow_sub-end : goal.overflow_sub-end
overflow_sub-end c =
    some (line_text c.args.n c.args.tried.step.answer c.args.tried.step.thread) (line-most c.args.n c.args.tried.step.answer c.args.tried.step.thread) c.put_line-end.ensures

pub returns : goal.returns
returns c =
    rw (not-false c.args.tried.agrees c.if-not-tried.false)
    (put-over
    (line_text c.args.n c.args.tried.step.answer c.args.tried.step.thread)
    (line-most c.args.n c.args.tried.step.answer c.args.tried.step.thread)
    c.put_line-end.ensures
    c.args.note.now
    c.put_rest-2.ensures)
