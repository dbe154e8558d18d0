-- `member` meets its contract: one who stands in a line has a row and a place in it; past the last the list has a 0.
use native.Mathlib.Omega.{arith}
use Rattle.lines.proofs.InLine.{in_row, member_is}
use Rattle.lines.proofs.member.Goals as goal

pub overflow_mul-result : goal.overflow_mul-result
overflow_mul-result c = let h = in_row _ _ c.len.ensures c.if-k-len.true in omega arith

pub overflow_add-result : goal.overflow_add-result
overflow_add-result c = let h = in_row _ _ c.len.ensures c.if-k-len.true in omega arith

pub overflow_add-result-then-k-len : goal.overflow_add-result-then-k-len
overflow_add-result-then-k-len c = let h = in_row _ _ c.len.ensures c.if-k-len.true in omega arith

pub bounds-lines-j : goal.bounds-lines-j
bounds-lines-j c = let h = in_row _ _ c.len.ensures c.if-k-len.true in omega arith

pub returns-then-k-len : goal.returns-then-k-len
returns-then-k-len c = member_is _ _ _ c.len.ensures c.if-k-len.true
