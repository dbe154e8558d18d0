-- What forbids a wait, a sleep or an end by the state, where it would begin.
use Rattle.std.specs.Prelude.{ℕ, Bool, ◌&&◌, cond as if}
use Rattle.rules.specs.Tables.{StateRow}
use Rattle.rules.specs.Waits.{idle, switch_off}

-- 5 for task 0, then 9 while either switch is off; 0 where nothing begins or nothing forbids it
abbrev pub wait_code : Bool → StateRow → ℕ
wait_code begins st = if (begins && idle st) 5 (if (begins && switch_off st) 9 0)
