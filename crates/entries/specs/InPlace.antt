-- What the entries promise on lent tables: of the tables as they came, what was handed in, the tables as they are left and what was said.
use Rattle.std.specs.Prelude.{List, ℕ}
use Rattle.rules.specs.Step.{step_of}
use Rattle.rules.specs.declared.Call.{Call}
use Rattle.rules.specs.declared.Tables.{Tables}
use Rattle.runs.specs.CallList.{handed}
use Rattle.demands.specs.Promised.{Promised}
use Rattle.demands.specs.Lists.{PromisedList}
use Rattle.kernel.specs.declared.Said.{Said}

-- of a call
abbrev pub PromisedInPlace : Tables → Call → Tables → Said → Type 0
PromisedInPlace t q left r = Promised t q (step_of left r.answer r.thread)

-- of a list of calls, with the room for their answers
abbrev pub ListPromisedInPlace : Tables → List ℕ → List ℕ → Tables → List ℕ → Said → Type 0
ListPromisedInPlace t calls room left answers r = PromisedList t calls room (handed left answers r.answer r.thread)
