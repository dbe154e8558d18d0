-- The line of a record (docs/TRACE.md): "A line has thirteen parts. Each number or thread is followed by a space, and each part but the last by `; `.
-- All thirteen are always there; a part with nothing to tell is empty."
use Rattle.std.specs.Prelude.{ℕ, ◌+◌, ◌*◌, ◌≤◌, ◌<◌, suc, List, [], ◌∷◌, ◌++◌, length, get_or}
use Rattle.rules.specs.Text.{space, line_feed, thread_text}
use Rattle.rules.specs.Tables.{LineTable, StateRow, word_end, state, TICK, task_count, swi_count, semaphore_count, event_count, mailbox_count, clock_count, swi_levels}
use Rattle.rules.specs.Dispatch.{running}
use Rattle.rules.specs.declared.Tables.{Tables}
use Rattle.text.specs.Put.{Put}
use Rattle.trace_changes.specs.Numbers.{columns}
use Rattle.trace_changes.specs.Changes.{state_now, changed_tasks, posts_made, started_swi, posted_swis, active_swis, changed_semaphores, changed_events}
use Rattle.trace_changes.specs.Changes.{changed_mailboxes, changed_swis, changed_clocks, changed_heap}
use Rattle.trace_changes.specs.declared.Made.{Made}

-- 1 "the call: record, tick, caller, call number, four arguments, code, outcome, value, thread"
-- "Tick and caller are the tick count and the running thread before the call; the thread at the end .. after it."
unfoldable pub call_text : Made → LineTable → StateRow → List ℕ
call_text q ls st =
    columns (q.n ∷ state st TICK ∷ [])
    ++ ((thread_text (running ls st) ++ space)
    ++ (columns (q.asked.number ∷ q.asked.a ∷ q.asked.b ∷ q.asked.c ∷ q.asked.d ∷ q.answer.code ∷ q.answer.outcome ∷ q.answer.value ∷ [])
    ++ (thread_text q.thread ++ space)))

-- 2 to 13: of the tables t before the call and u after it
unfoldable pub parts : Made → Tables → Tables → List (List ℕ)
parts q t u =
    state_now u.state
    ∷ changed_tasks t.tasks u.tasks
    ∷ posts_made q t.clocks t.swis
    ∷ started_swi q t.lines u.lines
    ∷ posted_swis u.lines
    ∷ active_swis u.lines
    ∷ changed_semaphores t.semaphores t.lines u.semaphores u.lines
    ∷ changed_events t.events t.lines u.events u.lines
    ∷ changed_mailboxes t.mailboxes t.lines u.mailboxes u.lines
    ∷ changed_swis t.swis u.swis
    ∷ changed_clocks q t.clocks u.clocks
    ∷ changed_heap t.heap u.heap
    ∷ []

-- "; "
abbrev pub bar : List ℕ
bar = 59 ∷ 32 ∷ []

-- each part behind a bar
unfoldable pub barred : List (List ℕ) → List ℕ
barred [] = []
barred (p ∷ ps) = bar ++ (columns p ++ barred ps)

unfoldable pub trace_line : Made → Tables → Tables → List ℕ
trace_line q t u = call_text q t.lines t.state ++ (barred (parts q t u) ++ line_feed)

-- ---- how long a line can be
-- every entry of the list is below m: what a table's type says of its numbers
abbrev pub Under : ℕ → List ℕ → Type 0
Under m t = (k : ℕ) → get_or t k 0 < m

-- the tables from which a line is told: words and bytes
pub record Typical (ts ls ss es bs ws cs : List ℕ) : Type 0 where
  pub tasks : Under word_end ts
  pub lines : Under 256 ls
  pub semaphores : Under word_end ss
  pub events : Under word_end es
  pub mailboxes : Under word_end bs
  pub swis : Under word_end ws
  pub clocks : Under word_end cs

-- call and state 380; 32 tasks of 70; 16 posts of 29, a start 21, Swis in 17 lines of 128; 16 semaphores of 169, 8 events of 158, 8 mailboxes of 239;
-- 16 Swis of 70, 16 clocks of 59; the heap 42; bars and line feed 25: 13,292 bytes
abbrev pub line_most : ℕ
line_most =
    380 + task_count * 70 + clock_count * 29 + 21 + suc swi_levels * 128 + semaphore_count * 169 + event_count * 158 + mailbox_count * 239 + swi_count * 70
    + clock_count * 59 + 42 + 25

-- a line at a place of text xs gives ys and ends at r, and no line is longer than that
pub record Lined (xs : List ℕ) (at : ℕ) (line : List ℕ) (ys : List ℕ) (r : ℕ) : Type 0 where
  pub put : Put xs at line ys r
  pub short : length line ≤ line_most
