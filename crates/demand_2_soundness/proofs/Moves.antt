-- A task moves: out of its line if it has one, its row changed, into its next line at any place. Every movement of every call is one of these.
-- In this order: what may go where; the rows and lines after a movement, and each rule of them; a row that changes while its line does not.
use Prim.Native.Nat.{ℕ, ◌<◌, ◌≤◌, ◌*◌}
use mathlib.Core.Path.{◌≡◌, refl, sym, ap, ◌∙◌}
use mathlib.Core.Logic.{◌≢◌, inl, inr, ⊎_elim}
use mathlib.Core.Bool.{cond as if}
use mathlib.Core.List.{List, []}
use native.Mathlib.Omega.{arith}
use lib.Dec.{eqb}
use lib.ListN.{length}
use borrow.Author.Tests.{lt-ltb, eq-eqb, ne_eqb}
use Rattle.basics.specs.Lists.{bit, count, without, put_at}
use Rattle.basics.specs.Rule.{Means}
use Rattle.basics.proofs.Laws.{same?, count-put_at, count-without, count-without-other, length_without, without-absent, room}
use Rattle.rules.specs.Tables.{Typed, task_count, at_semaphore, at_event, reading, writing, task, with_task, semaphore, event, mailbox, USED, COUNT, BITS}
use Rattle.rules.specs.Tables.{CAPACITY, MESSAGES, levels, task_width}
use Rattle.rules.specs.Lines.{line_count, line_most, semaphore_line, event_line, mailbox_line, posted_line, active_line, line, home_of, task_home, out_of, entered}
use Rattle.rules.specs.Lines.{TaskQueues, task_queues, moved, line_width}
use Rattle.rules.specs.Events.{matched}
use Rattle.rules.specs.Sound.{task_rule, tasks_rule, lines_rule, semaphores_rule, events_rule, mailboxes_rule}
use Rattle.rules.specs.Step.{with_queued}
use Rattle.rules.specs.declared.Tables.{Tables}
use Rattle.rules.specs.declared.Task.{Task}
use Rattle.rules_laws.proofs.Lines.{left-same, left_other, length-left, entered-same, entered-other, length-entered}
use Rattle.demand_2_soundness.proofs.Groups.{OfTasks, SwisStay, Standing, Almost}
use Rattle.demand_2_soundness.proofs.Members.{bit_le, bit-same, bit-other, bit-eq, put_at-none, without-one}
use Rattle.demand_2_soundness.proofs.TaskRows.{length-with_task, task-same, task-other, tasks-with_task, home_out, row-stands, semaphore-row}
use Rattle.demand_2_soundness.proofs.TaskRows.{event-row, mailbox-row}
use Rattle.demand_2_soundness.proofs.Aside.{stands-aside, moved-aside}
use Rattle.demand_2_soundness.proofs.Stored.{left-lines, entered-lines}
use Rattle.demand_2_soundness.proofs.ObjectRules.{semaphore-fewer, semaphore-more, event-one, event-fewer, event-more, mailbox-waits, mailbox-kept}
use Rattle.demand_2_soundness.proofs.ObjectRules.{swi-kept, active-kept}
use Rattle.demand_2_soundness.proofs.Standing.{of-tasks}

-- the object at which the row k waits lets task i in: "A semaphore with waiters has count 0"; "the one waiter of an event", not satisfied by
-- its posted bits; "Readers wait only at an empty mailbox, writers only at a full one."
pub record Welcome (t : Tables) (i : ℕ) (k : Task) : Type 0 where
  pub semaphore : k.mode ≡ at_semaphore
      → (semaphore t.semaphores k.object USED ≢ 0) × (semaphore t.semaphores k.object COUNT ≡ 0)
  pub event : k.mode ≡ at_event
      → (event t.events k.object USED ≢ 0)
      × (line t.lines (event_line k.object) ≡ [])
      × (matched (event t.events k.object BITS) k.held k.mask ≡ 0)
  pub reader : k.mode ≡ reading
      → (mailbox t.mailboxes k.object CAPACITY ≢ 0) × (mailbox t.mailboxes k.object MESSAGES ≡ 0)
  pub writer : k.mode ≡ writing
      → (mailbox t.mailboxes k.object CAPACITY ≢ 0)
      × (mailbox t.mailboxes k.object MESSAGES ≡ mailbox t.mailboxes k.object CAPACITY)

pub queued-typed : (t : Tables) (q : TaskQueues) → Typed t → length q.tasks ≡ task_count * task_width → length q.lines ≡ line_count * line_width
    → Typed (with_queued t q)
queued-typed t q typed tasks lines =
    record {
      tasks = tasks;
      lines = lines;
      semaphores = typed.semaphores;
      events = typed.events;
      mailboxes = typed.mailboxes;
      swis = typed.swis;
      clocks = typed.clocks;
      heap = typed.heap;
      state = typed.state;
    }

module _ (t : Tables) (a : Almost t) (place : List ℕ → ℕ) (i : ℕ) (k : Task) (lt : i < task_count) (row : Means (task_rule (levels t.state) i k)) where
  abbrev new : TaskQueues
  new = moved place i k (task_queues t.tasks t.lines)

  -- the lines once the task has left its own, and who is left in line j
  abbrev mid : List ℕ
  mid = out_of (task_home t.tasks i) i t.lines

  abbrev rest : ℕ → List ℕ
  rest j = without i (line t.lines j)

  mid-full : length mid ≡ line_count * line_width
  mid-full = length-left t.lines (task_home t.tasks i) i ∙ a.typed.lines

  -- what the move is, for a task that there is
  pub moved-is : moved place i k (task_queues t.tasks t.lines)
      ≡ task_queues (with_task t.tasks i k) (entered place (home_of k) i (out_of (task_home t.tasks i) i t.lines))
  unfolding moved
  moved-is = rw (lt-ltb i task_count lt)

  -- the rows
  pub moved_row : task (moved place i k (task_queues t.tasks t.lines)).tasks i ≡ k
  moved_row = rw moved-is (task-same t.tasks i k a.typed.tasks lt)

  pub moved-rows : (x : ℕ) → x ≢ i → task (moved place i k (task_queues t.tasks t.lines)).tasks x ≡ task t.tasks x
  moved-rows x n = rw moved-is (task-other t.tasks i k x n)

  -- the lines: a line of tasks loses the one that moves, and the next line has it at its place; lines of Swis stay
  mid-line : (j : ℕ) → OfTasks j → line mid j ≡ rest j
  mid-line j o =
      ⊎_elim
      (λ (e : j ≡ task_home t.tasks i). rw (← e) (left-same t.lines j i (of-tasks j o).0 a.typed.lines))
      (λ (n : j ≢ task_home t.tasks i).
      left_other t.lines (task_home t.tasks i) i j n
      ∙ sym (without-absent i (line t.lines j) (a.standing.tasks i j o ∙ bit-other (task_home t.tasks i) j (λ e. n (sym e)))))
      (same? j (task_home t.tasks i))

  -- there is room: tasks are 32, and the one that moves does not stand there
  mid-room : (j : ℕ) → OfTasks j → length (rest j) < line_most
  mid-room j o = room task_count i (rest j) lt (count-without i (line t.lines j)) ones lows
    where
      ones : (y : ℕ) → count y (rest j) ≤ 1
      ones y =
          ⊎_elim
          (λ (e : y ≡ i). rw e (omega (arith, count-without i (line t.lines j))))
          (λ (n : y ≢ i).
          omega (arith, count-without-other y i (line t.lines j) n, a.standing.tasks y j o, bit_le (eqb (task_home t.tasks y) j)))
          (same? y i)

      lows : (y : ℕ) → task_count ≤ y → count y (rest j) ≡ 0
      lows y h =
          count-without-other y i (line t.lines j) (λ e. omega arith)
          ∙ a.standing.tasks y j o
          ∙ bit-other (task_home t.tasks y) j (λ e. omega (arith, home_out t.tasks y h, (of-tasks j o).0))

  pub moved-line : (j : ℕ) → OfTasks j
      → line (moved place i k (task_queues t.tasks t.lines)).lines j
      ≡ if (eqb j (home_of k)) (put_at (place (without i (line t.lines j))) i (without i (line t.lines j))) (without i (line t.lines j))
  moved-line j o =
      rw moved-is
      (⊎_elim
      (λ (e : j ≡ home_of k).
      rw (eq-eqb j (home_of k) e, ← e)
      (entered-same mid j i place (of-tasks j o).0 mid-full (rw (mid-line j o) (mid-room j o))
      ∙ rw (mid-line j o)))
      (λ (n : j ≢ home_of k). rw (ne_eqb j (home_of k) n) (entered-other mid (home_of k) i place j n ∙ mid-line j o))
      (same? j (home_of k)))

  pub moved-swi-line : SwisStay t.lines (moved place i k (task_queues t.tasks t.lines)).lines
  moved-swi-line = moved-aside (task_queues t.tasks t.lines) _ a.tasks place i k (stands-aside k (row-stands _ i k row))

  -- the two kinds of lines of tasks
  pub moved-into : (j : ℕ) → OfTasks j → j ≡ home_of k → line new.lines j ≡ put_at (place (rest j)) i (rest j)
  moved-into j o e = rw (eq-eqb j (home_of k) e) at (moved-line j o)

  pub moved-from : (j : ℕ) → OfTasks j → j ≢ home_of k → line new.lines j ≡ rest j
  moved-from j o n = rw (ne_eqb j (home_of k) n) at (moved-line j o)

  -- the one that moves stands in its next line alone, and all others stand where they stood
  pub count-mover : (j : ℕ) → OfTasks j → count i (line new.lines j) ≡ bit (eqb (home_of k) j)
  count-mover j o =
      ⊎_elim
      (λ (e : j ≡ home_of k).
      rw (moved-into j o e)
      (count-put_at i (place (rest j)) i (rest j)
      ∙ omega (arith, count-without i (line t.lines j), bit-same i i refl, bit-same (home_of k) j (sym e))))
      (λ (n : j ≢ home_of k). rw (moved-from j o n) (omega (arith, count-without i (line t.lines j), bit-other (home_of k) j (λ e. n (sym e)))))
      (same? j (home_of k))

  pub count-others : (x j : ℕ) → OfTasks j → x ≢ i → count x (line new.lines j) ≡ count x (line t.lines j)
  count-others x j o d =
      ⊎_elim
      (λ (e : j ≡ home_of k).
      rw (moved-into j o e)
      (count-put_at x (place (rest j)) i (rest j)
      ∙ omega (arith, count-without-other x i (line t.lines j) d, bit-other i x (λ q. d (sym q)))))
      (λ (n : j ≢ home_of k). rw (moved-from j o n) (count-without-other x i (line t.lines j) d))
      (same? j (home_of k))

  pub moved-fewer : (j : ℕ) → OfTasks j → j ≢ home_of k → length (line new.lines j) ≤ length (line t.lines j)
  moved-fewer j o n = rw (moved-from j o n) (omega (arith, length_without i (line t.lines j)))

  -- ---- the rules
  moved-typed : Typed (with_queued t new)
  moved-typed =
      queued-typed t new a.typed
      (rw moved-is (length-with_task t.tasks i k ∙ a.typed.tasks))
      (rw moved-is (length-entered mid (home_of k) i place ∙ mid-full))

  moved-tasks : Means (tasks_rule (levels t.state) new.tasks)
  moved-tasks = rw moved-is (tasks-with_task _ t.tasks i k a.typed.tasks lt a.tasks row)

  moved_lines : Means (lines_rule new.lines)
  moved_lines =
      rw moved-is
      (entered-lines mid mid-full
      (left-lines t.lines a.typed.lines a.lines (task_home t.tasks i) i) place (home_of k) i)

  moved-standing : Standing new.tasks t.swis new.lines
  moved-standing =
      record {
        tasks = λ x j o.
            ⊎_elim
            (λ (e : x ≡ i). rw (e, moved_row) (count-mover j o))
            (λ (n : x ≢ i). rw (moved-rows x n) (count-others x j o n ∙ a.standing.tasks x j o))
            (same? x i);
        swis = λ x p h. rw (moved-swi-line (posted_line p) (omega arith) (omega arith)) (a.standing.swis x p h);
      }

  module _ (welcome : Welcome t i k) where
    moved-semaphores : Means (semaphores_rule t.semaphores new.lines)
    moved-semaphores s h =
        ⊎_elim
        (λ (e : semaphore_line s ≡ home_of k).
        let (m, q) = semaphore-row k (row-stands _ i k row) s h (sym e) in
        let (used, none) = welcome.semaphore m in
        semaphore-more t.semaphores t.lines new.lines s (a.semaphores s h) (rw q at used) (rw q at none))
        (λ (n : semaphore_line s ≢ home_of k).
        semaphore-fewer t.semaphores t.lines new.lines s (a.semaphores s h) (moved-fewer (semaphore_line s) (inl (omega arith)) n))
        (same? (semaphore_line s) (home_of k))

    moved-events : Means (events_rule new.tasks t.events new.lines)
    unfolding without
    moved-events n h =
        ⊎_elim
        (λ (e : event_line n ≡ home_of k).
        let (m, q) = event-row k (row-stands _ i k row) n h (sym e) in
        let (used, empty, unmet) = welcome.event m in
        let nobody : line t.lines (event_line n) ≡ [] = rw q at empty in
        event-more t.tasks new.tasks t.events t.lines new.lines n (a.events n h) i (rw q at used)
        (moved-into (event_line n) (inl (omega arith)) e ∙ rw nobody (put_at-none (place []) i))
        (rw moved_row (rw q at unmet)))
        (λ (d : event_line n ≢ home_of k).
        event-fewer t.tasks new.tasks t.events t.lines new.lines n (a.events n h)
        (rw (moved-from (event_line n) (inl (omega arith)) d)
        (without-one i (line t.lines (event_line n)) (event-one t.tasks t.events t.lines n (a.events n h))))
        (λ x c.
        ⊎_elim
        (λ (e : x ≡ i). let g = rw e at c in absurd (d (sym (bit-eq (home_of k) (event_line n) (rw (count-mover (event_line n) (inl (omega arith))) at g)))))
        (λ (b : x ≢ i). rw (moved-rows x b) (refl, refl))
        (same? x i)))
        (same? (event_line n) (home_of k))

    moved-mailboxes : Means (mailboxes_rule new.tasks t.mailboxes new.lines)
    moved-mailboxes m h =
        mailbox-kept t.tasks new.tasks t.mailboxes t.lines new.lines m (a.mailboxes m h)
        (⊎_elim
        (λ (e : mailbox_line m ≡ home_of k). inr (at-mailbox (sym e)).0)
        (λ (n : mailbox_line m ≢ home_of k). inl (moved-fewer (mailbox_line m) (inl (omega arith)) n))
        (same? (mailbox_line m) (home_of k)))
        (λ x c.
        ⊎_elim
        (λ (e : x ≡ i).
        let g = rw e at c in
        rw (e, moved_row) (at-mailbox (bit-eq (home_of k) (mailbox_line m) (rw (count-mover (mailbox_line m) (inl (omega arith))) at g))).1)
        (λ (n : x ≢ i).
        rw (moved-rows x n)
        (mailbox-waits t.tasks t.mailboxes t.lines m (a.mailboxes m h) x (rw (count-others x (mailbox_line m) (inl (omega arith)) n) at c)))
        (same? x i))
      where
        at-mailbox : home_of k ≡ mailbox_line m
            → (mailbox t.mailboxes m CAPACITY ≢ 0)
            × ((k.mode ≡ reading → mailbox t.mailboxes m MESSAGES ≡ 0)
            × (k.mode ≡ writing → mailbox t.mailboxes m MESSAGES ≡ mailbox t.mailboxes m CAPACITY))
        at-mailbox e =
            let (mode, q) = mailbox-row k (row-stands _ i k row) m h e in (
              ⊎_elim (λ (r : k.mode ≡ reading). rw q at (welcome.reader r).0) (λ (r : k.mode ≡ writing). rw q at (welcome.writer r).0) mode,
              ((λ r. rw q at (welcome.reader r).1), (λ r. rw q at (welcome.writer r).1)),
            )

    pub moved_keeps : Almost (with_queued t (moved place i k (task_queues t.tasks t.lines)))
    moved_keeps =
        let active = moved-swi-line active_line (omega arith) (omega arith) in
        record {
          typed = moved-typed;
          heap = a.heap;
          clocks = a.clocks;
          tasks = moved-tasks;
          lines = moved_lines;
          standing = moved-standing;
          semaphores = moved-semaphores;
          events = moved-events;
          mailboxes = moved-mailboxes;
          swis = λ x h. swi-kept t.swis t.swis t.lines new.lines x (λ f. refl) (ap (count x) active) (a.swis x h);
          active = active-kept t.swis t.swis t.lines new.lines active (λ x h. (refl, refl)) a.active;
        }

-- ---- a task's row changes, and its line does not: of a task in a line the mode and what it holds stay
module _ (t : Tables) (a : Almost t) (i : ℕ) (k : Task) (lt : i < task_count) (row : Means (task_rule (levels t.state) i k))
    (home : home_of k ≡ task_home t.tasks i)
    (holds : home_of k < line_count
    → (k.mode ≡ (task t.tasks i).mode) × (k.held ≡ (task t.tasks i).held) × (k.mask ≡ (task t.tasks i).mask)) where
  abbrev us : List ℕ
  us = with_task t.tasks i k

  -- what a task that stands in a line had, it has
  row-held : (x j : ℕ) → OfTasks j → 0 < count x (line t.lines j)
      → ((task us x).mode ≡ (task t.tasks x).mode) × ((task us x).held ≡ (task t.tasks x).held) × ((task us x).mask ≡ (task t.tasks x).mask)
  row-held x j o c =
      ⊎_elim
      (λ (e : x ≡ i).
      let at : task_home t.tasks i ≡ j = bit-eq (task_home t.tasks i) j (rw (e, a.standing.tasks i j o) at c) in
      rw (e, task-same t.tasks i k a.typed.tasks lt) (holds (omega (arith, (of-tasks j o).0))))
      (λ (n : x ≢ i). rw (task-other t.tasks i k x n) (refl, refl, refl))
      (same? x i)

  row-home : (x : ℕ) → task_home us x ≡ task_home t.tasks x
  row-home x =
      ⊎_elim
      (λ (e : x ≡ i). rw (e, task-same t.tasks i k a.typed.tasks lt) home)
      (λ (n : x ≢ i). rw (task-other t.tasks i k x n))
      (same? x i)

  row-events : Means (events_rule us t.events t.lines)
  row-events n h =
      event-fewer t.tasks us t.events t.lines t.lines n (a.events n h) (inl refl)
      (λ x c. let (_, p, q) = row-held x (event_line n) (inl (omega arith)) c in (p, q))

  row-mailboxes : Means (mailboxes_rule us t.mailboxes t.lines)
  row-mailboxes m h =
      mailbox-kept t.tasks us t.mailboxes t.lines t.lines m (a.mailboxes m h) (inl (omega arith))
      (λ x c.
      rw (row-held x (mailbox_line m) (inl (omega arith)) c).0
      (mailbox-waits t.tasks t.mailboxes t.lines m (a.mailboxes m h) x c))

  pub row_keeps : Almost (with_queued t (task_queues (with_task t.tasks i k) t.lines))
  row_keeps =
      record {
        typed = queued-typed t (task_queues us t.lines) a.typed (length-with_task t.tasks i k ∙ a.typed.tasks) a.typed.lines;
        heap = a.heap;
        clocks = a.clocks;
        tasks = tasks-with_task _ t.tasks i k a.typed.tasks lt a.tasks row;
        lines = a.lines;
        standing = record { tasks = λ x j o. rw (row-home x) (a.standing.tasks x j o); swis = a.standing.swis };
        semaphores = a.semaphores;
        events = row-events;
        mailboxes = row-mailboxes;
        swis = a.swis;
        active = a.active;
      }
