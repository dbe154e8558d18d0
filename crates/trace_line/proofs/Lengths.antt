-- How long a line of the trace is at most, whatever the tables are: by the digits of each number.
use Prim.Native.Nat.{ℕ, zero, suc, ◌+◌, ◌*◌, ◌/◌, ◌%◌, ◌≤◌, ◌<◌}
use mathlib.Core.Path.{◌≡◌, refl, sym, ap, ◌∙◌}
use mathlib.Core.Bool.{Bool, true, false, not, ◌&&◌, ◌||◌, cond as if}
use mathlib.Core.List.{List, [], ◌∷◌, ◌++◌}
use native.Mathlib.Omega.{arith}
use native.Mathlib.Nat.{mul-le-mul_right}
use borrow.Author.Tests.{lt-ltb}
use lib.Dec.{eqb, ltb}
use lib.ListN.{length, get_or, length-append}
use Rattle.basics.specs.Lists.{bit}
use Rattle.rules.specs.Rows.{field, listed}
use Rattle.rules.specs.Tables.{task_count, task_width, swi_count, swi_width, swi_levels, semaphore_count, semaphore_width, event_count, event_width, clock_count}
use Rattle.rules.specs.Tables.{clock_width, mailbox_count, mailbox_width, mailbox_most, CAPACITY, MESSAGES, task, clock, messages, state, TICK}
use Rattle.rules.specs.Lines.{line, line_count, line_width, line_most as line_room, semaphore_line, mailbox_line, event_line, active_line}
use Rattle.rules.specs.Swis.{top}
use Rattle.rules.specs.Dispatch.{running}
use Rattle.rules.specs.Text.{digits, decimal}
use Rattle.rules.specs.declared.Tables.{Tables}
use Rattle.rules_laws.proofs.Rows.{by-range}
use Rattle.rules_laws.proofs.Listed.{listed_le, at_listed}
use Rattle.rules_laws.proofs.Lines.{line-in, line-out, line-le}
use Rattle.rules_laws.proofs.Calls.{chosen}
use Rattle.text.proofs.Lengths.{decimal-most, thread-most}
use Rattle.trace_changes.specs.Numbers.{columns, each_below, same_list, told}
use Rattle.trace_changes.specs.Changes.{row, same_row, waiting, state_now, same_task, task_numbers, changed_tasks, post, is_posted, call_clock, call_posts}
use Rattle.trace_changes.specs.Changes.{call_post, runs_out}
use Rattle.trace_changes.specs.Changes.{posted_below, clock_post, clock_posts, is_tick, posts_made}
use Rattle.trace_changes.specs.Changes.{is_started, started_swi, posted_swis, changed_lined, same_mailbox, changed_mailboxes, mailbox_numbers}
use Rattle.trace_changes.specs.Changes.{changed_rows, ran_out, changed_clocks, same_heap, blocks, units_taken, changed_heap}
use Rattle.trace_changes.specs.Line.{call_text, barred, parts, trace_line, Under, Typical, line_most}
use Rattle.trace_changes.specs.declared.Made.{Made}
use Rattle.trace_changes.proofs.Telling.{columns-append}
use Rattle.trace_changes.proofs.Steps.{bit-most}

-- ---- the digits of a number
tens : ℕ → ℕ
tens zero = 1
tens (suc j) = 10 * tens j

digits-within : (k j n : ℕ) → n < tens (suc j) → length (digits k n) ≤ suc j
unfolding digits tens
digits-within zero j n h = omega arith
digits-within (suc k) zero n h = rw (lt-ltb n 10 (omega arith)) (omega arith)
digits-within (suc k) (suc j) n h =
    let ih = digits-within k j (n / 10) (omega arith) in
    either (ltb n 10) _ _ (suc (suc j)) (omega arith) (omega (arith, length-append (digits k (n / 10)) ((48 + n % 10) ∷ [])))
  where
    either : (b : Bool) (s t : List ℕ) (m : ℕ) → length s ≤ m → length t ≤ m → length (if b s t) ≤ m
    either true s t m h g = h
    either false s t m h g = g

word-most : (n : ℕ) → n < 4294967296 → length (decimal n) ≤ 10
unfolding decimal tens
word-most n h = digits-within 20 9 n (omega arith)

byte-most : (n : ℕ) → n < 256 → length (decimal n) ≤ 3
unfolding decimal tens
byte-most n h = digits-within 20 2 n (omega arith)

-- ---- numbers one after the other
columns-nil : length (columns []) ≡ 0
unfolding columns
columns-nil = refl

columns-more : (x : ℕ) (xs : List ℕ) → length (columns (x ∷ xs)) ≡ length (decimal x) + 1 + length (columns xs)
unfolding columns
columns-more x xs = simp length-append

-- any number has at most twenty digits
long : (x : ℕ) (xs : List ℕ) (m : ℕ) → length (columns xs) ≤ m → length (columns (x ∷ xs)) ≤ 21 + m
long x xs m h = omega (arith, columns-more x xs, decimal-most x)

word : (x : ℕ) (xs : List ℕ) (m : ℕ) → x < 4294967296 → length (columns xs) ≤ m → length (columns (x ∷ xs)) ≤ 11 + m
word x xs m l h = omega (arith, columns-more x xs, word-most x l)

small : (x : ℕ) (xs : List ℕ) (m : ℕ) → x < 256 → length (columns xs) ≤ m → length (columns (x ∷ xs)) ≤ 4 + m
small x xs m l h = omega (arith, columns-more x xs, byte-most x l)

both : (xs ys : List ℕ) (m n : ℕ) → length (columns xs) ≤ m → length (columns ys) ≤ n → length (columns (xs ++ ys)) ≤ m + n
both xs ys m n h g = omega (arith, ap length (columns-append xs ys) ∙ length-append (columns xs) (columns ys))

-- what may be told
perhaps : (b : Bool) (xs : List ℕ) (m : ℕ) → length (columns xs) ≤ m → length (columns (told b xs)) ≤ m
perhaps true xs m h = h
perhaps false xs m h = omega (arith, columns-nil)

-- ---- for each number below n
each-most : (n : ℕ) (f : ℕ → List ℕ) (b : ℕ) → ((i : ℕ) → i < n → length (columns (f i)) ≤ b) → length (columns (each_below n f)) ≤ n * b
unfolding each_below
each-most zero f b h = omega (arith, columns-nil)
each-most (suc n) f b h =
    let ih = each-most n f b (λ i l. h i (omega arith)) in
    omega (arith, both (each_below n f) (f n) (n * b) b ih (h n (omega arith)))

-- a list of words, of bytes: as many as it has
members-most : (xs : List ℕ) (m b : ℕ) → length xs ≤ m → ((k : ℕ) → k < length xs → length (decimal (get_or xs k 0)) + 1 ≤ b) → length (columns xs) ≤ m * b
members-most [] m b l h = omega (arith, columns-nil)
members-most (x ∷ xs) m b l h =
    let ih = members-most xs (length xs) b (omega arith) (λ k g. h (suc k) (omega arith)) in
    let most : suc (length xs) * b ≤ m * b = mul-le-mul_right b l in
    omega (arith, columns-more x xs, h 0 (omega arith))

-- ---- lines and rows
field-under : (w n : ℕ) (t : List ℕ) (i f : ℕ) → Under 4294967296 t → field w n t i f < 4294967296
unfolding field
field-under w n t i f h = chosen (λ (x : ℕ). x < 4294967296) (ltb i n && ltb f w) _ _ (λ _. h (i * w + f)) (λ _. omega arith)

listed-under : (b m : ℕ) (t : List ℕ) (a k : ℕ) → Under b t → k < length (listed m t a) → get_or (listed m t a) k 0 < b
listed-under b m t a k h l = rw (at_listed m t a k l) at (h (a + 1 + k))

line-most : (ls : List ℕ) (j : ℕ) → Under 256 ls → length (columns (line ls j)) ≤ 128
line-most ls j h =
    by-range j line_count
    (λ l.
    rw (line-in ls j l)
    (members-most (listed line_room ls (j * line_width)) line_room 4 (listed_le line_room ls (j * line_width))
    (λ k g. let d = byte-most _ (listed-under 256 line_room ls (j * line_width) k h g) in omega arith)))
    (λ l. rw (line-out ls j l) (omega (arith, columns-nil)))

messages-few : (ms : List ℕ) (i : ℕ) → length (messages ms i) ≤ mailbox_most
unfolding messages
messages-few ms i =
    chosen (λ (xs : List ℕ). length xs ≤ mailbox_most) (ltb i mailbox_count) _ _ (λ _. listed_le mailbox_most ms (i * mailbox_width + MESSAGES)) (λ _. omega arith)

messages-most : (ms : List ℕ) (i : ℕ) → Under 4294967296 ms → length (columns (messages ms i)) ≤ 88
unfolding messages
messages-most ms i h =
    chosen (λ (xs : List ℕ). length (columns xs) ≤ 88) (ltb i mailbox_count) _ _
    (λ _.
    members-most (listed mailbox_most ms (i * mailbox_width + MESSAGES)) mailbox_most 11 (listed_le mailbox_most ms (i * mailbox_width + MESSAGES))
    (λ k g. let d = word-most _ (listed-under 4294967296 mailbox_most ms (i * mailbox_width + MESSAGES) k h g) in omega arith))
    (λ _. omega (arith, columns-nil))

row-most : (w n : ℕ) (t : List ℕ) (i : ℕ) → Under 4294967296 t → length (columns (row w n t i)) ≤ w * 11
unfolding row
row-most w n t i h = each-most w _ 11 (λ f l. word (field w n t i f) [] 0 (field-under w n t i f h) (omega (arith, columns-nil)))

waiting-most : (ls : List ℕ) (j : ℕ) → Under 256 ls → length (columns (waiting ls j)) ≤ 132
unfolding waiting
waiting-most ls j h = small _ (line ls j) 128 (omega (arith, line-le ls j)) (line-most ls j h)

-- ---- the parts
state-most : (st : List ℕ) → length (columns (state_now st)) ≤ 126
unfolding state_now
state-most st = long _ _ 105 (long _ _ 84 (long _ _ 63 (long _ _ 42 (long _ _ 21 (long _ [] 0 (omega (arith, columns-nil)))))))

task-under : (ts : List ℕ) (i f : ℕ) → Under 4294967296 ts → field task_width task_count ts i f < 4294967296
task-under ts i f h = field-under task_width task_count ts i f h

tasks-most : (ts us : List ℕ) → Under 4294967296 us → length (columns (changed_tasks ts us)) ≤ task_count * 70
unfolding changed_tasks task_numbers task
tasks-most ts us h =
    each-most task_count _ 70
    (λ i l.
    perhaps (not (same_task (task ts i) (task us i))) _ 70
    (small i _ 66 (omega arith)
    (word _ _ 55 (task-under us i 0 h)
    (word _ _ 44 (task-under us i 1 h)
    (word _ _ 33 (task-under us i 2 h)
    (word _ _ 22 (task-under us i 3 h) (word _ _ 11 (task-under us i 6 h) (word _ [] 0 (task-under us i 7 h) (omega (arith, columns-nil))))))))))

post-most : (c i : ℕ) (b : Bool) → c < 256 → length (columns (post c i b)) ≤ 29
post-most c i b l = small c _ 25 l (long i _ 4 (small (bit b) [] 0 (omega (arith, bit-most b)) (omega (arith, columns-nil))))

posts-most : (q : Made) (cs ws : List ℕ) → length (columns (posts_made q cs ws)) ≤ 464
unfolding posts_made clock_posts clock_post call_post
posts-most q cs ws =
    perhaps (eqb q.answer.code 0) _ 464
    (chosen (λ (xs : List ℕ). length (columns xs) ≤ 464) (eqb q.asked.number 0x76) _ _
    (λ _.
    each-most clock_count _ 29
    (λ c l.
    let i = (clock cs c).swi in
    perhaps (runs_out cs c) _ 29 (post-most c i (is_posted ws i || posted_below cs i c) (omega arith))))
    (λ _.
    let one = post-most call_clock q.asked.a (is_posted ws q.asked.a) (omega arith) in
    perhaps (call_posts ws q.asked.number q.asked.a q.asked.b) (post call_clock q.asked.a (is_posted ws q.asked.a)) 464 (omega arith)))

started-most : (q : Made) (ls ms : List ℕ) → length (columns (started_swi q ls ms)) ≤ 21
unfolding started_swi
started-most q ls ms = perhaps (is_started q ls ms) (top ms ∷ []) 21 (long _ [] 0 (omega (arith, columns-nil)))

posted-most : (ls : List ℕ) → Under 256 ls → length (columns (posted_swis ls)) ≤ swi_levels * 128
unfolding posted_swis
posted-most ls h = each-most swi_levels _ 128 (λ k l. line-most ls _ h)

lined-most : (w n from : ℕ) (t ls u ms : List ℕ) → n ≤ 32 → Under 4294967296 u → Under 256 ms
    → length (columns (changed_lined w n from t ls u ms)) ≤ n * (4 + (w * 11 + 132))
unfolding changed_lined
lined-most w n from t ls u ms few h g =
    each-most n _ _
    (λ i l.
    perhaps (not (same_row w n t u i && same_list (line ls (from + i)) (line ms (from + i)))) _ _
    (small i _ _ (omega arith) (both (row w n u i) _ _ _ (row-most w n u i h) (waiting-most ms (from + i) g))))

mailboxes-most : (bs ls ds ms : List ℕ) → Under 4294967296 ds → Under 256 ms → length (columns (changed_mailboxes bs ls ds ms)) ≤ mailbox_count * 239
unfolding changed_mailboxes mailbox_numbers
mailboxes-most bs ls ds ms h g =
    each-most mailbox_count _ 239
    (λ i l.
    perhaps (not (same_mailbox bs ls ds ms i)) _ 239
    (small i _ 235 (omega arith)
    (word _ _ 224 (field-under mailbox_width mailbox_count ds i CAPACITY h)
    (small (length (messages ds i)) _ 220 (omega (arith, messages-few ds i))
    (both (messages ds i) _ 88 132 (messages-most ds i h) (waiting-most ms (mailbox_line i) g))))))

rows-most : (w n : ℕ) (t u : List ℕ) → n ≤ 32 → Under 4294967296 u → length (columns (changed_rows w n t u)) ≤ n * (4 + w * 11)
unfolding changed_rows
rows-most w n t u few h = each-most n _ _ (λ i l. perhaps (not (same_row w n t u i)) _ _ (small i _ _ (omega arith) (row-most w n u i h)))

clocks-most : (q : Made) (cs ds : List ℕ) → Under 4294967296 ds → length (columns (changed_clocks q cs ds)) ≤ clock_count * 59
unfolding changed_clocks ran_out
clocks-most q cs ds h =
    chosen (λ (xs : List ℕ). length (columns xs) ≤ clock_count * 59) (is_tick q) _ _
    (λ _. each-most clock_count _ 59 (λ i l. perhaps (runs_out cs i) _ 59 (small i _ 55 (omega arith) (row-most clock_width clock_count ds i h))))
    (λ _. rows-most clock_width clock_count cs ds (omega arith) h)

heap-most : (h k : List ℕ) → length (columns (changed_heap h k)) ≤ 42
unfolding changed_heap
heap-most h k = perhaps (not (same_heap h k)) (blocks k ∷ units_taken k ∷ []) 42 (long _ _ 21 (long _ [] 0 (omega (arith, columns-nil))))

-- ---- the line
call-most : (q : Made) (ls st : List ℕ) → length (call_text q ls st) ≤ 254
unfolding call_text
call-most q ls st =
    let first = long q.n (state st TICK ∷ []) 21 (long _ [] 0 (omega (arith, columns-nil))) in
    let asked :
    length
    (columns (q.asked.number ∷ q.asked.a ∷ q.asked.b ∷ q.asked.c ∷ q.asked.d ∷ q.answer.code ∷ q.answer.outcome ∷ q.answer.value ∷ [])) ≤ 168 =
    long _ _ 147 (long _ _ 126 (long _ _ 105 (long _ _ 84 (long _ _ 63 (long _ _ 42 (long _ _ 21 (long _ [] 0 (omega (arith, columns-nil))))))))) in
    simp length-append (omega (arith, thread-most (running ls st), thread-most q.thread))

pub trace-most : (q : Made) (t u : Tables)
    → Typical u.tasks u.lines u.semaphores u.events u.mailboxes u.swis u.clocks → length (trace_line q t u) ≤ line_most
unfolding trace_line parts barred
trace-most q t u typical =
    let call = call-most q t.lines t.state in
    let now = state-most u.state in
    let tasks = tasks-most t.tasks u.tasks typical.tasks in
    let posts = posts-most q t.clocks t.swis in
    let started = started-most q t.lines u.lines in
    let posted = posted-most u.lines typical.lines in
    let active = line-most u.lines active_line typical.lines in
    let semaphores =
    lined-most semaphore_width semaphore_count (semaphore_line 0) t.semaphores t.lines u.semaphores u.lines (omega arith)
    typical.semaphores typical.lines in
    let events =
    lined-most event_width event_count (event_line 0) t.events t.lines u.events u.lines (omega arith)
    typical.events typical.lines in
    let mailboxes = mailboxes-most t.mailboxes t.lines u.mailboxes u.lines typical.mailboxes typical.lines in
    let swis = rows-most swi_width swi_count t.swis u.swis (omega arith) typical.swis in
    let clocks = clocks-most q t.clocks u.clocks typical.clocks in
    let heap = heap-most t.heap u.heap in
    simp length-append (omega arith)
