-- Demands 1 and 2, the log's layout and a sequence of entry calls say no more than is true: statements that say more than one of their fields, and of
-- each a call, a log or tables that deny it.
use Prim.{tt}
use Prim.Native.Nat.{ℕ, ◌+◌, ◌<◌, ◌≤◌}
use mathlib.Core.Path.{◌≡◌, refl, sym, ap, ◌∙◌}
use mathlib.Core.Logic.{◌≢◌, ◌↔◌}
use mathlib.Core.Bool.{true, false, ◌&&◌}
use mathlib.Core.List.{List, [], ◌∷◌, ◌++◌}
use native.Mathlib.Omega.{arith}
use lib.Dec.{eqb}
use lib.ListN.{length, get_or}
use Rattle.basics.specs.Lists.{count, ahead, all_of, bit, zeros}
use Rattle.rules.specs.Answer.{order, answer, asked, Words}
use Rattle.rules.specs.Tables.{Typed, word_end, tables, TASKS}
use Rattle.rules.specs.Fresh.{fresh, fresh_with, fresh_tasks, fresh_lines, no_semaphores, no_events, no_mailboxes, no_swis, no_clocks, free_heap}
use Rattle.rules.specs.Dispatch.{running}
use Rattle.rules.specs.Sound.{Sound, sound}
use Rattle.rules.specs.Step.{step_of, call}
use Rattle.rules.specs.Log.{read_in, read_at}
use Rattle.rules.specs.declared.Tables.{Tables}
use Rattle.rules.specs.declared.Step.{Step}
use Rattle.rules.specs.declared.Read.TheVariants.{Length, Version}
use Rattle.rules.specs.declared.Thread.TheVariants.{Task}
use Rattle.rules_laws.proofs.Runs.{Line, ◌⇒◌, said, calls, says, T, yield, post, tasks_off}
use Rattle.rules.proofs.Computed.{computed}
use Rattle.runs.specs.Run.{made, after}
use Rattle.runs.specs.Turn.{posts_on}
use Rattle.demand_1_refusals.specs.Refusals.{refusal, refusal_by, unknown_number, among, value_of, None}
use Rattle.demands.specs.Two.{Kept}
use Rattle.demands.specs.Sequence.{Entered, Sequence}
use Rattle.demands.specs.Sequence as Entries
use Rattle.rules_laws.proofs.Fresh.{fresh-typed, fresh-is-sound}
use Rattle.demands.proofs.Promised.{promised}
use Rattle.demand_2_soundness.proofs.RunsBySteps.{in_words}
use Rattle.demands_examples.proofs.BySteps.{pass, Leads, leads, anything}
use Rattle.rules.specs.declared.Call.{Call}

-- ---- tables that are not sound: fresh ones, but that task 1 is the current one
unfoldable pub stray : Tables
stray = tables fresh_tasks fresh_lines no_semaphores no_events no_mailboxes no_swis no_clocks free_heap (0 ∷ 1 ∷ 1 ∷ 0 ∷ 1 ∷ 16 ∷ [])

stray-typed : Typed stray
unfolding stray
stray-typed =
    record { tasks = refl; lines = refl; semaphores = refl; events = refl; mailboxes = refl; swis = refl; clocks = refl; heap = refl; state = refl }

pub not_sound : sound stray ≡ false
unfolding computed stray
not_sound = refl

-- an unknown number, of which two rows hold
abbrev strange : Call
strange = asked 0x79 0 0 0 0

refused : made stray strange ≡ step_of stray (answer 10 0 0) (Task 0)
unfolding call
refused = rw not_sound

-- ---- "with code 10 the thread given is T0", which need not be the one that the dispatch rule names
runs-there : running stray.lines stray.state ≡ Task 1
unfolding computed stray
runs-there = refl

pub not-the-running-thread : ((t : Tables) (q : Call) → (made t q).answer.code ≢ 0
    → made t q ≡ step_of t (answer (made t q).answer.code 0 (value_of q (made t q).answer.code)) (running t.lines t.state)) → ⊥
not-the-running-thread every =
    let e = every stray strange (rw refused (λ z. omega (arith, z))) in
    let given = ap (λ (r : Step). r.thread) (sym refused ∙ e) ∙ runs-there in
    let z : ◌≡◌ {A = ℕ} 0 1 = cc in
    omega arith

-- ---- "and a code is given exactly in its case", where no earlier row's case holds: rows 10 and 1 hold, and the code is 10
abbrev pub WhateverBefore : Type 0
WhateverBefore =
    (t : Tables) (q : Call) (k : ℕ) → 0 < count k order
    → ((made t q).answer.code ≡ k) ↔ ((refusal t q k ≡ true) × None (ahead 10 order) (refusal t q))

unknown : (refusal stray strange 1 ≡ true) × None (ahead 10 order) (refusal stray strange)
unfolding refusal refusal_by unknown_number among count ahead all_of
unknown = (refl, refl)

pub not-whatever-stands-before : WhateverBefore → ⊥
unfolding count
not-whatever-stands-before every =
    omega (arith, ap (λ (r : Step). r.answer.code) refused, (every stray strange 1 (omega arith)).1 unknown)

-- ---- "From sound tables": on others each call is refused with code 10
pub not-where-not-sound : ((t : Tables) (q : Call) → Typed t → Kept t q (made t q)) → ⊥
not-where-not-sound every = (every stray strange stray-typed).tested (ap (λ (r : Step). r.answer.code) refused)

in-words : (number a : ℕ) → a < word_end → Words (asked number a 0 0 0)
in-words number a h = record { a = h; b = omega arith; c = omega arith; d = omega arith }

-- ---- on sound tables each other code may come, as 9: tasks are off, and task 0 yields
abbrev switched_off : List Line
switched_off = tasks_off ⇒ said 0 0 2 (T 0) ∷ []

abbrev yields : List Line
yields = yield ⇒ said 9 0 0 (T 0) ∷ []

unfoldable off : Tables
off = tables fresh_tasks fresh_lines no_semaphores no_events no_mailboxes no_swis no_clocks free_heap (0 ∷ 1 ∷ 0 ∷ 0 ∷ 0 ∷ 16 ∷ [])

to-off : Leads anything 0 fresh switched_off 0 off
unfolding computed pass in_words off
to-off = leads anything 0 fresh fresh-typed fresh-is-sound switched_off 0 off refl refl

still-off : Leads anything 0 off yields 0 off
unfolding computed pass in_words off
still-off = leads anything 0 off to-off.typed to-off.sound yields 0 off refl refl

code-9 : (made off (asked 0x03 0 0 0 0)).answer.code ≡ 9
unfolding says
code-9 = let e = still-off.answers.so in cc

pub not-without-code-9 : ((t : Tables) (q : Call) → Typed t → Sound t → Words q → (made t q).answer.code ≢ 9) → ⊥
not-without-code-9 every =
    every off (asked 0x03 0 0 0 0) to-off.typed to-off.sound (in-words 0x03 0 (omega arith)) code-9

-- ---- "length not 18, `length`; fewer than 18 after it, `cut`": the log 00 13 is `length`, though twenty bytes are not there
pub not-cut-before-length : ((s : List ℕ) (at n : ℕ) → read_at s at ≡ Length n → at + 20 ≤ length s) → ⊥
unfolding read_in
not-cut-before-length every = omega (arith, every (0x00 ∷ 0x13 ∷ []) 0 0 refl)

-- ---- No. 14, "a record whose version differs from the first record's": one of version 2 behind one of version 1 is `version`, though 2 is a version
pub not-with-mixed-versions : ((s : List ℕ) (at n : ℕ) → read_at s at ≡ Version n → (get_or s (at + 2) 0 ≢ 1) × (get_or s (at + 2) 0 ≢ 2)) → ⊥
unfolding read_in
not-with-mixed-versions every =
    (every (0x00 ∷ 0x12 ∷ 0x01 ∷ (zeros 17 ++ (0x00 ∷ 0x12 ∷ 0x02 ∷ zeros 17))) 20 20 refl).1 refl

-- ---- entry calls: one on fresh tables, as it is made
abbrev entered : Call → Entered
entered q = record { call = q; left = made fresh q }

one-call : (number a : ℕ) → a < word_end → Sequence fresh (entered (asked number a 0 0 0) ∷ [])
unfolding Sequence
one-call number a h = (promised fresh (asked number a 0 0 0) refl (λ s. (fresh-typed, in-words number a h)), tt)

-- "accepted posts": a refused one does not count. Semaphore 7 is not in use
abbrev refused_post : List Line
refused_post = post 7 ⇒ said 11 0 3 (T 0) ∷ []

none-posted : Leads anything 7 fresh refused_post 0 fresh
unfolding computed pass in_words
none-posted = leads anything 7 fresh fresh-typed fresh-is-sound refused_post 0 fresh refl refl

-- "for these two codes the value is no longer 0": it names the semaphores' table
code-11 : (made fresh (asked 0x23 7 0 0 0)).answer.code ≡ 11
unfolding says
code-11 = let e = none-posted.answers.so in cc

names-semaphores : (made fresh (asked 0x23 7 0 0 0)).answer.value ≡ 3
unfolding says
names-semaphores = let e = none-posted.answers.so in cc

pub not-always-value-0 : ((t : Tables) (q : Call) → (made t q).answer.code ≢ 0 → (made t q).answer.value ≡ 0) → ⊥
not-always-value-0 every =
    omega (arith, names-semaphores, every fresh (asked 0x23 7 0 0 0) (λ z. omega (arith, z, code-11)))

unfoldable pub posts_tried : ℕ → List Entered → ℕ
posts_tried s [] = 0
posts_tried s (e ∷ es) = bit (eqb e.call.number 0x23 && eqb e.call.a s) + posts_tried s es

pub not-with-refused-posts : ((t : Tables) → Sound t → (es : List Entered) → Sequence t es → (s : ℕ) → posts_tried s es ≡ posts_on s t (Entries.calls es)) → ⊥
unfolding posts_tried Entries.calls
not-with-refused-posts every =
    omega (arith, none-posted.posts, every fresh fresh-is-sound (entered (asked 0x23 7 0 0 0) ∷ []) (one-call 0x23 7 (omega arith)) 7)

-- each call is made on the tables that the one before it left: those are not the first ones
unfoldable pub tables_first : Tables → List Entered → Tables
tables_first t [] = t
tables_first t (e ∷ es) = tables_first t es

pub not-on-the-first-tables : ((t : Tables) → Sound t → (es : List Entered) → Sequence t es → tables_first t es ≡ after t (Entries.calls es)) → ⊥
unfolding tables_first Entries.calls fresh_with off
not-on-the-first-tables every =
    let same = every fresh fresh-is-sound (entered (asked 0x77 2 0 0 0) ∷ []) (one-call 0x77 2 (omega arith)) ∙ to-off.now in
    omega (arith, ap (λ (t : Tables). get_or t.state TASKS 0) same)
