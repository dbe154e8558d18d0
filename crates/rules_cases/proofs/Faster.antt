-- The soundness of tables after a call, tested anew only where the call changed them: this agrees with `sound` on all tables, and the
-- examples are computed by it. The table of lines is walked row by row, and not from its start for each line.
-- In this order: the lines by rows; what a call left as it was (`still-sound`); what calls say after tables that were sound (`faster`); the
-- replay of a log (`faster-replay`), and tables found sound from fresh ones.
use Prim.Native.Nat.{ℕ, zero, suc, ◌+◌, ◌*◌, ◌/◌, min}
use mathlib.Core.Path.{◌≡◌, refl, sym, ap, ap₂, ◌∙◌, fun_ext}
use mathlib.Core.Bool.{Bool, true, false, ◌&&◌, ◌||◌, cond as if, and-eq-true_iff}
use mathlib.Core.List.{List, [], ◌∷◌}
use native.Mathlib.Omega.{arith}
use borrow.Author.Tests.{eqb-true}
use lib.Dec.{eqb, ltb}
use lib.ListN.{length, get_or, drop}
use lib.Seq.{get_or-drop, drop-drop}
use Rattle.basics.specs.Lists.{all_of, reads}
use Rattle.basics.specs.Find.{all_below}
use Rattle.basics.specs.Rule.{holds}
use Rattle.rules.specs.Rows.{behind}
use Rattle.rules.specs.Tables.{task_count, swi_count, few_levels, most_levels, levels}
use Rattle.rules.specs.Lines.{task_home, swi_home, line_count, line_most, line_width}
use Rattle.rules.specs.Sound.{sound, state_rule, heap_rule, clocks_rule, tasks_rule, lines_rule, members_rule, once_rule, semaphores_rule, events_rule}
use Rattle.rules.specs.Sound.{mailboxes_rule, swis_rule, active_rule, dispatch_rule}
use Rattle.rules.specs.Step.{step, call}
use Rattle.rules.specs.Fresh.{fresh, fresh_with}
use Rattle.rules.specs.Log.{version_of, levels_for, read_at, argument_bytes, argument, record_bytes, arguments_length}
use Rattle.rules.specs.Replay.{line_first, lines_for, lines_from, replay_lines}
use Rattle.rules.specs.declared.Read.{Read}
use Rattle.rules.specs.declared.Read.TheVariants.{Record, End, Cut, Length, Version}
use Rattle.rules.proofs.Computed.{computed}
use Rattle.rules_laws.proofs.Fresh.{fresh-sound, fresh-for-sound}
use Rattle.rules_laws.proofs.Runs.{Asked, asked, look, Said, saw, Line, says, first, calls, answers, AllRun}
use Rattle.rules.specs.declared.Tables.{Tables}

-- ---- the lines by rows
and_assoc : (a b c : Bool) → a && b && c ≡ a && (b && c)
and_assoc true b c = refl
and_assoc false b c = refl

and-true : (a : Bool) → a ≡ a && true
and-true true = refl
and-true false = refl

-- the first of the numbers below n apart from the others
below-first : (n : ℕ) (f : ℕ → Bool) → all_below (suc n) f ≡ f 0 && all_below n (λ i. f (suc i))
unfolding all_below
below-first zero f = and-true (f 0)
below-first (suc n) f = ap (λ b. b && f (suc n)) (below-first n f) ∙ and_assoc (f 0) (all_below n (λ i. f (suc i))) (f (suc n))

-- f holds of what is left of the list at each of its first n rows
unfoldable pub rows_pass : ℕ → (List ℕ → Bool) → List ℕ → Bool
rows_pass zero f t = true
rows_pass (suc n) f t = f t && rows_pass n f (drop line_width t)

below_rows : (n : ℕ) (f : List ℕ → Bool) (t : List ℕ) → all_below n (λ j. f (drop (j * line_width) t)) ≡ rows_pass n f t
unfolding rows_pass all_below
below_rows zero f t = refl
below_rows (suc n) f t =
    below-first n (λ j. f (drop (j * line_width) t))
    ∙ ap (λ (g : ℕ → Bool). f t && all_below n g) (fun_ext λ j. ap f (further j))
    ∙ ap (λ b. f t && b) (below_rows n f (drop line_width t))
  where
    further : (j : ℕ) → drop (suc j * line_width) t ≡ drop (j * line_width) (drop line_width t)
    further j =
        let e : suc j * line_width ≡ line_width + j * line_width = omega arith in
        ap (λ k. drop k t) e ∙ sym (drop-drop (j * line_width) line_width t)

-- no more than 32 in a line, and zeros behind them, of the line in front
abbrev pub fits : List ℕ → Bool
fits r = ltb (get_or r 0 0) (suc line_most) && all_of (λ x. eqb x 0) (behind line_most r 0)

fits-at : (ls : List ℕ) (a : ℕ) → ltb (get_or ls a 0) (suc line_most) && all_of (λ x. eqb x 0) (behind line_most ls a) ≡ fits (drop a ls)
unfolding behind reads
fits-at ls a =
    let front : get_or (drop a ls) 0 0 ≡ get_or ls a 0 = get_or-drop a ls 0 0 ∙ ap (λ k. get_or ls k 0) (omega arith) in
    let further : a + (1 + min (get_or ls a 0) line_most) ≡ a + 1 + min (get_or ls a 0) line_most = omega arith in
    rw (front, drop-drop (1 + min (get_or ls a 0) line_most) a ls, further)

lines-by-rows : (ls : List ℕ) → holds (lines_rule ls) ≡ rows_pass line_count fits ls
lines-by-rows ls = ap (all_below line_count) (fun_ext λ j. fits-at ls (j * line_width)) ∙ below_rows line_count fits ls

-- ---- what a call left as it was
unfoldable pub same : List ℕ → List ℕ → Bool
same [] [] = true
same [] (y ∷ ys) = false
same (x ∷ xs) [] = false
same (x ∷ xs) (y ∷ ys) = eqb x y && same xs ys

same_true : (xs ys : List ℕ) → same xs ys ≡ true → xs ≡ ys
unfolding same
same_true [] [] e = refl
same_true [] (y ∷ ys) e = cc
same_true (x ∷ xs) [] e = cc
same_true (x ∷ xs) (y ∷ ys) e =
    let both = (and-eq-true_iff (eqb x y) (same xs ys)).0 e in
    ap₂ (λ z zs. z ∷ zs) (eqb-true x y both.0) (same_true xs ys both.1)

-- a rule that held holds still where what it reads is the same
kept : (s a b : Bool) → (s ≡ true → a ≡ b) → a ≡ true → b ≡ s || b
kept true a b e h = sym (e refl) ∙ h
kept false a b e h = refl

kept₁ : (r : List ℕ → Bool) (x y : List ℕ) → r x ≡ true → r y ≡ same x y || r y
kept₁ r x y = kept (same x y) (r x) (r y) (λ e. ap r (same_true x y e))

kept₂ : (r : List ℕ → List ℕ → Bool) (x y v w : List ℕ) → r x v ≡ true → r y w ≡ same x y && same v w || r y w
kept₂ r x y v w = kept (same x y && same v w) (r x v) (r y w) equal
  where
    equal : same x y && same v w ≡ true → r x v ≡ r y w
    equal e = let both = (and-eq-true_iff (same x y) (same v w)).0 e in ap₂ r (same_true x y both.0) (same_true v w both.1)

kept₃ : (r : List ℕ → List ℕ → List ℕ → Bool) (x y v w p q : List ℕ) → r x v p ≡ true → r y w q ≡ same x y && same v w && same p q || r y w q
kept₃ r x y v w p q = kept (same x y && same v w && same p q) (r x v p) (r y w q) equal
  where
    equal : same x y && same v w && same p q ≡ true → r x v p ≡ r y w q
    equal e =
        let both = (and-eq-true_iff (same x y && same v w) (same p q)).0 e in
        let front = (and-eq-true_iff (same x y) (same v w)).0 both.0 in
        ap₂ (λ a b. r a b p) (same_true x y front.0) (same_true v w front.1) ∙ ap (r y w) (same_true p q both.1)

-- tables u after tables t that were sound: each rule is tested where something that it reads has changed
unfoldable pub still_sound : Tables → Tables → Bool
still_sound t u =
    let tasks = same t.tasks u.tasks in
    let lines = same t.lines u.lines in
    let semaphores = same t.semaphores u.semaphores in
    let events = same t.events u.events in
    let mailboxes = same t.mailboxes u.mailboxes in
    let swis = same t.swis u.swis in
    let clocks = same t.clocks u.clocks in
    let heap = same t.heap u.heap in
    let state = same t.state u.state in
    (tasks && state || holds (state_rule u.tasks u.state))
    && (heap || holds (heap_rule u.heap))
    && (clocks && swis || holds (clocks_rule u.clocks u.swis))
    && (tasks && state || holds (tasks_rule (levels u.state) u.tasks))
    && (lines || rows_pass line_count fits u.lines)
    && (tasks && swis && lines || holds (members_rule u.tasks u.swis u.lines))
    && (tasks && lines || holds (once_rule task_count (task_home u.tasks) u.lines))
    && (swis && lines || holds (once_rule swi_count (swi_home u.swis) u.lines))
    && (semaphores && lines || holds (semaphores_rule u.semaphores u.lines))
    && (tasks && events && lines || holds (events_rule u.tasks u.events u.lines))
    && (tasks && mailboxes && lines || holds (mailboxes_rule u.tasks u.mailboxes u.lines))
    && (swis && lines || holds (swis_rule u.swis u.lines))
    && (swis && lines || holds (active_rule u.swis u.lines))
    && (swis && lines && state || holds (dispatch_rule u.swis u.lines u.state))

both : {a b c d : Bool} → a ≡ b → c ≡ d → a && c ≡ b && d
both p q = ap₂ (λ x y. x && y) p q

still-sound : (t u : Tables) → sound t ≡ true → sound u ≡ still_sound t u
unfolding sound still_sound
still-sound t u h =
    let h14 = (and-eq-true_iff _ _).0 h in
    let h13 = (and-eq-true_iff _ _).0 h14.0 in
    let h12 = (and-eq-true_iff _ _).0 h13.0 in
    let h11 = (and-eq-true_iff _ _).0 h12.0 in
    let h10 = (and-eq-true_iff _ _).0 h11.0 in
    let h9 = (and-eq-true_iff _ _).0 h10.0 in
    let h8 = (and-eq-true_iff _ _).0 h9.0 in
    let h7 = (and-eq-true_iff _ _).0 h8.0 in
    let h6 = (and-eq-true_iff _ _).0 h7.0 in
    let h5 = (and-eq-true_iff _ _).0 h6.0 in
    let h4 = (and-eq-true_iff _ _).0 h5.0 in
    let h3 = (and-eq-true_iff _ _).0 h4.0 in
    let h2 = (and-eq-true_iff _ _).0 h3.0 in
    both (both (both (both (both (both (both (both (both (both (both (both (both
    (kept₂ (λ a b. holds (state_rule a b)) t.tasks u.tasks t.state u.state h2.0)
    (kept₁ (λ a. holds (heap_rule a)) t.heap u.heap h2.1))
    (kept₂ (λ a b. holds (clocks_rule a b)) t.clocks u.clocks t.swis u.swis h3.1))
    (kept₂ (λ a b. holds (tasks_rule (levels b) a)) t.tasks u.tasks t.state u.state h4.1))
    (kept₁ (λ a. holds (lines_rule a)) t.lines u.lines h5.1 ∙ ap (λ b. same t.lines u.lines || b) (lines-by-rows u.lines)))
    (kept₃ (λ a b c. holds (members_rule a b c)) t.tasks u.tasks t.swis u.swis t.lines u.lines h6.1))
    (kept₂ (λ a b. holds (once_rule task_count (task_home a) b)) t.tasks u.tasks t.lines u.lines h7.1))
    (kept₂ (λ a b. holds (once_rule swi_count (swi_home a) b)) t.swis u.swis t.lines u.lines h8.1))
    (kept₂ (λ a b. holds (semaphores_rule a b)) t.semaphores u.semaphores t.lines u.lines h9.1))
    (kept₃ (λ a b c. holds (events_rule a b c)) t.tasks u.tasks t.events u.events t.lines u.lines h10.1))
    (kept₃ (λ a b c. holds (mailboxes_rule a b c)) t.tasks u.tasks t.mailboxes u.mailboxes t.lines u.lines h11.1))
    (kept₂ (λ a b. holds (swis_rule a b)) t.swis u.swis t.lines u.lines h12.1))
    (kept₂ (λ a b. holds (active_rule a b)) t.swis u.swis t.lines u.lines h13.1))
    (kept₃ (λ a b c. holds (dispatch_rule a b c)) t.swis u.swis t.lines u.lines t.state u.state h14.1)

-- ---- what calls say on tables u, after tables t that were sound
unfoldable pub says_after : Tables → Tables → List Asked → List Said
says_after t u [] = []
says_after t u (asked n a b c d ∷ xs) =
    if (still_sound t u) (first (step u n a b c d) (λ v. says_after u v xs)) (says u (asked n a b c d ∷ xs))
says_after t u (look f ∷ xs) = saw (f u) ∷ says_after t u xs

-- one call, where the later ones are known to say the same
next : (u : Tables) (n a b c d : ℕ) (xs : List Asked) (s : Bool)
    → sound u ≡ s
    → (sound u ≡ true → (v : Tables) → says v xs ≡ says_after u v xs)
    → says u (asked n a b c d ∷ xs) ≡ if s (first (step u n a b c d) (λ v. says_after u v xs)) (says u (asked n a b c d ∷ xs))
unfolding says call
next u n a b c d xs true e later = rw e (ap (first (step u n a b c d)) (fun_ext λ v. later e v))
next u n a b c d xs false e later = refl

says-after : (t u : Tables) (xs : List Asked) → sound t ≡ true → says u xs ≡ says_after t u xs
unfolding says says_after
says-after t u [] h = refl
says-after t u (asked n a b c d ∷ xs) h =
    next u n a b c d xs (still_sound t u) (still-sound t u h) (λ e v. says-after u v xs e)
says-after t u (look f ∷ xs) h = ap (λ ys. saw (f u) ∷ ys) (says-after t u xs h)

-- what several runs from the same tables say, and are to say
unfoldable pub said_from : Tables → List (List Line) → List (List Said)
said_from t [] = []
said_from t (ls ∷ rest) = says_after t t (calls ls) ∷ said_from t rest

abbrev pub answers_of : List (List Line) → List (List Said)
answers_of [] = []
answers_of (ls ∷ rest) = answers ls ∷ answers_of rest

head : List (List Said) → List Said
head [] = []
head (x ∷ xs) = x

tail : List (List Said) → List (List Said)
tail [] = []
tail (x ∷ xs) = xs

-- all runs at once: what two of them share is computed once
pub faster : (t : Tables) (all : List (List Line)) → sound t ≡ true → said_from t all ≡ answers_of all → AllRun t all
unfolding said_from head tail
faster t [] h e = tt
faster t (ls ∷ rest) h e = (record { so = says-after t t (calls ls) h ∙ ap head e }, faster t rest h (ap tail e))

-- ---- the replay of a log: the same lines, by steps on tables that were found sound
unfoldable pub step_lines : Read → List ℕ → ℕ → Tables → (ℕ → Tables → List (List ℕ)) → List (List ℕ)
step_lines (Record number start) s n u rest =
    let bytes : List ℕ = argument_bytes s start in
    line_first (suc n) (step u number (argument bytes 0) (argument bytes 1) (argument bytes 2) (argument bytes 3)) (rest (start + arguments_length))
step_lines End s n u rest = lines_for End s n u rest
step_lines (Cut o) s n u rest = lines_for (Cut o) s n u rest
step_lines (Length o) s n u rest = lines_for (Length o) s n u rest
step_lines (Version o) s n u rest = lines_for (Version o) s n u rest

unfoldable pub lines_after : Tables → ℕ → List ℕ → ℕ → ℕ → Tables → List (List ℕ)
lines_after t zero s at n u = []
lines_after t (suc k) s at n u =
    if (still_sound t u) (step_lines (read_at s at) s n u (λ later v. lines_after u k s later (suc n) v)) (lines_from (suc k) s at n u)

step_lines_lem : (r : Read) (s : List ℕ) (n : ℕ) (u : Tables) (f g : ℕ → Tables → List (List ℕ))
    → sound u ≡ true
    → f ≡ g
    → lines_for r s n u f ≡ step_lines r s n u g
unfolding step_lines call
step_lines_lem (Record number start) s n u f g e p = rw (e, p)
step_lines_lem End s n u f g e p = refl
step_lines_lem (Cut o) s n u f g e p = refl
step_lines_lem (Length o) s n u f g e p = refl
step_lines_lem (Version o) s n u f g e p = refl

lines_after_lem : (t : Tables) (k : ℕ) (s : List ℕ) (at n : ℕ) (u : Tables) → sound t ≡ true → lines_from k s at n u ≡ lines_after t k s at n u
unfolding lines_from lines_after
lines_after_lem t zero s at n u h = refl
lines_after_lem t (suc k) s at n u h = go (still_sound t u) (still-sound t u h) (λ e later v. lines_after_lem u k s later (suc n) v e)
  where
    go : (b : Bool)
        → sound u ≡ b
        → (sound u ≡ true → (later : ℕ) (v : Tables) → lines_from k s later (suc n) v ≡ lines_after u k s later (suc n) v)
        → lines_from (suc k) s at n u
        ≡ if b (step_lines (read_at s at) s n u (λ later v. lines_after u k s later (suc n) v)) (lines_from (suc k) s at n u)
    go true e ih =
        step_lines_lem (read_at s at) s n u (λ later v. lines_from k s later (suc n) v) (λ later v. lines_after u k s later (suc n) v) e
        (fun_ext λ later. fun_ext λ v. ih e later v)
    go false e ih = refl

-- what an example opens to be computed so
unfoldable pub quickly : ℕ
unfolding computed rows_pass same still_sound says_after said_from step_lines lines_after
quickly = 0

pub faster-replay : (s : List ℕ)
    → replay_lines s
    ≡ lines_after (fresh_with (levels_for (version_of s))) (suc (length s / record_bytes)) s 0 0 (fresh_with (levels_for (version_of s)))
unfolding replay_lines
faster-replay s =
    let t = fresh_with (levels_for (version_of s)) in
    lines_after_lem t (suc (length s / record_bytes)) s 0 0 t (fresh-for-sound (version_of s))

-- tables are sound, by a test of what differs from fresh ones
pub faster-sound : (t : Tables) → still_sound fresh t ≡ true → sound t ≡ true
faster-sound t e = still-sound fresh t fresh-sound ∙ e
