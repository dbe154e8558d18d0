-- Calls 10 to 18 keep what dispatch starts from.
-- In this order: the row of a Swi that is nowhere; the top active Swi ends; calls 10 to 18, one after the other; and all of them.
use Prim.Native.Nat.{ℕ, suc, ◌-◌, ◌<◌, ◌≤◌}
use mathlib.Core.Path.{◌≡◌, refl, sym, ap, ◌∙◌}
use mathlib.Core.Logic.{◌≢◌, inl}
use mathlib.Core.Bool.{Bool, true, false, not, ◌&&◌, ◌||◌, cond as if}
use mathlib.Core.List.{List, [], ◌∷◌}
use native.Mathlib.Omega.{arith}
use borrow.Author.Tests.{eq-eqb, eqb-true, eqb-false, ltb-true, ltb-false, not-true, not-false}
use lib.Bits.{bit_or}
use lib.Dec.{eqb, ltb}
use lib.ListN.{length, take, get_or}
use Rattle.basics.specs.Lists.{zeros, count, without}
use Rattle.basics.specs.Rule.{Means}
use Rattle.basics.proofs.Laws.{count-without-other}
use Rattle.basics.proofs.Finds.{all-at}
use Rattle.rules.specs.Tables.{Typed, swi_count, swi_width, clock_count, swi, with_swi, swi_row, clock, state, USED, PRIORITY, INITIAL, TRIGGER, POSTED, TAKEN}
use Rattle.rules.specs.Tables.{DEPTH, swi_levels}
use Rattle.rules.specs.Lines.{anyone, line, out_of, posted_line, active_line, swi_home}
use Rattle.rules.specs.Answer.{T, S, I, CallRule, called, code_of, asked, Words}
use Rattle.rules.specs.Dispatch.{context}
use Rattle.rules.specs.Sound.{Sound, swi_rule, active_rule, clock_rule}
use Rattle.rules.specs.Step.{with_posts}
use Rattle.rules.specs.Swis.{SwiQueues, swi_queues, top, is_active, is_named, free_swi, posted, triggered, one_up, one_down, cleared, create_cases, create_effect}
use Rattle.rules.specs.Swis.{delete_cases, delete_effect, post_cases, mask_cases, post_effect, change_effect, zero_effect, end_cases, end_effect, taken_cases}
use Rattle.rules.specs.Swis.{taken_effect, swi_call}
use Rattle.rules.specs.declared.Tables.{Tables}
use Rattle.rules_laws.proofs.Rows.{length-with_row, row_same, row_other}
use Rattle.rules_laws.proofs.Lines.{length-left, left-same, left_other}
use Rattle.rules_laws.proofs.Calls.{chosen}
use Rattle.demand_2_soundness.proofs.Groups.{Almost, Settling, Keeps}
use Rattle.demand_2_soundness.proofs.Codes.{accepted-is, used-object}
use Rattle.demand_2_soundness.proofs.Waiting.{neither, sound-ranges, still-ready}
use Rattle.demand_2_soundness.proofs.Chosen.{chosen-keeps, unknown-keeps, sound-settles}
use Rattle.demand_2_soundness.proofs.Objects.{other-fails, free-is}
use Rattle.demand_2_soundness.proofs.Standing.{sound-almost, home-unposted, home-kept}
use Rattle.demand_2_soundness.proofs.Stored.{left-lines}
use Rattle.demand_2_soundness.proofs.Actives.{last-leaves, rises-take, every_take}
use Rattle.demand_2_soundness.proofs.ObjectRules.{active-kept}
use Rattle.demand_2_soundness.proofs.Aside.{not-of-swis}
use Rattle.demand_2_soundness.proofs.SwiTables.{swi-almost, swi-below, active-used, length-swi, swi-same, swi-row, swi-other, named-kept, rule-used}
use Rattle.demand_2_soundness.proofs.Posts.{posted-keeps, triggered-keeps}

-- the running Swi is there
pub context-S : (ls st : List ℕ) → context ls st ≡ S → 0 < length (line ls active_line)
unfolding context
context-S ls st e = go (ltb 0 (state st DEPTH)) (anyone ls active_line) refl e
  where
    go : (b c : Bool) → anyone ls active_line ≡ c → if b I (if c S T) ≡ S → 0 < length (line ls active_line)
    go true c d e = absurd (omega arith)
    go false true d e = ltb-true _ _ d
    go false false d e = absurd (omega arith)

-- ---- a whole row changes, of a Swi that is nowhere: not posted, before or after, not active, and named by no clock
module _ (t : Tables) (a : Almost t) (i : ℕ) (r : List ℕ) (here : i < swi_count) (fits : length r ≤ swi_width) (long : POSTED < length r)
    (un : swi t.swis i POSTED ≡ 0) (still-un : get_or r POSTED 0 ≡ 0) (idle : count i (line t.lines active_line) ≡ 0)
    (unnamed : (n : ℕ) → n < clock_count → (clock t.clocks n).used ≡ 1 → (clock t.clocks n).swi ≢ i)
    (rule : ((f : ℕ) → f < length r → swi (swi_row t.swis i r) i f ≡ get_or r f 0) → Means (swi_rule (swi_row t.swis i r) t.lines i)) where
  word : (f : ℕ) → f < length r → swi (swi_row t.swis i r) i f ≡ get_or r f 0
  word = row_same swi_width swi_count t.swis i r (omega (arith, a.typed.swis)) fits here

  rows : (x f : ℕ) → x ≢ i → swi (swi_row t.swis i r) x f ≡ swi t.swis x f
  rows = row_other swi_width swi_count t.swis i r fits

  home_stays : swi_home (swi_row t.swis i r) i ≡ swi_home t.swis i
  home_stays = home-unposted (swi_row t.swis i r) i (word POSTED long ∙ still-un) ∙ sym (home-unposted t.swis i un)

  active-other : (x : ℕ) → 0 < count x (line t.lines active_line) → x ≢ i
  active-other x h e = omega (arith, ap (λ (y : ℕ). count y (line t.lines active_line)) e)

  idle-row-keeps : Almost (with_posts t (swi_queues (swi_row t.swis i r) t.lines))
  unfolding clock_rule
  idle-row-keeps =
      swi-almost t a i (swi_queues (swi_row t.swis i r) t.lines)
      record {
        swis_length = length-with_row swi_width swi_count t.swis i r ∙ a.typed.swis;
        lines_length = a.typed.lines;
        lines = a.lines;
        of_tasks = λ j o. refl;
        rows = rows;
        posted = λ x q n h. refl;
        actives = λ x n. refl;
        named = λ n h e. rows (clock t.clocks n).swi USED (unnamed n h e) ∙ ((a.clocks n h).1.1 e).0;
        stands = λ q h. rw home_stays (a.standing.swis i q h);
        rule = rule word;
        active =
            active-kept t.swis (swi_row t.swis i r) t.lines t.lines refl
            (λ x h. (rows x USED (active-other x h), rows x PRIORITY (active-other x h)))
            a.active;
      }

-- ---- the top active Swi ends
module _ (t : Tables) (a : Almost t) (some : 0 < length (line t.lines active_line)) where
  i : ℕ
  i = top t.lines

  ws : List ℕ
  ws = with_swi t.swis i TAKEN 0

  ls : List ℕ
  ls = out_of active_line i t.lines

  same : (x f : ℕ) → f < TAKEN → swi ws x f ≡ swi t.swis x f
  unfolding ws
  same x f l = swi-other t.swis i TAKEN 0 x f (λ e. omega arith)

  used : swi t.swis i USED ≡ 1
  unfolding i top
  used = a.active.0 (length (line t.lines active_line) - 1) (omega arith)

  here : i < swi_count
  here = swi-below t.swis i USED (λ z. omega (arith, used))

  other : (j : ℕ) → j ≢ active_line → line ls j ≡ line t.lines j
  unfolding ls
  other j n = left_other t.lines active_line i j n

  posted-stays : (q : ℕ) → q < swi_levels → line ls (posted_line q) ≡ line t.lines (posted_line q)
  posted-stays q h = other (posted_line q) (λ (e : posted_line q ≡ active_line). omega arith)

  gone : line ls active_line ≡ without i (line t.lines active_line)
  unfolding ls
  gone = left-same t.lines active_line i (omega arith) a.typed.lines

  in-front : line ls active_line ≡ take (length (line t.lines active_line) - 1) (line t.lines active_line)
  unfolding i top
  in-front = gone ∙ last-leaves (λ x. swi t.swis x PRIORITY) (line t.lines active_line) a.active.1 some

  end-rule : Means (swi_rule ws ls i)
  unfolding ws swi_rule
  end-rule =
      let (u, (z, (p, (o, c)))) = a.swis i here in
      rule-used ws ls i (same i USED (omega arith) ∙ used) (rw (same i PRIORITY (omega arith)) p) (rw (same i POSTED (omega arith)) o)
      (λ z. swi-same t.swis i TAKEN 0 a.typed.swis here (omega arith))

  active-rule : Means (active_rule ws ls)
  active-rule =
      let xs : List ℕ = line t.lines active_line in
      let ys : List ℕ = take (length xs - 1) xs in
      let r = rises-take (λ x. swi t.swis x PRIORITY) xs a.active.1 (length xs - 1) (omega arith) in
      rw in-front (
        every_take (λ x. swi ws x USED ≡ 1) xs (length xs - 1) (omega arith) (λ k h. same _ USED (omega arith) ∙ a.active.0 k h),
        λ k h. rw (same (get_or ys k 0) PRIORITY (omega arith), same (get_or ys (suc k) 0) PRIORITY (omega arith)) (r k h),
      )

  ended : Almost (with_posts t (swi_queues (with_swi t.swis (top t.lines) TAKEN 0) (out_of active_line (top t.lines) t.lines)))
  unfolding i ws ls
  ended =
      swi-almost t a i (swi_queues ws ls)
      record {
        swis_length = length-swi t.swis i TAKEN 0 ∙ a.typed.swis;
        lines_length = length-left t.lines active_line i ∙ a.typed.lines;
        lines = left-lines t.lines a.typed.lines a.lines active_line i;
        of_tasks = λ j o. other j (not-of-swis j active_line o (omega arith) (omega arith));
        rows = swi-row t.swis i TAKEN 0;
        posted = λ x q n h. ap (count x) (posted-stays q h);
        actives = λ x n. ap (count x) gone ∙ count-without-other x i (line t.lines active_line) n;
        named = named-kept t a ws (λ x. same x USED (omega arith));
        stands = λ q h.
            rw (home-kept t.swis i ws (same i POSTED (omega arith)) (same i PRIORITY (omega arith)), posted-stays q h)
            (a.standing.swis i q h);
        rule = end-rule;
        active = active-rule;
      }

-- ---- the calls
module _ (t : Tables) (typed : Typed t) (s : Sound t) where
  a0 : Almost t
  a0 = sound-almost t typed s

  settles : (p : SwiQueues) → Almost (with_posts t p) → Settling (with_posts t p)
  settles p a = record { almost = a; ranges = sound-ranges t s; current = inl (still-ready t s) }

  -- "10 create"
  create-keeps : (x a b c d : ℕ) → Keeps (with_posts t) (called (create_cases t.swis x a b c d) (create_effect (swi_queues t.swis t.lines) a b))
  unfolding create_cases create_effect free_swi swi_rule clock_rule
  create-keeps x a b c d z =
      let ok = accepted-is (create_cases t.swis x a b c d) z in
      let i : ℕ = free_swi t.swis in
      let r : List ℕ = 1 ∷ a ∷ b ∷ b ∷ 0 ∷ 0 ∷ [] in
      let (here, e) = free-is swi_count (λ i. eqb (swi t.swis i USED) 0) ok.at6 in
      let free : swi t.swis i USED ≡ 0 = eqb-true _ _ e in
      let low : a < swi_levels = ltb-true a swi_levels (not-false _ (neither (not (ltb a swi_levels)) _ ok.at4).0) in
      let none : 0 < count i (line t.lines active_line) → ⊥ =
      λ h. omega (arith, free, active-used t.swis t.lines s.swis s.active i h) in
      settles (swi_queues (swi_row t.swis i r) t.lines)
      (idle-row-keeps t a0 i r here (omega arith) (omega arith) ((s.swis i here).1.0 free).1.1.1 refl (omega arith)
      (λ n h e d. omega (arith, free, rw d at ((s.clocks n h).1.1 e).0))
      (λ word.
      rule-used (swi_row t.swis i r) t.lines i (word USED (omega arith)) (rw (word PRIORITY (omega arith)) low)
      (omega (arith, word POSTED (omega arith)))
      (λ z. word TAKEN (omega arith))))

  -- "11 delete: 5 if posted, active or named by a clock."
  not_named : (a n : ℕ) → n < clock_count → is_named t.clocks a ≡ false → (clock t.clocks n).used ≡ 1 → (clock t.clocks n).swi ≢ a
  unfolding is_named
  not_named a n h no-clock e =
      let f : ℕ → Bool = λ n. not (eqb (clock t.clocks n).used 1 && eqb (clock t.clocks n).swi a) in
      let g : f n ≡ true = all-at f clock_count (not-false _ no-clock) n h in
      eqb-false _ _ (other-fails (eqb (clock t.clocks n).used 1) _ (not-true _ g) (eq-eqb _ _ e))

  delete-keeps : (x a b c d : ℕ)
      → Keeps (with_posts t) (called (delete_cases t.swis t.lines t.clocks x a b c d) (delete_effect (swi_queues t.swis t.lines) a))
  unfolding delete_cases delete_effect is_active swi_rule
  delete-keeps x a b c d z =
      let ok = accepted-is (delete_cases t.swis t.lines t.clocks x a b c d) z in
      let r : List ℕ = zeros swi_width in
      let here = swi-below t.swis a USED (used-object _ _ ok.at3 ok.at11) in
      let (quiet, unnamed) = neither (not (eqb (swi t.swis a POSTED) 0) || is_active t.lines a) _ ok.at5 in
      let (un, idle) = neither (not (eqb (swi t.swis a POSTED) 0)) _ quiet in
      let none : count a (line t.lines active_line) ≤ 0 = ltb-false 0 _ idle in
      settles (swi_queues (swi_row t.swis a r) t.lines)
      (idle-row-keeps t a0 a r here (omega arith) (omega arith) (eqb-true _ _ (not-false _ un)) refl (omega arith)
      (λ n h e. not_named a n h unnamed e)
      (λ word.
      let u = word USED (omega arith) in
      let p = word PRIORITY (omega arith) in
      let o = word POSTED (omega arith) in
      (omega arith, (λ e. (p, (word INITIAL (omega arith), (word TRIGGER (omega arith), o))), (omega arith, (omega arith, λ e. word TAKEN (omega arith)))))))

  -- "12 post" to "16": a Swi in use
  changed : (a : ℕ) → swi t.swis a USED ≢ 0 → (v : ℕ) → Almost (with_posts t (posted a (triggered a v (swi_queues t.swis t.lines))))
  changed a used v =
      posted-keeps (with_posts t (triggered a v (swi_queues t.swis t.lines))) (triggered-keeps t a0 a used v) a
      (λ z. used (sym (swi-other t.swis a TRIGGER v a USED (λ e. omega arith)) ∙ z))

  change-settles : (a : ℕ) → swi t.swis a USED ≢ 0 → (v : ℕ) → Settling (with_posts t (change_effect (swi_queues t.swis t.lines) a v).next)
  unfolding change_effect
  change-settles a used v = settles (posted a (triggered a v (swi_queues t.swis t.lines))) (changed a used v)

  zero-settles : (a : ℕ) → swi t.swis a USED ≢ 0 → (v : ℕ) → Settling (with_posts t (zero_effect (swi_queues t.swis t.lines) a v).next)
  unfolding zero_effect
  zero-settles a used v =
      chosen (λ (p : SwiQueues). Settling (with_posts t p)) (eqb v 0) _ _
      (λ e. settles (posted a (triggered a v (swi_queues t.swis t.lines))) (changed a used v))
      (λ e. settles (triggered a v (swi_queues t.swis t.lines)) (triggered-keeps t a0 a used v))

  post-used : (a b c d : ℕ) → code_of (post_cases t.swis a b c d) ≡ 0 → swi t.swis a USED ≢ 0
  unfolding post_cases
  post-used a b c d z = used-object _ _ (accepted-is (post_cases t.swis a b c d) z).at3 (accepted-is (post_cases t.swis a b c d) z).at11

  mask-used : (a c d : ℕ) → code_of (mask_cases t.swis a c d) ≡ 0 → swi t.swis a USED ≢ 0
  unfolding mask_cases
  mask-used a c d z = used-object _ _ (accepted-is (mask_cases t.swis a c d) z).at3 (accepted-is (mask_cases t.swis a c d) z).at11

  post-keeps : (a b c d : ℕ) → Keeps (with_posts t) (called (post_cases t.swis a b c d) (post_effect (swi_queues t.swis t.lines) a))
  unfolding post_effect
  post-keeps a b c d z =
      settles (posted a (swi_queues t.swis t.lines)) (posted-keeps t a0 a (post-used a b c d z))

  -- "17 end (S)", "18 taken trigger (S)"
  end-keeps : (a b c d : ℕ)
      → Keeps (with_posts t) (called (end_cases t.state (context t.lines t.state) a b c d) (end_effect (swi_queues t.swis t.lines)))
  unfolding end_cases end_effect
  end-keeps a b c d z =
      let ok = accepted-is (end_cases t.state (context t.lines t.state) a b c d) z in
      settles (swi_queues (with_swi t.swis (top t.lines) TAKEN 0) (out_of active_line (top t.lines) t.lines))
      (ended t a0 (context-S t.lines t.state (eqb-true _ _ (not-false _ ok.at2))))

  taken-keeps : (x a b c d : ℕ) → Keeps (with_posts t) (called (taken_cases x a b c d) (taken_effect (swi_queues t.swis t.lines)))
  unfolding taken_effect
  taken-keeps x a b c d z = sound-settles t typed s

pub swis-keeps : (t : Tables) → Typed t → Sound t → (number a b c d : ℕ) → Words (asked number a b c d)
    → Keeps (with_posts t) (swi_call (swi_queues t.swis t.lines) t.clocks t.state (context t.lines t.state) number a b c d)
unfolding swi_call
swis-keeps t typed s number a b c d w =
    let x : ℕ = context t.lines t.state in
    let v : ℕ = swi t.swis a TRIGGER in
    let choose : (b : Bool) (k l : CallRule SwiQueues) → _ = chosen-keeps (with_posts t) in
    let post = post-used t typed s a b c d in
    let mask = mask-used t typed s a c d in
    choose (eqb number 0x10) _ _ (create-keeps t typed s x a b c d)
    (choose (eqb number 0x11) _ _ (delete-keeps t typed s x a b c d)
    (choose (eqb number 0x12) _ _ (post-keeps t typed s a b c d)
    (choose (eqb number 0x13) _ _ (λ z. change-settles t typed s a (post z) (one_up v))
    (choose (eqb number 0x14) _ _ (λ z. zero-settles t typed s a (post z) (one_down v))
    (choose (eqb number 0x15) _ _ (λ z. change-settles t typed s a (mask z) (bit_or v b))
    (choose (eqb number 0x16) _ _ (λ z. zero-settles t typed s a (mask z) (cleared v b))
    (choose (eqb number 0x17) _ _ (end-keeps t typed s a b c d)
    (choose (eqb number 0x18) _ _ (taken-keeps t typed s x a b c d) (unknown-keeps (with_posts t) (swi_queues t.swis t.lines))))))))))
