-- The first posted Swi at a priority above the top active one's starts: it leaves its queue and is the top active one.
use Prim.Native.Nat.{ℕ, suc, ◌+◌, ◌*◌, ◌-◌, ◌<◌}
use mathlib.Core.Path.{◌≡◌, refl, sym, ap, ◌∙◌}
use mathlib.Core.Logic.{◌≢◌, ⊎_elim}
use mathlib.Core.List.{List, [], ◌∷◌, ◌++◌}
use native.Mathlib.Omega.{arith}
use lib.Dec.{eqb}
use borrow.Author.Tests.{ne_eqb}
use lib.ListN.{length, get_or}
use lib.Seq.{get_or_at}
use Rattle.basics.specs.Lists.{bit, count, without}
use Rattle.basics.specs.Rule.{Means}
use Rattle.basics.proofs.Laws.{same?, count-snoc, count-without, count-without-other, put_at-back}
use Rattle.rules.specs.Tables.{swi_count, swi, with_swi, PRIORITY, INITIAL, TRIGGER, POSTED, TAKEN, USED, swi_width, swi_levels}
use Rattle.rules.specs.Lines.{line_count, line_most, line_width, line, out_of, joined, at_back, posted_line, active_line, swi_home}
use Rattle.rules.specs.Swis.{swi_queues, top}
use Rattle.rules.specs.Dispatch.{started}
use Rattle.rules.specs.Sound.{swi_rule, active_rule}
use Rattle.rules.specs.Step.{with_posts}
use Rattle.rules.specs.declared.Tables.{Tables}
use Rattle.rules_laws.proofs.InPlace.{length-snoc}
use Rattle.rules_laws.proofs.Lines.{length-left, left-same, left_other, length-entered, entered-same, entered-other}
use Rattle.demand_2_soundness.proofs.Groups.{Almost}
use Rattle.demand_2_soundness.proofs.Members.{bit-same, bit-other}
use Rattle.demand_2_soundness.proofs.Stored.{left-lines, entered-lines}
use Rattle.demand_2_soundness.proofs.Actives.{Rises, rises-more, every_more}
use Rattle.demand_2_soundness.proofs.Aside.{not-of-swis}
use Rattle.demand_2_soundness.proofs.Standing.{home-unposted}
use Rattle.demand_2_soundness.proofs.SwiTables.{SwiChanged, swi-almost, swi-below, posted-in-use, posted-there, active-most, length-swi, swi-same}
use Rattle.demand_2_soundness.proofs.SwiTables.{swi-row, swi-other, named-kept, rule-used}

module _ (t : Tables) (a : Almost t) (i p : ℕ) (low : p < swi_levels) (home : swi_home t.swis i ≡ posted_line p) where
  is-posted : (swi t.swis i POSTED ≡ 1) × (swi t.swis i PRIORITY ≡ p)
  is-posted = posted-there t.swis t.lines a.swis i p low home

  used : swi t.swis i USED ≡ 1
  used = posted-in-use t.swis t.lines a.swis i is-posted.0

  here : i < swi_count
  here = swi-below t.swis i USED (λ z. omega (arith, used))

  -- ---- the rows
  one : List ℕ
  one = with_swi t.swis i TAKEN (swi t.swis i TRIGGER)

  two : List ℕ
  two = with_swi one i TRIGGER (swi t.swis i INITIAL)

  ws : List ℕ
  ws = with_swi two i POSTED 0

  same : (x f : ℕ) → f < TRIGGER → swi ws x f ≡ swi t.swis x f
  unfolding one two ws
  same x f l =
      swi-other two i POSTED 0 x f (λ e. omega arith)
      ∙ swi-other one i TRIGGER (swi t.swis i INITIAL) x f (λ e. omega arith)
      ∙ swi-other t.swis i TAKEN (swi t.swis i TRIGGER) x f (λ e. omega arith)

  used-stays : (x : ℕ) → swi ws x USED ≡ swi t.swis x USED
  used-stays x = same x USED (omega arith)

  priority-stays : (x : ℕ) → swi ws x PRIORITY ≡ swi t.swis x PRIORITY
  priority-stays x = same x PRIORITY (omega arith)

  rows : (x f : ℕ) → x ≢ i → swi ws x f ≡ swi t.swis x f
  unfolding one two ws
  rows x f n =
      swi-row two i POSTED 0 x f n
      ∙ swi-row one i TRIGGER (swi t.swis i INITIAL) x f n
      ∙ swi-row t.swis i TAKEN (swi t.swis i TRIGGER) x f n

  length_two : length two ≡ swi_count * swi_width
  unfolding one two
  length_two = length-swi one i TRIGGER (swi t.swis i INITIAL) ∙ length-swi t.swis i TAKEN (swi t.swis i TRIGGER) ∙ a.typed.swis

  unposted : swi ws i POSTED ≡ 0
  unfolding ws
  unposted = swi-same two i POSTED 0 length_two here (omega arith)

  -- ---- the lines
  ks : List ℕ
  ks = out_of (posted_line p) i t.lines

  ls : List ℕ
  ls = joined active_line i ks

  all : length ks ≡ line_count * line_width
  unfolding ks
  all = length-left t.lines (posted_line p) i ∙ a.typed.lines

  other : (j : ℕ) → j ≢ active_line → j ≢ posted_line p → line ls j ≡ line t.lines j
  unfolding ks ls
  other j n m = entered-other ks active_line i at_back j n ∙ left_other t.lines (posted_line p) i j m

  stays : (q : ℕ) → q < swi_levels → q ≢ p → line ls (posted_line q) ≡ line t.lines (posted_line q)
  stays q h n =
      other (posted_line q) (λ (e : posted_line q ≡ active_line). omega arith) (λ (e : posted_line q ≡ posted_line p). n (omega arith))

  gone : line ls (posted_line p) ≡ without i (line t.lines (posted_line p))
  unfolding ks ls
  gone =
      entered-other ks active_line i at_back (posted_line p) (λ (e : posted_line p ≡ active_line). omega arith)
      ∙ left-same t.lines (posted_line p) i (omega arith) a.typed.lines

  -- there is room for one more active one
  active-before : line ks active_line ≡ line t.lines active_line
  unfolding ks
  active-before = left_other t.lines (posted_line p) i active_line (λ (e : active_line ≡ posted_line p). omega arith)

  active : line ls active_line ≡ line t.lines active_line ++ (i ∷ [])
  unfolding ls
  active =
      let most = active-most t.swis t.lines a.swis a.active in
      let few : length (line ks active_line) < line_most = omega (arith, ap length active-before) in
      entered-same ks active_line i at_back (omega arith) all few
      ∙ put_at-back i (line ks active_line)
      ∙ ap (λ (xs : List ℕ). xs ++ (i ∷ [])) active-before

  count-active : (x : ℕ) → count x (line ls active_line) ≡ count x (line t.lines active_line) + bit (eqb i x)
  count-active x = ap (count x) active ∙ count-snoc x i (line t.lines active_line)

  -- ---- where the posted Swis stand
  counts : (x q : ℕ) → x ≢ i → q < swi_levels → count x (line ls (posted_line q)) ≡ count x (line t.lines (posted_line q))
  counts x q n h =
      ⊎_elim
      (λ (e : q ≡ p). rw (e, gone) (count-without-other x i (line t.lines (posted_line p)) n))
      (λ (m : q ≢ p). ap (count x) (stays q h m))
      (same? q p)

  stands : (q : ℕ) → q < swi_levels → count i (line ls (posted_line q)) ≡ bit (eqb (swi_home ws i) (posted_line q))
  stands q h =
      let away : swi_home ws i ≢ posted_line q = λ (e : swi_home ws i ≡ posted_line q). omega (arith, e, home-unposted ws i unposted) in
      rw (ne_eqb (swi_home ws i) (posted_line q) away)
      (⊎_elim
      (λ (e : q ≡ p). rw (e, gone) (count-without i (line t.lines (posted_line p))))
      (λ (n : q ≢ p).
      let elsewhere : swi_home t.swis i ≢ posted_line q = λ (e : swi_home t.swis i ≡ posted_line q). n (omega (arith, e, home)) in
      rw (stays q h n) (a.standing.swis i q h ∙ bit-other (swi_home t.swis i) (posted_line q) elsewhere))
      (same? q p))

  -- ---- the rules of the Swis
  rule : Means (swi_rule ws ls i)
  rule =
      rule-used ws ls i (used-stays i ∙ used) (omega (arith, low, is-posted.1, priority-stays i)) (omega (arith, unposted))
      (λ z. absurd (omega (arith, count-active i, bit-same i i refl)))

  module _ (above : 0 < length (line t.lines active_line) → swi t.swis (top t.lines) PRIORITY < p) where
    active-rule : Means (active_rule ws ls)
    unfolding top
    active-rule =
        let xs : List ℕ = line t.lines active_line in
        let ys : List ℕ = xs ++ (i ∷ []) in
        let r : Rises (λ x. swi t.swis x PRIORITY) ys =
        rises-more (λ x. swi t.swis x PRIORITY) xs a.active.1 i (λ h. rw is-posted.1 (above h)) in
        rw active (
          every_more (λ x. swi ws x USED ≡ 1) xs i (λ k h. used-stays _ ∙ a.active.0 k h) (used-stays i ∙ used),
          λ k h. rw (priority-stays (get_or ys k 0), priority-stays (get_or ys (suc k) 0)) (r k h),
        )

    changed : SwiChanged t i (swi_queues ws ls)
    unfolding ks ws ls
    changed =
        record {
          swis_length = length-swi two i POSTED 0 ∙ length_two;
          lines_length = length-entered ks active_line i at_back ∙ all;
          lines = entered-lines ks all (left-lines t.lines a.typed.lines a.lines (posted_line p) i) at_back active_line i;
          of_tasks = λ j o.
              other j (not-of-swis j active_line o (omega arith) (omega arith)) (not-of-swis j (posted_line p) o (omega arith) (omega arith));
          rows = rows;
          posted = counts;
          actives = λ x n. omega (arith, count-active x, bit-other i x (λ e. n (sym e)));
          named = named-kept t a ws used-stays;
          stands = stands;
          rule = rule;
          active = active-rule;
        }

    pub started-almost : Almost (with_posts t (started i (posted_line p) (swi_queues t.swis t.lines)))
    unfolding started one two ws ks ls
    started-almost = swi-almost t a i (swi_queues ws ls) changed

  -- ---- it is the top active one, at its priority; the posted ones at other priorities stay
  pub started-active : line (started i (posted_line p) (swi_queues t.swis t.lines)).lines active_line ≡ line t.lines active_line ++ (i ∷ [])
  unfolding started ks ls
  started-active = active

  pub started-top : top (started i (posted_line p) (swi_queues t.swis t.lines)).lines ≡ i
  unfolding top
  started-top =
      let xs : List ℕ = line t.lines active_line in
      let n = length-snoc xs i in
      rw (started-active, get_or_at xs i [] 0 (length (xs ++ (i ∷ [])) - 1) (omega arith))

  pub started-priority : swi (started i (posted_line p) (swi_queues t.swis t.lines)).swis i PRIORITY ≡ p
  unfolding started one two ws
  started-priority = priority-stays i ∙ is-posted.1

  pub started-stays : (q : ℕ) → q < swi_levels → q ≢ p
      → line (started i (posted_line p) (swi_queues t.swis t.lines)).lines (posted_line q) ≡ line t.lines (posted_line q)
  unfolding started ks ls
  started-stays = stays
