-- A Swi is posted, or its trigger changed.
use Prim.Native.Nat.{ℕ, ◌+◌, ◌<◌}
use mathlib.Core.Path.{◌≡◌, refl, sym, ap, ◌∙◌}
use mathlib.Core.Logic.{◌≢◌, ⊎_elim}
use mathlib.Core.List.{List}
use native.Mathlib.Omega.{arith}
use lib.Dec.{eqb}
use borrow.Author.Tests.{eq-eqb, ne_eqb, lt-ltb}
use lib.ListN.{length}
use Rattle.basics.specs.Lists.{bit, count}
use Rattle.basics.specs.Rule.{Means}
use Rattle.basics.proofs.Laws.{same?, count-put_at}
use Rattle.rules.specs.Tables.{swi_count, swi, with_swi, PRIORITY, TRIGGER, POSTED, TAKEN, USED, swi_levels}
use Rattle.rules.specs.Lines.{line, joined, at_back, posted_line, active_line, swi_home}
use Rattle.rules.specs.Swis.{swi_queues, posted, triggered}
use Rattle.rules.specs.Sound.{swi_rule}
use Rattle.rules.specs.Step.{with_posts}
use Rattle.rules.specs.declared.Tables.{Tables}
use Rattle.rules_laws.proofs.Lines.{length-entered, entered-same, entered-other}
use Rattle.demand_2_soundness.proofs.Groups.{Almost}
use Rattle.demand_2_soundness.proofs.Members.{bit-same, bit-other}
use Rattle.demand_2_soundness.proofs.Stored.{entered-lines}
use Rattle.demand_2_soundness.proofs.ObjectRules.{active-kept}
use Rattle.demand_2_soundness.proofs.Aside.{not-of-swis}
use Rattle.demand_2_soundness.proofs.Standing.{home-posted, home-unposted, home-kept}
use Rattle.demand_2_soundness.proofs.SwiTables.{SwiChanged, swi-almost, swi-below, used-one, priority-below, posted-most, length-swi, swi-same}
use Rattle.demand_2_soundness.proofs.SwiTables.{swi-row, swi-other, named-kept, rule-used}

module _ (t : Tables) (a : Almost t) (i : ℕ) (used : swi t.swis i USED ≢ 0) where
  here : i < swi_count
  here = swi-below t.swis i USED used

  used-is : swi t.swis i USED ≡ 1
  used-is = used-one t.swis t.lines a.swis i used

  -- ---- not yet posted: it joins its priority's queue
  posted-new : swi t.swis i POSTED ≡ 0 → posted i (swi_queues t.swis t.lines)
      ≡ swi_queues (with_swi t.swis i POSTED 1) (joined (posted_line (swi t.swis i PRIORITY)) i t.lines)
  unfolding posted
  posted-new un = rw (lt-ltb i swi_count here, eq-eqb (swi t.swis i POSTED) 0 un)

  posted-old : swi t.swis i POSTED ≢ 0 → posted i (swi_queues t.swis t.lines) ≡ swi_queues t.swis t.lines
  unfolding posted
  posted-old n = rw (lt-ltb i swi_count here, ne_eqb (swi t.swis i POSTED) 0 n)

  p : ℕ
  p = swi t.swis i PRIORITY

  ws : List ℕ
  ws = with_swi t.swis i POSTED 1

  ls : List ℕ
  ls = joined (posted_line p) i t.lines

  low : p < swi_levels
  unfolding p
  low = priority-below t.swis t.lines a.swis i

  same : (x f : ℕ) → f ≢ POSTED → swi ws x f ≡ swi t.swis x f
  unfolding ws
  same = swi-other t.swis i POSTED 1

  now : swi ws i POSTED ≡ 1
  unfolding ws
  now = swi-same t.swis i POSTED 1 a.typed.swis here (omega arith)

  other : (j : ℕ) → j ≢ posted_line p → line ls j ≡ line t.lines j
  unfolding ls
  other j n = entered-other t.lines (posted_line p) i at_back j n

  active-stays : line ls active_line ≡ line t.lines active_line
  active-stays = other active_line (λ (e : active_line ≡ posted_line p). omega (arith, low))

  -- the line that it joins has room
  count-there : (x : ℕ) → count x (line ls (posted_line p)) ≡ bit (eqb i x) + count x (line t.lines (posted_line p))
  unfolding ls
  count-there x =
      let h = low in
      let most = posted-most t a p h in
      ap (count x) (entered-same t.lines (posted_line p) i at_back (omega arith) a.typed.lines (omega arith))
      ∙ count-put_at x (length (line t.lines (posted_line p))) i (line t.lines (posted_line p))

  counts : (x q : ℕ) → x ≢ i → q < swi_levels → count x (line ls (posted_line q)) ≡ count x (line t.lines (posted_line q))
  counts x q n h =
      ⊎_elim
      (λ (e : q ≡ p). rw e (count-there x ∙ rw (ne_eqb i x (λ d. n (sym d))) (omega arith)))
      (λ (m : q ≢ p). ap (count x) (other (posted_line q) (λ (e : posted_line q ≡ posted_line p). m (omega arith))))
      (same? q p)

  stands : swi t.swis i POSTED ≡ 0 → (q : ℕ) → q < swi_levels → count i (line ls (posted_line q)) ≡ bit (eqb (swi_home ws i) (posted_line q))
  unfolding p
  stands un q h =
      let home : swi_home ws i ≡ posted_line p = home-posted ws i now ∙ ap posted_line (same i PRIORITY (λ e. omega arith)) in
      let away : swi_home t.swis i ≢ posted_line q = λ (e : swi_home t.swis i ≡ posted_line q). omega (arith, e, home-unposted t.swis i un) in
      let none : count i (line t.lines (posted_line q)) ≡ 0 = a.standing.swis i q h ∙ bit-other _ _ away in
      ⊎_elim
      (λ (e : q ≡ p). rw (e, home, eq-eqb (posted_line p) (posted_line p) refl) (omega (arith, count-there i, bit-same i i refl, rw e at none)))
      (λ (n : q ≢ p).
      let m : posted_line q ≢ posted_line p = λ (e : posted_line q ≡ posted_line p). n (omega arith) in
      rw (home, other (posted_line q) m, ne_eqb (posted_line p) (posted_line q) (λ e. m (sym e))) none)
      (same? q p)

  rule : Means (swi_rule ws ls i)
  unfolding swi_rule p
  rule =
      rule-used ws ls i (same i USED (λ e. omega arith) ∙ used-is) (rw (same i PRIORITY (λ e. omega arith)) low) (omega (arith, now))
      (λ z. same i TAKEN (λ e. omega arith) ∙ (a.swis i here).1.1.1.1 (ap (count i) (sym active-stays) ∙ z))

  changed : swi t.swis i POSTED ≡ 0 → SwiChanged t i (swi_queues ws ls)
  unfolding ws ls
  changed un =
      let h = low in
      record {
        swis_length = length-swi t.swis i POSTED 1 ∙ a.typed.swis;
        lines_length = length-entered t.lines (posted_line p) i at_back ∙ a.typed.lines;
        lines = entered-lines t.lines a.typed.lines a.lines at_back (posted_line p) i;
        of_tasks = λ j o. other j (not-of-swis j (posted_line p) o (omega arith) (omega arith));
        rows = swi-row t.swis i POSTED 1;
        posted = counts;
        actives = λ x n. ap (count x) active-stays;
        named = named-kept t a ws (λ x. same x USED (λ e. omega arith));
        stands = stands un;
        rule = rule;
        active =
            active-kept t.swis ws t.lines ls active-stays
            (λ x h. (same x USED (λ e. omega arith), same x PRIORITY (λ e. omega arith)))
            a.active;
      }

  pub posted-keeps : Almost (with_posts t (posted i (swi_queues t.swis t.lines)))
  unfolding p ws ls
  posted-keeps =
      ⊎_elim (λ un. rw (posted-new un) (swi-almost t a i (swi_queues ws ls) (changed un))) (λ n. rw (posted-old n) a) (same? (swi t.swis i POSTED) 0)

  -- ---- its trigger alone
  module _ (v : ℕ) where
    vs : List ℕ
    vs = with_swi t.swis i TRIGGER v

    stays : (x f : ℕ) → f ≢ TRIGGER → swi vs x f ≡ swi t.swis x f
    unfolding vs
    stays = swi-other t.swis i TRIGGER v

    triggered-rule : Means (swi_rule vs t.lines i)
    unfolding swi_rule
    triggered-rule =
        let (u, (z, (p, (o, c)))) = a.swis i here in
        rule-used vs t.lines i (stays i USED (λ e. omega arith) ∙ used-is) (rw (stays i PRIORITY (λ e. omega arith)) p)
        (rw (stays i POSTED (λ e. omega arith)) o)
        (λ z. stays i TAKEN (λ e. omega arith) ∙ c z)

    pub triggered-keeps : Almost (with_posts t (triggered i v (swi_queues t.swis t.lines)))
    unfolding vs
    triggered-keeps =
        swi-almost t a i (swi_queues vs t.lines)
        record {
          swis_length = length-swi t.swis i TRIGGER v ∙ a.typed.swis;
          lines_length = a.typed.lines;
          lines = a.lines;
          of_tasks = λ j o. refl;
          rows = swi-row t.swis i TRIGGER v;
          posted = λ x q n h. refl;
          actives = λ x n. refl;
          named = named-kept t a vs (λ x. stays x USED (λ e. omega arith));
          stands = λ q h.
              rw (home-kept t.swis i vs (stays i POSTED (λ e. omega arith)) (stays i PRIORITY (λ e. omega arith))) (a.standing.swis i q h);
          rule = triggered-rule;
          active =
              active-kept t.swis vs t.lines t.lines refl
              (λ x h. (stays x USED (λ e. omega arith), stays x PRIORITY (λ e. omega arith)))
              a.active;
        }
