-- One Swi's row, and the lines in which Swis stand, change alone: what has to hold of them, so that all rules but those on the state are kept.
use Prim.Native.Nat.{ℕ, ◌≤◌, ◌<◌, ◌*◌}
use mathlib.Core.Path.{◌≡◌, ◌∙◌}
use mathlib.Core.Logic.{◌≢◌, ◌⊎◌, inl, inr, ⊎_elim}
use mathlib.Core.List.{List}
use native.Mathlib.Omega.{arith}
use lib.Dec.{eqb}
use lib.ListN.{length}
use Rattle.basics.specs.Lists.{bit, count}
use Rattle.basics.specs.Rule.{Means}
use Rattle.basics.proofs.Laws.{same?, lt-or-le, at_most}
use Rattle.rules.specs.Tables.{swi_count, swi_width, clock_count, swi, with_swi, clock, USED, PRIORITY, POSTED, TAKEN, swi_levels}
use Rattle.rules.specs.Lines.{semaphore_line, mailbox_line, event_line, posted_line, active_line, line, swi_home, line_count, line_width}
use Rattle.rules.specs.Swis.{SwiQueues}
use Rattle.rules.specs.Sound.{lines_rule, semaphore_rule, event_rule, mailbox_rule, swi_rule, swis_rule, active_rule, clock_rule}
use Rattle.rules.specs.Step.{with_posts}
use Rattle.rules.specs.declared.Tables.{Tables}
use Rattle.rules_laws.proofs.Rows.{field_out, field-same, field-other, field_row, length-with_field, row-used}
use Rattle.demand_2_soundness.proofs.Groups.{OfTasks, Almost}
use Rattle.demand_2_soundness.proofs.Members.{bit_le, bit-other, of-member}
use Rattle.demand_2_soundness.proofs.Standing.{home-posted, home-unposted, home-kept, swi-out}
use Rattle.demand_2_soundness.proofs.ObjectRules.{swi-kept}
use Rattle.demand_2_soundness.proofs.Actives.{rises-most}
use Rattle.demand_2_soundness.proofs.OneRow.{each-but}

-- ---- the rule of a Swi in use
pub rule-used : (ws ls : List ℕ) (x : ℕ) → swi ws x USED ≡ 1 → swi ws x PRIORITY < swi_levels → swi ws x POSTED < 2
    → (count x (line ls active_line) ≡ 0 → swi ws x TAKEN ≡ 0) → Means (swi_rule ws ls x)
unfolding swi_rule
rule-used ws ls x u p o c = (omega arith, (λ z. absurd (omega arith), (p, (o, c))))

-- ---- Swi i's row changes, it may come into a line of Swis or leave one, and nothing else is touched
pub record SwiChanged (t : Tables) (i : ℕ) (p : SwiQueues) : Type 0 where
  pub swis_length : length p.swis ≡ swi_count * swi_width
  pub lines_length : length p.lines ≡ line_count * line_width
  pub lines : Means (lines_rule p.lines)
  pub of_tasks : (j : ℕ) → OfTasks j → line p.lines j ≡ line t.lines j
  pub rows : (x f : ℕ) → x ≢ i → swi p.swis x f ≡ swi t.swis x f
  pub posted : (x q : ℕ) → x ≢ i → q < swi_levels → count x (line p.lines (posted_line q)) ≡ count x (line t.lines (posted_line q))
  pub actives : (x : ℕ) → x ≢ i → count x (line p.lines active_line) ≡ count x (line t.lines active_line)
  pub named : (n : ℕ) → n < clock_count → (clock t.clocks n).used ≡ 1 → swi p.swis (clock t.clocks n).swi USED ≡ 1
  pub stands : (q : ℕ) → q < swi_levels → count i (line p.lines (posted_line q)) ≡ bit (eqb (swi_home p.swis i) (posted_line q))
  pub rule : Means (swi_rule p.swis p.lines i)
  pub active : Means (active_rule p.swis p.lines)

module _ (t : Tables) (a : Almost t) (i : ℕ) (p : SwiQueues) (k : SwiChanged t i p) where
  standing : (x q : ℕ) → q < swi_levels → count x (line p.lines (posted_line q)) ≡ bit (eqb (swi_home p.swis x) (posted_line q))
  standing x q h =
      ⊎_elim
      (λ (e : x ≡ i). rw e (k.stands q h))
      (λ (n : x ≢ i).
      rw (home-kept t.swis x p.swis (k.rows x POSTED n) (k.rows x PRIORITY n)) (k.posted x q n h ∙ a.standing.swis x q h))
      (same? x i)

  swis : Means (swis_rule p.swis p.lines)
  swis =
      each-but swi_count i (swi_rule t.swis t.lines) (swi_rule p.swis p.lines)
      (λ x h n. swi-kept t.swis p.swis t.lines p.lines x (λ f. k.rows x f n) (k.actives x n))
      (λ _. k.rule)
      a.swis

  pub swi-almost : Almost (with_posts t p)
  unfolding semaphore_rule event_rule mailbox_rule clock_rule
  swi-almost =
      record {
        typed =
            record {
              tasks = a.typed.tasks;
              lines = k.lines_length;
              semaphores = a.typed.semaphores;
              events = a.typed.events;
              mailboxes = a.typed.mailboxes;
              swis = k.swis_length;
              clocks = a.typed.clocks;
              heap = a.typed.heap;
              state = a.typed.state;
            };
        heap = a.heap;
        clocks = λ n h. let (u, (z, o)) = a.clocks n h in (u, (z, λ e. (k.named n h e, (o e).1)));
        tasks = a.tasks;
        lines = k.lines;
        standing = record { tasks = λ x j o. rw (k.of_tasks j o) (a.standing.tasks x j o); swis = standing };
        semaphores = λ s h. rw (k.of_tasks (semaphore_line s) (inl (omega arith))) (a.semaphores s h);
        events = λ e h. rw (k.of_tasks (event_line e) (inl (omega arith))) (a.events e h);
        mailboxes = λ m h. rw (k.of_tasks (mailbox_line m) (inl (omega arith))) (a.mailboxes m h);
        swis = swis;
        active = k.active;
      }

-- ---- what the rules say of a Swi
pub swi-below : (ws : List ℕ) (x f : ℕ) → swi ws x f ≢ 0 → x < swi_count
swi-below = row-used swi_width swi_count

module _ (ws ls : List ℕ) (rules : Means (swis_rule ws ls)) where
  pub used-one : (x : ℕ) → swi ws x USED ≢ 0 → swi ws x USED ≡ 1
  unfolding swi_rule
  used-one x n = omega (arith, (rules x (swi-below ws x USED n)).0)

  pub priority-below : (x : ℕ) → swi ws x PRIORITY < swi_levels
  unfolding swi_rule
  priority-below x =
      ⊎_elim (λ h. (rules x h).1.1.0) (λ h. omega (arith, field_out swi_width swi_count ws x PRIORITY h)) (lt-or-le x swi_count)

  posted-cases : (x : ℕ) → (swi ws x POSTED ≡ 0) ⊎ (swi ws x POSTED ≡ 1)
  unfolding swi_rule
  posted-cases x =
      ⊎_elim (λ e. inl e)
      (λ (n : swi ws x POSTED ≢ 0). inr (omega (arith, (rules x (swi-below ws x POSTED n)).1.1.1.0)))
      (same? (swi ws x POSTED) 0)

  -- a posted one is in use
  pub posted-in-use : (x : ℕ) → swi ws x POSTED ≡ 1 → swi ws x USED ≡ 1
  unfolding swi_rule
  posted-in-use x e =
      let n : swi ws x POSTED ≢ 0 = λ z. omega arith in
      let r = rules x (swi-below ws x POSTED n) in
      used-one x (λ z. n (r.1.0 z).1.1.1)

  -- whose home is a line of posted Swis is posted at that priority
  pub posted-there : (x q : ℕ) → q < swi_levels → swi_home ws x ≡ posted_line q → (swi ws x POSTED ≡ 1) × (swi ws x PRIORITY ≡ q)
  posted-there x q h e =
      ⊎_elim
      (λ z. absurd (omega (arith, e, home-unposted ws x z)))
      (λ o. (o, omega (arith, e, home-posted ws x o)))
      (posted-cases x)

  module _ (active : Means (active_rule ws ls)) where
    pub active-used : (x : ℕ) → 0 < count x (line ls active_line) → swi ws x USED ≡ 1
    active-used x h = of-member (λ y. swi ws y USED ≡ 1) (line ls active_line) active.0 x h

    -- "rise strictly in priority", and priorities are below 16
    pub active-most : length (line ls active_line) ≤ swi_levels
    active-most = rises-most (λ x. swi ws x PRIORITY) (line ls active_line) active.1 swi_levels (λ k h. priority-below _)

-- ---- room in a line of posted Swis
module _ (t : Tables) (a : Almost t) (q : ℕ) (low : q < swi_levels) where
  pub posted-most : length (line t.lines (posted_line q)) ≤ swi_levels
  posted-most =
      at_most swi_levels (line t.lines (posted_line q))
      (λ y. rw (a.standing.swis y q low) (bit_le (eqb (swi_home t.swis y) (posted_line q))))
      (λ y h. a.standing.swis y q low ∙ bit-other (swi_home t.swis y) (posted_line q) (λ e. omega (arith, e, swi-out t.swis y h)))

-- ---- one field of a Swi changes
module _ (ws : List ℕ) (i f v : ℕ) where
  pub length-swi : length (with_swi ws i f v) ≡ length ws
  length-swi = length-with_field swi_width swi_count ws i f v

  pub swi-same : length ws ≡ swi_count * swi_width → i < swi_count → f < swi_width → swi (with_swi ws i f v) i f ≡ v
  swi-same n h q = field-same swi_width swi_count ws i f v (omega arith) h q

  pub swi-row : (x g : ℕ) → x ≢ i → swi (with_swi ws i f v) x g ≡ swi ws x g
  swi-row x g d = field_row swi_width swi_count ws i f v x g d

  pub swi-other : (x g : ℕ) → g ≢ f → swi (with_swi ws i f v) x g ≡ swi ws x g
  swi-other x g n =
      ⊎_elim (λ (e : x ≡ i). rw e (field-other swi_width swi_count ws i f v g n)) (λ (d : x ≢ i). swi-row x g d) (same? x i)

-- ---- who is in use stays so
pub named-kept : (t : Tables) → Almost t → (vs : List ℕ) → ((x : ℕ) → swi vs x USED ≡ swi t.swis x USED)
    → (n : ℕ) → n < clock_count → (clock t.clocks n).used ≡ 1 → swi vs (clock t.clocks n).swi USED ≡ 1
unfolding clock_rule
named-kept t a vs same n h e = same _ ∙ ((a.clocks n h).1.1 e).0
