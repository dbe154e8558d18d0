-- Examples for demand 3: a run of calls is computed in one pass. On sound tables a call is its step, so that soundness is not tested anew.
use Prim.{tt}
use Prim.Native.Nat.{ℕ, suc, ◌+◌, ◌<◌, ◌≤◌}
use mathlib.Core.Path.{◌≡◌, refl, sym, ap, subst, ◌∙◌}
use mathlib.Core.Logic.{inr}
use mathlib.Core.Bool.{Bool, true, false, not, ◌&&◌, and-eq-true_iff, false≢true}
use mathlib.Core.List.{List, [], ◌∷◌, ◌++◌}
use native.Mathlib.Omega.{arith}
use borrow.Author.Tests.{ltb-false, eq-eqb, eqb-true, not-true}
use lib.Dec.{eqb}
use Rattle.basics.specs.Lists.{bit, count}
use Rattle.basics.proofs.Laws.{no_length}
use Rattle.basics.proofs.Finds.{high_is}
use Rattle.rules.specs.Tables.{Typed, levels, at_semaphore, ready, task, state, DEPTH, SWIS, TASKS}
use Rattle.rules.specs.Lines.{line, ready_line, active_line, anyone}
use Rattle.rules.specs.Dispatch.{running, highest_ready}
use Rattle.rules.specs.Sound.{Sound}
use Rattle.rules.specs.Step.{step}
use Rattle.rules.specs.declared.Tables.{Tables}
use Rattle.rules.specs.declared.Step.{Step}
use Rattle.rules.specs.declared.Thread.{Thread}
use Rattle.rules.specs.declared.Thread.TheVariants.{Task, Swi, Interrupt}
use Rattle.rules_laws.proofs.Runs.{Line, Said, ◌runs◌, look, said, saw, says, calls, answers}
use Rattle.rules_laws.proofs.Runs as Runs
use Rattle.runs.specs.Run.{made, next, after, Each, Always, AllWords}
use Rattle.runs.specs.Turn.{BlockedOn, posts_on, ServedIn, queue_at, Undisturbed, Gone, Unhindered}
use Rattle.demand_2_soundness.proofs.RunsBySteps.{asks, in_words, first-words}
use Rattle.demands.proofs.Two.{demand-2}
use Rattle.rules.specs.Answer.{asked}
use Rattle.rules.specs.declared.Call.{Call}

-- ---- a run of calls by steps: what they say, how many are accepted posts on s, whether f holds of the tables before and after each, and the
-- tables after all
pub record Pass : Type 0 where
  pub says : List Said
  pub posts : ℕ
  pub all : Bool
  pub now : Tables

abbrev then : (Tables → Tables → Bool) → ℕ → Tables → Call → Step → Pass → Pass
then f s t q x r =
    record {
      says = said x.answer.code x.answer.outcome x.answer.value x.thread ∷ r.says;
      posts = bit (eqb q.number 0x23 && eqb q.a s && eqb x.answer.code 0) + r.posts;
      all = f t x.tables && r.all;
      now = r.now;
    }

abbrev on : (Tables → Tables → Bool) → ℕ → Tables → Call → (Tables → Pass) → Step → Pass
on f s t q rest x = then f s t q x (rest x.tables)

unfoldable pub pass : (Tables → Tables → Bool) → ℕ → Tables → List Runs.Asked → Pass
pass f s t [] = record { says = []; posts = 0; all = true; now = t }
pass f s t (Runs.asked n a b c d ∷ xs) = on f s t (asked n a b c d) (λ u. pass f s u xs) (step t n a b c d)
pass f s t (look g ∷ xs) = let r : Pass = pass f s t xs in record { says = saw (g t) ∷ r.says; posts = r.posts; all = r.all; now = r.now }

words : (t : Tables) (qs : List Call) → in_words qs ≡ true → AllWords t qs
unfolding Each
words t [] e = tt
words t (q ∷ qs) e = let (here, later) = first-words q qs e in (here, words (next t q) qs later)

-- ---- that is what the calls do
record Meant (f : Tables → Tables → Bool) (s : ℕ) (t : Tables) (xs : List Runs.Asked) (r : Pass) : Type 0 where
  says : says t xs ≡ r.says
  posts : posts_on s t (asks xs) ≡ r.posts
  all : r.all ≡ true → Each (λ u q. f u (next u q) ≡ true) t (asks xs)
  now : after t (asks xs) ≡ r.now
  typed : Typed r.now
  sound : Sound r.now

meant : (f : Tables → Tables → Bool) (s : ℕ) (t : Tables) → Typed t → Sound t → (xs : List Runs.Asked) → AllWords t (asks xs)
    → Meant f s t xs (pass f s t xs)
unfolding Each after posts_on says pass
meant f s t typed sound [] w = record { says = refl; posts = refl; all = λ e. tt; now = refl; typed = typed; sound = sound }
meant f s t typed sound (Runs.asked n a b c d ∷ xs) w =
    let k = demand-2 t typed sound (asked n a b c d) w.0 in
    let m = meant f s (next t (asked n a b c d)) k.typed k.sound xs w.1 in
    subst (λ (x : Step). Meant f s t (Runs.asked n a b c d ∷ xs) (on f s t (asked n a b c d) (λ u. pass f s u xs) x)) k.effect
    record {
      says = rw m.says;
      posts = rw m.posts;
      all = λ e. let (here, later) = (and-eq-true_iff _ _).0 e in (here, m.all later);
      now = m.now;
      typed = m.typed;
      sound = m.sound;
    }
meant f s t typed sound (look g ∷ xs) w =
    let m = meant f s t typed sound xs w in
    record { says = rw m.says; posts = m.posts; all = m.all; now = m.now; typed = m.typed; sound = m.sound }

-- ---- these lines lead from tables t to sound tables u, with n accepted posts on s, and f holds of the tables before and after each call
pub record Leads (f : Tables → Tables → Bool) (s : ℕ) (t : Tables) (ls : List Line) (n : ℕ) (u : Tables) : Type 0 where
  pub words : AllWords t (asks (calls ls))
  pub answers : t runs ls
  pub posts : posts_on s t (asks (calls ls)) ≡ n
  pub all : Each (λ v q. f v (next v q) ≡ true) t (asks (calls ls))
  pub now : after t (asks (calls ls)) ≡ u
  pub typed : Typed u
  pub sound : Sound u

pub leads : (f : Tables → Tables → Bool) (s : ℕ) (t : Tables) → Typed t → Sound t → (ls : List Line) (n : ℕ) (u : Tables)
    → in_words (asks (calls ls)) ≡ true → pass f s t (calls ls) ≡ record { says = answers ls; posts = n; all = true; now = u } → Leads f s t ls n u
leads f s t typed sound ls n u e p =
    let w = words t (asks (calls ls)) e in
    let m = subst (λ (r : Pass). Meant f s t (calls ls) r) p (meant f s t typed sound (calls ls) w) in
    record { words = w; answers = record { so = m.says }; posts = m.posts; all = m.all refl; now = m.now; typed = m.typed; sound = m.sound }

-- ---- tests of the tables before and after a call, and what they mean
abbrev pub anything : Tables → Tables → Bool
anything t u = true

abbrev pub blocked : ℕ → ℕ → Tables → Tables → Bool
blocked s i t u = eqb (task t.tasks i).mode at_semaphore && eqb (task t.tasks i).object s

abbrev is_task : ℕ → Thread → Bool
is_task i (Task n) = eqb n i
is_task i (Swi n) = false
is_task i Interrupt = false

abbrev pub undisturbed : ℕ → ℕ → Tables → Tables → Bool
undisturbed p i t u = not (is_task i (running t.lines t.state)) && eqb (task u.tasks i).priority p

-- it keeps its priority, whether it runs or not
abbrev pub unchanged : ℕ → ℕ → Tables → Tables → Bool
unchanged p i t u = eqb (task u.tasks i).priority p

pub stays-blocked : (s i : ℕ) (t : Tables) (qs : List Call) → Each (λ u q. blocked s i u (next u q) ≡ true) t qs → BlockedOn s i (after t qs)
    → Always (BlockedOn s i) t qs
unfolding Each Always after
stays-blocked s i t [] e last = last
stays-blocked s i t (q ∷ qs) e last =
    let (mode, object) = (and-eq-true_iff _ _).0 e.0 in
    ((eqb-true _ _ mode, eqb-true _ _ object), stays-blocked s i (next t q) qs e.1 last)

pub stays-undisturbed : (p i : ℕ) (t : Tables) (qs : List Call) → Each (λ u q. undisturbed p i u (next u q) ≡ true) t qs → Each (Undisturbed p i) t qs
unfolding Each
stays-undisturbed p i t [] e = tt
stays-undisturbed p i t (q ∷ qs) e =
    let (other, same) = (and-eq-true_iff _ _).0 e.0 in
    ((λ r. false≢true (sym (not-true _ other) ∙ ap (is_task i) r ∙ eq-eqb i i refl), eqb-true _ _ same), stays-undisturbed p i (next t q) qs e.1)

pub stays-unchanged : (p i : ℕ) (t : Tables) (qs : List Call) → Each (λ u q. unchanged p i u (next u q) ≡ true) t qs
    → Each (λ u q. (task (next u q).tasks i).priority ≡ p) t qs
unfolding Each
stays-unchanged p i t [] e = tt
stays-unchanged p i t (q ∷ qs) e = (eqb-true _ _ e.0, stays-unchanged p i (next t q) qs e.1)

-- who was blocked all along was not served: at no place of the run is it ready
always-there : (P : Tables → Type 0) (u : Tables) (before : List Call) (q : Call) (rest : List Call) → Always P u (before ++ (q ∷ rest))
    → P (next (after u before) q)
unfolding Always after
always-there P u [] q [] a = a.1
always-there P u [] q (r ∷ rest) a = a.1.0
always-there P u (p ∷ before) q rest a = always-there P (next u p) before q rest a.1

pub not-served : (s i k : ℕ) (u : Tables) (qs : List Call) → Always (BlockedOn s i) u qs → ServedIn s i k u qs → ⊥
not-served s i k u qs a x =
    let there = always-there (BlockedOn s i) u x.before x.post x.rest (rw x.split at a) in
    omega (arith, there.0, rw x.now at x.ready)

-- who was blocked until the tables v, in which an accepted post on semaphore 0 readies it, is served by that post
unfoldable pub served-there : (i k n : ℕ) (u v w : Tables) (ls : List Line) (rest : List Call) → Leads (blocked 0 i) 0 u ls n v → n ≤ k
    → BlockedOn 0 i v → (made v (asked 0x23 0 0 0 0)).answer.code ≡ 0 → next v (asked 0x23 0 0 0 0) ≡ w
    → ((task w.tasks i).mode ≡ ready) × ((task w.tasks i).outcome ≡ 0) × ((task w.tasks i).value ≡ 0)
    → ServedIn 0 i k u (asks (calls ls) ++ (asked 0x23 0 0 0 0 ∷ rest))
served-there i k n u v w ls rest l few there accepted now (is-ready, outcome, value) =
    record {
      before = asks (calls ls);
      post = asked 0x23 0 0 0 0;
      rest = rest;
      split = refl;
      blocked = stays-blocked 0 i u (asks (calls ls)) l.all (rw l.now there);
      few = omega (arith, l.posts);
      posted = rw l.now (eq-eqb _ 0 accepted);
      moment = w;
      now = rw l.now (sym now);
      ready = is-ready;
      outcome = outcome;
      value = value;
    }

-- who has left the queue after all calls is gone
pub gone-at-last : (p x : ℕ) (t : Tables) (qs : List Call) → count x (queue_at p (after t qs)) ≡ 0 → Gone p x t qs
unfolding after Gone
gone-at-last p x t [] e = e
gone-at-last p x t (q ∷ qs) e = inr (inr (gone-at-last p x (next t q) qs e))

-- no task is ready above the highest at which one is
pub none-higher : (t : Tables) (r : ℕ) → highest_ready (levels t.state) t.lines ≤ r → r < levels t.state → queue_at r t ≡ []
unfolding highest_ready
none-higher t r over under = no_length _ (ltb-false 0 _ ((high_is (levels t.state) (λ p. anyone t.lines (ready_line p))).after r over under))

-- where p is the highest priority at which a task is ready, nothing hinders it at depth 0 with no Swi active and both switches on
pub unhindered-there : (p : ℕ) (t : Tables) → highest_ready (levels t.state) t.lines ≡ suc p → line t.lines active_line ≡ []
    → state t.state DEPTH ≡ 0 → state t.state SWIS ≡ 1 → state t.state TASKS ≡ 1 → Unhindered p t
unhindered-there p t highest none depth swis tasks =
    record {
      higher = λ r over under. none-higher t r (omega arith) under;
      depth = depth;
      active = none;
      swis = λ e. omega arith;
      tasks = λ e. omega arith;
    }
