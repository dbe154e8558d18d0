-- Demand 3 holds of entry calls: each of them leaves what `Run.made` says, so what a sequence of them leaves is what demand 3 speaks of.
use Prim.{tt}
use Prim.Native.Nat.{ℕ, ◌+◌, ◌<◌, ◌≤◌}
use mathlib.Core.Path.{◌≡◌, refl, sym, ap, subst, ◌∙◌}
use mathlib.Core.Logic.{◌⊎◌, ⊎_elim}
use mathlib.Core.List.{List, [], ◌∷◌}
use native.Mathlib.Omega.{arith}
use lib.ListN.{length}
use Rattle.rules.specs.Answer.{now_waiting}
use Rattle.rules.specs.Tables.{current}
use Rattle.rules.specs.Lines.{line, semaphore_line}
use Rattle.rules.specs.Sound.{Sound}
use Rattle.rules.specs.declared.Tables.{Tables}
use Rattle.rules.specs.declared.Step.{Step}
use Rattle.runs.specs.Run.{after, Always, Each, AllWords}
use Rattle.runs.specs.Turn.{BlockedOn, before_at, posts_on, ServedIn}
use Rattle.demands.specs.Promised.{Promised}
use Rattle.demands.specs.Sequence.{Entered, Sequence, calls, tables_after, posts_in, AsEntered}
use Rattle.demands.specs.Three.{ArrivalOrder, Turn, pend}
use Rattle.demands.proofs.Three.{demand-3}

-- ---- a sequence of entry calls from sound tables
pub as-entered : (t : Tables) → Sound t → (es : List Entered) → Sequence t es → AsEntered t es
unfolding Sequence calls tables_after posts_in after posts_on Each
as-entered t sound [] p = record { tables = refl; posts = λ s. refl; words = tt; sound = sound; typed = λ given. given }
as-entered t sound (e ∷ es) (p, rest) =
    let k = p.kept sound in
    let r = as-entered e.left.tables k.sound es rest in
    record {
      tables = rw (r.tables, p.whole);
      posts = λ s. rw (r.posts s, p.whole);
      words = ((p.types sound).1, subst (λ (x : Step). AllWords x.tables (calls es)) p.whole r.words);
      sound = r.sound;
      typed = λ given. r.typed k.typed;
    }

-- ---- demand 3, of entries: a task began to wait by the entry call `pend s` that left r
module _ (t : Tables) (sound : Sound t) (s : ℕ) (arrival : ArrivalOrder s t)
    (r : Step) (p : Promised t (pend s) r) (waits : r.answer.outcome ≡ now_waiting) where
  pub demand-3-entered : Turn s (current t.state) (line t.lines (semaphore_line s)) r.tables
  demand-3-entered =
      let (typed, words) = p.types sound in
      subst (λ (x : Step). Turn s (current t.state) (line t.lines (semaphore_line s)) x.tables) (sym p.whole)
      (demand-3 t typed sound s words.a arrival (ap (λ (x : Step). x.answer.outcome) (sym p.whole) ∙ waits))

  -- whatever entry calls follow: it is blocked all along, with the posts that were answered with code 0 counted, or one of them served it
  pub turn-entered : (es : List Entered) → Sequence r.tables es
      → (Always (BlockedOn s (current t.state)) r.tables (calls es)
      × (length (before_at s (current t.state) (tables_after r.tables es)) + posts_in s es ≤ length (line t.lines (semaphore_line s))))
      ⊎ ServedIn s (current t.state) (length (line t.lines (semaphore_line s))) r.tables (calls es)
  turn-entered es row =
      let a = as-entered r.tables (p.kept sound).sound es row in
      rw (a.tables, a.posts s) (demand-3-entered.waits.turn (calls es) a.words)

  -- among entry calls with more than k accepted posts on s is the one that readied it
  pub served-entered : (es : List Entered) → Sequence r.tables es → length (line t.lines (semaphore_line s)) < posts_in s es
      → ServedIn s (current t.state) (length (line t.lines (semaphore_line s))) r.tables (calls es)
  served-entered es row more =
      ⊎_elim (λ h. absurd (omega (arith, h.1, more))) (λ x. x) (turn-entered es row)
