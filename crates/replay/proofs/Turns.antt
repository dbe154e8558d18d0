-- What is handed from turn to turn: what the reads so far leave, whether or not the replay was stopped.
use Prim.Native.Nat.{ℕ, ◌-◌, ◌≤◌, zero-le}
use mathlib.Core.Path.{◌≡◌, refl, sym, ap, ◌∙◌}
use mathlib.Core.Logic.{◌⊎◌, inl, inr, ⊎_elim}
use mathlib.Core.Bool.{Bool, true, false, false≢true}
use mathlib.Core.List.{List, [], ◌∷◌, ◌++◌}
use native.Mathlib.Omega.{arith}
use lib.Dec.{eqb}
use Rattle.std.specs.Prelude.{Option, Some, None}
use lib.ListN.{length, take, drop, length-take, length-drop}
use lib.Seq.{length-take-le}
use Rattle.rules.specs.Sound.{Sound}
use Rattle.rules.specs.declared.Tables.{Tables}
use Rattle.desk_parts.specs.Part.{ReplayState, turn, begins, start, after_reads}
use Rattle.desk_parts.proofs.ByReads.{left-more}
use Rattle.desk.specs.declared.Progress.{Progress}
use Rattle.desk.specs.Done.{replay_state, progress_of, behind}
use Rattle.replay.specs.Turns.{Came, more, failed, came_by, Behind, stop, HandedIf, Handed, Replayed}

-- ---- what a read brought
-- there is room for the bytes behind the first
pub room : (held : ℕ) (qs : List ℕ) → length (take (length qs - held) (drop held qs)) ≡ length qs - held
room held qs = omega (arith, length-take (length qs - held) (drop held qs), length-drop held qs)

-- no more came than there is room for
pub has_room : (a : Option ℕ) (n : ℕ) → more (came_by a n) ≤ n
has_room (Some k) n = omega arith
has_room None n = zero-le

-- ---- the replay of tables t₀
module _ (t₀ : Tables) where
  -- it has come to what some reads leave, or was stopped there
  pub record Sofar (t : Tables) (ps xs : List ℕ) (p : Progress) : Type 0 where
    pub came : List (List ℕ)
    pub left : (replay_state t ps xs p ≡ after_reads came (begins t₀)) ⊎ (replay_state t ps xs p ≡ stop (after_reads came (begins t₀)))

  pub sofar-none : {t : Tables} (ps xs : List ℕ) {p : Progress} → t ≡ t₀ → p ≡ progress_of start → Sofar t ps xs p
  unfolding after_reads
  sofar-none ps xs e begun = rw (e, begun) (record { came = []; left = inl refl })

  module _ {t : Tables} {ps xs : List ℕ} {p : Progress} (v : Sofar t ps xs p) where
    -- where it has not ended it was not stopped
    going : p.ended ≡ false → replay_state t ps xs p ≡ after_reads v.came (begins t₀)
    going h =
        ⊎_elim
        (λ (e : replay_state t ps xs p ≡ after_reads v.came (begins t₀)). e)
        (λ (e : replay_state t ps xs p ≡ stop (after_reads v.came (begins t₀))). absurd (false≢true (sym h ∙ ap (λ (l : ReplayState). l.ended) e)))
        v.left

    -- the tables are those
    pub sofar-tables : Sound t → Replayed t₀ t
    sofar-tables sound =
        record {
          came = v.came;
          tables =
              ⊎_elim
              (λ (e : replay_state t ps xs p ≡ after_reads v.came (begins t₀)). ap (λ (l : ReplayState). l.tables) e)
              (λ (e : replay_state t ps xs p ≡ stop (after_reads v.came (begins t₀))). ap (λ (l : ReplayState). l.tables) e)
              v.left;
          sound = sound;
        }

    -- one turn more, by what a read brought
    module _ (on : p.ended ≡ false) (r : Came) {qs : List ℕ} (b : Behind p.held ps qs r) where
      abbrev bytes : List ℕ
      bytes = behind qs p (more r)

      -- what waited is still there
      before-is : replay_state t qs xs p ≡ after_reads v.came (begins t₀)
      before-is = rw b.waits (going on)

      not-over : (after_reads v.came (begins t₀)).ended ≡ false
      not-over = sym (ap (λ (l : ReplayState). l.ended) (going on)) ∙ on

      next-is : turn (eqb (more r) 0) bytes (replay_state t qs xs p) ≡ after_reads (v.came ++ (bytes ∷ [])) (begins t₀)
      next-is =
          let all : length bytes ≡ more r =
          length-take-le (more r) (drop p.held qs)
          (omega (arith, ap more b.came, has_room b.answer (length qs - p.held), length-drop p.held qs)) in
          ap (turn (eqb (more r) 0) bytes) before-is ∙ sym (rw all at (left-more v.came bytes (begins t₀) not-over))

      pub sofar-next : {u : Tables} {qs' ys : List ℕ} {q : Progress} → Handed r bytes (replay_state t qs xs p) (replay_state u qs' ys q) → Sofar u qs' ys q
      sofar-next {u} {qs'} {ys} {q} = by_read (failed r)
        where
          by_read : (f : Bool)
              → HandedIf f (replay_state t qs xs p) (turn (eqb (more r) 0) bytes (replay_state t qs xs p)) (replay_state u qs' ys q) → Sofar u qs' ys q
          by_read true h = record { came = v.came; left = inr (h ∙ ap stop before-is) }
          by_read false h =
              record {
                came = v.came ++ (bytes ∷ []);
                left =
                    ⊎_elim
                    (λ (k : replay_state u qs' ys q ≡ turn (eqb (more r) 0) bytes (replay_state t qs xs p)). inl (k ∙ next-is))
                    (λ (k : replay_state u qs' ys q ≡ stop (turn (eqb (more r) 0) bytes (replay_state t qs xs p))). inr (k ∙ ap stop next-is))
                    h;
              }
