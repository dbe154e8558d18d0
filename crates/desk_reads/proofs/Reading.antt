-- The step of a replay, and what one read leaves by it, by what was found.
use Rattle.std.proofs.Common.{◌≡◌, ℕ, ◌+◌, true, false, List, ◌++◌, length, sym, refl, ap, ◌∙◌}
use Rattle.rules.specs.Log.{read_in, argument_bytes, handed_out, move_to}
use Rattle.rules.specs.Text.{line_text, line_feed}
use Rattle.rules.specs.Step.{step, step_of}
use Rattle.rules.specs.Replay.{record_call}
use Rattle.rules.specs.Answer.{answer, asked}
use Rattle.rules.specs.declared.Answer.{Answer}
use Rattle.rules.specs.declared.Read.{Read}
use Rattle.rules.specs.declared.Read.TheVariants.{Record, End, Cut, Length, Version}
use Rattle.rules.specs.declared.Tables.{Tables}
use Rattle.rules.specs.declared.Thread.{Thread}
use Rattle.rules.specs.declared.Thread.TheVariants.{Task}
use Rattle.text.specs.Put.{Put}
use Rattle.call_log.proofs.Records.{handed_out_lem}
use Rattle.desk_parts.specs.Part.{kept, last_text}
use Rattle.kernel.specs.Safe.{Safe}
use Rattle.rules.specs.declared.Call.{Call}
use Rattle.kernel.proofs.Keeping.{safe-call}
use Rattle.desk_reads.specs.declared.PartPlace.{PartPlace}
use Rattle.desk_reads.specs.declared.Replayed.{Replayed}
use Rattle.desk_reads.specs.Next.{call_in, replayed_to, ReplayStep, replay_step, step_without, next_step}
use Rattle.desk_reads.specs.Done.{place_at, read_result, last_result, ReadLeaves}

-- ---- the step, by what was found
-- what was found is no record
abbrev pub NoRecord : Read → Type 0
NoRecord f = (number begin : ℕ) → f ≡ Record number begin → ⊥

-- no record: nothing is called
no_record : (f : Read) (s : List ℕ) (at : ℕ) (t : Tables) → NoRecord f → next_step f s at t ≡ step_without f at t
unfolding next_step
no_record (Record number start) s at t h = absurd (h number start refl)
no_record End s at t h = refl
no_record (Cut k) s at t h = refl
no_record (Length k) s at t h = refl
no_record (Version k) s at t h = refl

module _ (v : ℕ) (s : List ℕ) (at : ℕ) (t : Tables) {f : Read} (found : f ≡ read_in v s at) {next : ℕ} (moved : next ≡ move_to f at) where
  pub step-without : NoRecord f
      → {r : Replayed} → r ≡ replayed_to f next (asked 0 0 0 0 0) (answer 0 0 0) (Task 0)
      → replay_step r t ≡ next_step (read_in v s at) s at t
  step-without h e = rw (← found, no_record f s at t h, e, moved)

  -- a record: what is handed out is its sixteen argument bytes, and its call on safe tables is `step`
  pub step-with : Safe t → (number begin : ℕ) → f ≡ Record number begin → {q : Call} → q ≡ call_in (handed_out s begin) number
      → {u : Tables} {a : Answer} {x : Thread} → step_of u a x ≡ step t q.number q.a q.b q.c q.d
      → {r : Replayed} → r ≡ replayed_to (Record number begin) next q a x
      → replay_step r u ≡ next_step (read_in v s at) s at t
  unfolding next_step
  step-with safe number begin e {q} asked {u} {a} {x} said r-is =
      let sixteen = (handed_out_lem v s at number begin (sym found ∙ e)).0 in
      let bytes : q ≡ call_in (argument_bytes s begin) number = asked ∙ rw sixteen in
      let gave : step_of u a x ≡ record_call t number (argument_bytes s begin) =
      said ∙ safe-call t safe q.number q.a q.b q.c q.d ∙ rw bytes in
      rw (r-is, moved, ← found, e, ← gave, bytes)

-- ---- one read, by its step
found-is : (f : Read) (s : List ℕ) (at : ℕ) (t : Tables) → (next_step f s at t).replayed.found ≡ f
unfolding next_step
found-is (Record number start) s at t = refl
found-is End s at t = refl
found-is (Cut k) s at t = refl
found-is (Length k) s at t = refl
found-is (Version k) s at t = refl

one_last : (f : Read) (s : List ℕ) (o n : ℕ) (t : Tables) → NoRecord f → read_result f s o n t ≡ last_result f s o n t
unfolding read_result
one_last (Record number start) s o n t h = absurd (h number start refl)
one_last End s o n t h = refl
one_last (Cut k) s o n t h = refl
one_last (Length k) s o n t h = refl
one_last (Version k) s o n t h = refl

module _ (f : Read) (s : List ℕ) (o : ℕ) (t : Tables) (p : PartPlace) (m : Replayed) {u : Tables} (made : replay_step m u ≡ next_step f s p.at t) where
  found : m.found ≡ f
  found = ap (λ (x : ReplayStep). x.replayed.found) made ∙ found-is f s p.at t

  -- the end or a fault
  pub went-last : NoRecord m.found → {xs ys : List ℕ} {r : PartPlace}
      → Put xs p.len (last_text m.found o p.count) ys r.len × (r ≡ place_at (length s) p.count r.len true)
      → ReadLeaves (read_result f s o p.count t) u xs p.len ys r
  went-last h e =
      let other : NoRecord f = rw found at h in
      let stayed : u ≡ t = ap (λ (x : ReplayStep). x.tables) (made ∙ no_record f s p.at t other) in
      rw (one_last f s o p.count t other)
      (record {
        line = rw found at e.0;
        tables = stayed;
        at = ap (λ (r : PartPlace). r.at) e.1;
        count = ap (λ (r : PartPlace). r.count) e.1;
        ended = ap (λ (r : PartPlace). r.ended) e.1;
      })

  -- a record
  pub went-record : (number begin : ℕ) → m.found ≡ Record number begin
      → {xs ys : List ℕ} {n len : ℕ} → n ≡ kept (p.count + 1) → Put xs p.len (line_text n m.answer m.thread ++ line_feed) ys len
      → {r : PartPlace} → r ≡ place_at m.at n len false
      → ReadLeaves (read_result f s o p.count t) u xs p.len ys r
  unfolding read_result next_step move_to
  went-record number begin e up line r-is =
      let is : f ≡ Record number begin = sym found ∙ e in
      let called : replay_step m u ≡ next_step (Record number begin) s p.at t = rw is at made in
      rw (is, r-is)
      (record {
        line = rw (up, ap (λ (x : ReplayStep). x.replayed.answer) called, ap (λ (x : ReplayStep). x.replayed.thread) called) at line;
        tables = ap (λ (x : ReplayStep). x.tables) called;
        at = ap (λ (x : ReplayStep). x.replayed.at) called;
        count = up;
        ended = refl;
      })
