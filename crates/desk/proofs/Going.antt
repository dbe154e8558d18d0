-- What the code of a replay has done so far, and what it leaves when it stops.
use Rattle.std.proofs.Common.{◌≡◌, ℕ, ◌+◌, ◌-◌, ◌<◌, ◌≤◌, min, Bool, true, false, cond as if, not, List, [], ◌++◌, length, take, drop, sym, refl, ap, ◌∙◌, ⊎_elim, true≢false, append_assoc, append-nil, zero-add, arith, length-take, take_all, take-add}
use lib.Seq.{sets, sets-eq, take-append_seam, drop-length}
use Rattle.basics.specs.Lists.{bit}
use Rattle.basics.proofs.Laws.{lt-or-le}
use Rattle.rules.specs.Tables.{tables}
use Rattle.rules.specs.Log.{read_in}
use Rattle.rules.specs.declared.Read.{Read}
use Rattle.rules.specs.declared.Read.TheVariants.{Record, End, Cut, Length, Version}
use Rattle.rules.specs.declared.Tables.{Tables}
use Rattle.text.specs.Put.{Put}
use Rattle.text.proofs.Puts.{fits, put-none, put-more}
use Rattle.call_log.proofs.Records.{record-fits}
use Rattle.desk_parts.specs.Part.{kept, ReplayState, text_before, waiting, version_by, readable, part_of, begun_state, begun, turn}
use Rattle.desk_reads.specs.declared.PartPlace.{PartPlace}
use Rattle.desk.specs.declared.Progress.{Progress}
use Rattle.desk_reads.specs.Done.{place_at, read_result, ReadLeaves}
use Rattle.desk.specs.Done.{come_to, replay_state, progress_of, behind, TurnLeaves}
use Rattle.desk_parts.proofs.Steps.{part_at, part-whole, part_step}
use Rattle.desk_parts.proofs.Bounds.{part-bounded}

-- ---- what the records of a part leave
-- part s, from offset o on, left l: tables t, and its text in front of buffer xs, which is now ys; the rest is not moved yet
pub record PartLeaves (l : ReplayState) (s : List ℕ) (o : ℕ) (t : Tables) (xs ys : List ℕ) (r : PartPlace) : Type 0 where
  pub text : Put xs 0 l.text ys r.len
  pub rest : drop r.at s ≡ l.rest
  pub inside : r.at ≤ length s
  pub offset : kept (o + r.at) ≡ l.offset
  pub count : r.count ≡ l.count
  pub tables : t ≡ l.tables
  pub ended : r.ended ≡ l.ended

-- ---- part s from offset o on, after n₀ records, with tables t₀ and buffer xs
-- where nothing follows
abbrev done : List ℕ → ℕ → ℕ → Tables → ReplayState
done s o n t = record { text = []; rest = []; offset = kept (o + length s); count = n; tables = t; ended = true }

module _ (last : Bool) (s : List ℕ) (o n₀ : ℕ) (t₀ : Tables) (xs : List ℕ) where
  -- what is still to come
  abbrev pub rest : Bool → ℕ → ℕ → Tables → ReplayState
  rest ended at n t = if ended (done s o n t) (part_at last s o at n t)

  -- the text so far, and what is still to come, is all
  pub record Sofar (t : Tables) (ys : List ℕ) (r : PartPlace) : Type 0 where
    pub text : List ℕ
    pub put : Put xs 0 text ys r.len
    pub whole : part_of last s o n₀ t₀ ≡ text_before text (rest r.ended r.at r.count t)
    pub inside : r.at ≤ length s
    pub over : r.ended ≡ true → r.at ≡ length s

  pub sofar-none : {r : PartPlace} → r ≡ place_at 0 n₀ 0 false → Sofar t₀ xs r
  sofar-none e =
      rw e
      (record { text = []; put = put-none 16384 xs 0; whole = part-whole last s o n₀ t₀; inside = omega arith; over = λ h. absurd (true≢false (sym h)) })

  -- a read, and what follows it
  read-last : (f : Read) (at n : ℕ) (t : Tables) → f ≡ read_in (version_by t.state) s at → readable last s at ≡ true
      → part_at last s o at n t
      ≡ text_before (read_result f s o n t).text
      (rest (read_result f s o n t).ended (read_result f s o n t).at (read_result f s o n t).count (read_result f s o n t).tables)
  unfolding read_result
  read-last (Record number start) at n t e h = part_step last s o at n t ∙ rw (h, ← e)
  read-last End at n t e h = part_step last s o at n t ∙ rw (h, ← e, append-nil)
  read-last (Cut k) at n t e h = part_step last s o at n t ∙ rw (h, ← e, append-nil)
  read-last (Length k) at n t e h = part_step last s o at n t ∙ rw (h, ← e, append-nil)
  read-last (Version k) at n t e h = part_step last s o at n t ∙ rw (h, ← e, append-nil)

  -- where it stops is in the part, and nearer to its end
  abbrev Near : ℕ → ℕ → Bool → Type 0
  Near at next ended = (next ≤ length s) × ((ended ≡ true → next ≡ length s) × (length s - next + bit (not ended) < length s - at + 1))

  read-near : (f : Read) (at n : ℕ) (t : Tables) → f ≡ read_in (version_by t.state) s at → Near at (read_result f s o n t).at (read_result f s o n t).ended
  unfolding read_result
  read-near (Record number start) at n t e =
      let k = record-fits _ s at number start (sym e) in (omega arith, (λ h. absurd (true≢false (sym h)), omega arith))
  read-near End at n t e = (omega arith, (λ h. refl, omega arith))
  read-near (Cut k) at n t e = (omega arith, (λ h. refl, omega arith))
  read-near (Length k) at n t e = (omega arith, (λ h. refl, omega arith))
  read-near (Version k) at n t e = (omega arith, (λ h. refl, omega arith))

  module _ {t : Tables} {ys : List ℕ} {p : PartPlace} (w : Sofar t ys p) where
    module _ (on : p.ended ≡ false) (can : readable last s p.at ≡ true) {u : Tables} {zs : List ℕ} {r : PartPlace}
        (g : ReadLeaves (read_result (read_in (version_by t.state) s p.at) s o p.count t) u ys p.len zs r) where
      near :
          Near p.at (read_result (read_in (version_by t.state) s p.at) s o p.count t).at
          (read_result (read_in (version_by t.state) s p.at) s o p.count t).ended
      near = read-near (read_in (version_by t.state) s p.at) p.at p.count t refl

      -- one read more
      pub sofar-next : Sofar u zs r
      sofar-next =
          record {
            text = w.text ++ (read_result (read_in (version_by t.state) s p.at) s o p.count t).text;
            put = put-more w.put g.line;
            whole =
                w.whole
                ∙ rw (on, read-last (read_in (version_by t.state) s p.at) p.at p.count t refl can, g.at, g.count, g.tables, g.ended)
                (simp append_assoc);
            inside = rw g.at near.0;
            over = λ k. g.at ∙ near.1.0 (sym g.ended ∙ k);
          }

      -- and less is left
      pub sofar-less : length s - r.at + bit (not r.ended) < length s - p.at + bit (not p.ended)
      sofar-less = rw (on, g.at, g.ended) near.1.1

    -- the replay has ended
    pub sofar-ended : p.ended ≡ true → PartLeaves (part_of last s o n₀ t₀) s o t xs ys p
    sofar-ended e =
        rw (w.whole, e)
        (record {
          text = rw append-nil w.put;
          rest = rw (w.over e) (drop-length s);
          inside = w.inside;
          offset = rw (w.over e);
          count = refl;
          tables = refl;
          ended = refl;
        })

    -- too few bytes are left
    pub sofar-waits : p.ended ≡ false → readable last s p.at ≡ false → PartLeaves (part_of last s o n₀ t₀) s o t xs ys p
    sofar-waits e h =
        let l : part_at last s o p.at p.count t ≡ waiting s o p.at p.count t = part_step last s o p.at p.count t ∙ rw h in
        rw (w.whole, e, l)
        (record { text = rw append-nil w.put; rest = refl; inside = w.inside; offset = refl; count = refl; tables = refl; ended = refl })

-- ---- a turn: the text fits, and the rest is in front
-- what is stored in front stands there
front-is : (vs xs : List ℕ) → length vs ≤ length xs → take (length vs) (sets xs 0 vs) ≡ vs
front-is vs xs h = rw (sets-eq vs xs 0 (omega arith)) (take-append_seam vs (drop (0 + length vs) xs))

-- the bytes that waited, and more behind them, to where they end in the part
both-are : (held more : ℕ) (ps : List ℕ) → length ps ≡ 2560 → take (min held 2560 + min more 2560) ps ≡ take held ps ++ take more (drop held ps)
both-are held more ps size =
    ⊎_elim
    (λ (h : min held 2560 + min more 2560 < 2560).
    let e : min held 2560 + min more 2560 ≡ held + more = omega arith in rw e (take-add held more ps))
    (λ (h : 2560 ≤ min held 2560 + min more 2560).
    take_all (min held 2560 + min more 2560) ps (omega arith) ∙ sym (take_all (held + more) ps (omega arith)) ∙ take-add held more ps)
    (lt-or-le (min held 2560 + min more 2560) 2560)

module _ (last : Bool) (p : Progress) (more : ℕ) (t₀ : Tables) (ps xs : List ℕ) (size : length ps ≡ 2560) (wide : length xs ≡ 16384) where
  -- all bytes of the part, and what they leave
  abbrev bytes : List ℕ
  bytes = take p.held ps ++ behind ps p more

  abbrev leaves : ReplayState
  leaves = turn last (behind ps p more) (replay_state t₀ ps xs p)

  -- the tables with the state that a log leaves that begins
  abbrev with_state : List ℕ → Tables
  with_state st = tables t₀.tasks t₀.lines t₀.semaphores t₀.events t₀.mailboxes t₀.swis t₀.clocks t₀.heap st

  pub turned : {n : ℕ} → n ≡ min p.held 2560 + min more 2560 → {s : List ℕ} → s ≡ take n ps
      → {st : List ℕ} → st ≡ begun_state p.count s t₀.state
      → {t : Tables} {ys : List ℕ} (r : PartPlace) → PartLeaves (part_of last s p.offset p.count (with_state st)) s p.offset t xs ys r
      → {qs : List ℕ} {held : ℕ} → (qs ≡ sets ps 0 (drop r.at (take n ps))) × (held ≡ length (drop r.at (take n ps)))
      → {q : Progress} → q ≡ come_to p.offset r held
      → TurnLeaves leaves t ps qs xs ys q
  turned {n} e {s} f {st} begins {t} {ys} r g {qs} {held} m {q} c =
      let all : take n ps ≡ bytes = rw e (both-are p.held more ps size) in
      let h : PartLeaves leaves bytes p.offset t xs ys r = rw (begins, f ∙ all) at g in
      let b = part-bounded last bytes p.offset p.count (begun p.count bytes t₀) in
      let short : length bytes ≤ 2560 = omega (arith, ap length all, length-take n ps) in
      let whole = fits 16384 0 leaves.text (omega (arith, b.text)) in
      let text-is : ys ≡ sets xs 0 leaves.text = h.text.bytes ∙ rw whole in
      let part-is : qs ≡ sets ps 0 leaves.rest = m.0 ∙ rw (all, h.rest) in
      let progress-is : q ≡ progress_of leaves =
      c ∙ rw (m.1, all, h.rest, h.offset, h.count, h.text.end, whole, zero-add, h.ended) in
      let left_is : replay_state t qs ys q ≡ leaves =
      rw (h.tables, part-is, text-is, progress-is)
      (rw (
        front-is leaves.rest ps (omega (arith, b.rest)),
        front-is leaves.text xs (omega (arith, b.text)),
      )) in
      record { tables = h.tables; part = part-is; text = text-is; progress = progress-is; left = left_is }
