-- How long the text of a part is at most, how many bytes can wait, fewer than a record, and that a replay ends with the part that nothing follows.
use Prim.Native.Nat.{ℕ, zero, suc, ◌+◌, ◌-◌, ◌*◌, ◌/◌, ◌≤◌, ◌<◌}
use mathlib.Core.Path.{◌≡◌, refl}
use mathlib.Core.Bool.{Bool, true, false, ◌||◌, cond as if, true≢false, false≢true}
use mathlib.Core.List.{List, ◌++◌}
use native.Mathlib.Omega.{arith}
use lib.Dec.{leb}
use lib.ListN.{length, length-append, length-drop}
use borrow.Author.Tests.{leb-false}
use Rattle.rules.specs.Log.{read_in, argument_bytes, record_bytes, arguments_length}
use Rattle.rules.specs.Text.{line_text, line_feed, end_word, cut_word, length_word, version_word}
use Rattle.rules.specs.Replay.{record_call}
use Rattle.rules.specs.declared.Read.{Read}
use Rattle.rules.specs.declared.Read.TheVariants.{Record, End, Cut, Length, Version}
use Rattle.rules.specs.declared.Tables.{Tables}
use Rattle.call_log.proofs.Records.{record-fits}
use Rattle.text.proofs.Lengths.{line-most, word-most}
use Rattle.desk_parts.specs.Part.{kept, ReplayState, waiting, last_text, over, version_by, part_for, readable, part_of}
use Rattle.desk_parts.proofs.Steps.{one_less, part_at, part-whole, part_step}

-- of m records
pub record Bounded (last : Bool) (m : ℕ) (l : ReplayState) : Type 0 where
  pub text : length l.text ≤ 106 * m + 29
  pub rest : length l.rest < record_bytes
  pub ends : last ≡ true → l.ended ≡ true

last-most : (f : Read) (o n : ℕ) → length (last_text f o n) ≤ 29
unfolding last_text
last-most (Record number start) o n = omega arith
last-most End o n = omega (arith, word-most end_word n)
last-most (Cut k) o n = omega (arith, word-most cut_word (kept (o + k)))
last-most (Length k) o n = omega (arith, word-most length_word (kept (o + k)))
last-most (Version k) o n = omega (arith, word-most version_word (kept (o + k)))

later : (b c : Bool) → (b || c) ≡ false → c ≡ false
later true c e = absurd (let z : ◌≡◌ {A = ℕ} 0 1 = cc in omega arith)
later false c e = e

pub no_test : (b c : Bool) → (b || c) ≡ false → b ≡ true → ⊥
no_test true c e h = true≢false e
no_test false c e h = false≢true h

module _ (last : Bool) (s : List ℕ) (o : ℕ) where
  over-bounded : (f : Read) (m n : ℕ) (t : Tables) → Bounded last m (over f s o n t)
  over-bounded f m n t = record { text = omega (arith, last-most f o n); rest = omega arith; ends = λ h. refl }

  read-bounded : (at n : ℕ) (t : Tables) (r : Read) → read_in (version_by t.state) s at ≡ r
      → ((next m : ℕ) (u : Tables) → next ≡ at + record_bytes → next ≤ length s → Bounded last ((length s - next) / record_bytes) (part_at last s o next m u))
      → Bounded last ((length s - at) / record_bytes) (part_for r s o at n t (λ next m u. part_at last s o next m u))
  read-bounded at n t (Record number begin) e ih =
      let f = record-fits _ s at number begin e in
      let c = record_call t number (argument_bytes s begin) in
      let h = ih (begin + arguments_length) (kept (n + 1)) c.tables (omega arith) (omega arith) in
      let l = line-most (kept (n + 1)) c.answer c.thread in
      record {
        text =
            rw (one_less _ s at number begin e)
            (omega (
              arith,
              length-append
                  (line_text (kept (n + 1)) c.answer c.thread ++ line_feed)
                  (part_at last s o (begin + arguments_length) (kept (n + 1)) c.tables).text,
            ));
        rest = h.rest;
        ends = h.ends;
      }
  read-bounded at n t End e ih = over-bounded End ((length s - at) / record_bytes) n t
  read-bounded at n t (Cut k) e ih = over-bounded (Cut k) ((length s - at) / record_bytes) n t
  read-bounded at n t (Length k) e ih = over-bounded (Length k) ((length s - at) / record_bytes) n t
  read-bounded at n t (Version k) e ih = over-bounded (Version k) ((length s - at) / record_bytes) n t

  test-bounded : (at n : ℕ) (t : Tables) (b : Bool) → readable last s at ≡ b
      → ((next m : ℕ) (u : Tables) → next ≡ at + record_bytes → next ≤ length s → Bounded last ((length s - next) / record_bytes) (part_at last s o next m u))
      → Bounded last ((length s - at) / record_bytes)
      (if b (part_for (read_in (version_by t.state) s at) s o at n t (λ next m u. part_at last s o next m u)) (waiting s o at n t))
  test-bounded at n t true e ih = read-bounded at n t (read_in (version_by t.state) s at) refl ih
  test-bounded at n t false e ih =
      let f = leb-false record_bytes (length s - at) (later last (leb record_bytes (length s - at)) e) in
      record { text = omega arith; rest = omega (arith, length-drop at s); ends = λ h. absurd (no_test last (leb record_bytes (length s - at)) e h) }

  bounded : (k at n : ℕ) (t : Tables) → length s - at < record_bytes * k → Bounded last ((length s - at) / record_bytes) (part_at last s o at n t)
  bounded zero at n t f = absurd (omega arith)
  bounded (suc k) at n t f =
      rw (part_step last s o at n t) (test-bounded at n t (readable last s at) refl (λ next m u e g. bounded k next m u (omega arith)))

  pub part-bounded : (n : ℕ) (t : Tables) → Bounded last (length s / record_bytes) (part_of last s o n t)
  part-bounded n t =
      let b = bounded (suc (length s)) 0 n t (omega arith) in
      rw (part-whole last s o n t) (record { text = omega (arith, b.text); rest = b.rest; ends = b.ends })
