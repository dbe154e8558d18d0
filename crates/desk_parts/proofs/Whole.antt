-- The texts of a log's parts, one after the other, are the text of the whole log, however it is cut.
-- In this order: what is read in a part is what is read in the log; a line and what follows it; the version by the tables; one part; all parts.
use Prim.Native.Nat.{ℕ, zero, suc, ◌+◌, ◌-◌, ◌*◌, ◌/◌, ◌^◌, ◌≤◌, ◌<◌}
use mathlib.Core.Path.{◌≡◌, refl, sym, ap, ◌∙◌}
use mathlib.Core.Logic.{◌≢◌, ◌⊎◌, inl, inr, ⊎_elim}
use mathlib.Core.Bool.{Bool, true, false, ◌&&◌, ◌||◌, cond as if, and-false, true≢false, false≢true}
use mathlib.Core.List.{List, [], ◌∷◌, ◌++◌, append-nil, append_assoc, flatten}
use native.Mathlib.Nat.{sub-zero, add-zero}
use native.Mathlib.Omega.{arith}
use lib.Dec.{ltb, leb, eqb}
use lib.ListN.{length, get_or, drop, length-append, length-drop, get_or-append, get_or-eq_default}
use lib.Seq.{drop-drop, drop-append-le, take-append-le, get_or-drop}
use borrow.Author.Tests.{lt-ltb, le-ltb, eq-eqb, ne_eqb, eqb-true, leb-true}
use Rattle.basics.proofs.Laws.{same?, lt-or-le}
use Rattle.rules.specs.Tables.{few_levels, most_levels, tables, state, raised_state, LEVELS, levels}
use Rattle.rules.specs.Fresh.{fresh, fresh_with}
use Rattle.rules.specs.Log.{version_of, levels_for, is_version, half_at, read_in, read_at, argument_bytes, record_bytes, record_length, arguments_length}
use Rattle.rules.specs.Text.{line_text, line_feed, word_text, text_of, end_word, cut_word, length_word, version_word}
use Rattle.rules.specs.Replay.{record_call, lines_for, lines_from, replay_lines, replay_text}
use Rattle.rules.specs.declared.Read.{Read}
use Rattle.rules.specs.declared.Read.TheVariants.{Record, End, Cut, Length, Version}
use Rattle.rules.specs.declared.Tables.{Tables}
use Rattle.rules_laws.proofs.Levels.{levels-kept}
use Rattle.call_log.proofs.Records.{record-fits, record-version}
use Rattle.desk_parts.specs.Part.{kept, ReplayState, text_before, waiting, last_text, over, version_by, part_for, readable, part_of, begun_state, begun, turn, start, written}
use Rattle.desk_parts.proofs.Steps.{lines_at, lines_step, part_at, part-whole, part_step}
use Rattle.desk_parts.proofs.Bounds.{no_test}

-- ---- what is read in a part is what is read in the log
shifted : ℕ → Read → Read
shifted o (Record number start) = Record number (o + start)
shifted o End = End
shifted o (Cut k) = Cut (o + k)
shifted o (Length k) = Length (o + k)
shifted o (Version k) = Version (o + k)

-- by the tests of `read_in`
abbrev found : Bool → Bool → Bool → Bool → Bool → Bool → ℕ → ℕ → Read
found a b c d e f number at =
    if a (Cut at) (if b End (if c (Cut at) (if d (if e (Cut at) (if f (Record number (at + 4)) (Version at))) (Length at))))

found-shifted : (a b c d e f : Bool) (number o at : ℕ) → found a b c d e f number (o + at) ≡ shifted o (found a b c d e f number at)
unfolding shifted
found-shifted true b c d e f number o at = refl
found-shifted false true c d e f number o at = refl
found-shifted false false true d e f number o at = refl
found-shifted false false false true true f number o at = refl
found-shifted false false false true false true number o at = let p : o + at + 4 ≡ o + (at + 4) = omega arith in rw p
found-shifted false false false true false false number o at = refl
found-shifted false false false false e f number o at = refl

-- a fault is at the position
place_of : Read → ℕ → ℕ
place_of (Record number start) at = at
place_of End at = at
place_of (Cut k) at = k
place_of (Length k) at = k
place_of (Version k) at = k

found-place : (a b c d e f : Bool) (number at : ℕ) → place_of (found a b c d e f number at) at ≡ at
unfolding place_of
found-place true b c d e f number at = refl
found-place false true c d e f number at = refl
found-place false false true d e f number at = refl
found-place false false false true true f number at = refl
found-place false false false true false true number at = refl
found-place false false false true false false number at = refl
found-place false false false false e f number at = refl

read-place : (v : ℕ) (s : List ℕ) (at : ℕ) (r : Read) → read_in v s at ≡ r → place_of r at ≡ at
unfolding read_in
read-place v s at r e =
    rw (← e)
    (found-place
    (ltb (length s) at)
    (eqb (length s) at)
    (eqb (length s - at) 1)
    (eqb (half_at s at) record_length)
    (ltb (length s - at) record_bytes)
    (is_version v && eqb (get_or s (at + 2) 0) v)
    (get_or s (at + 3) 0)
    at)

eqb_same : (a b c d : ℕ) → (a ≡ b → c ≡ d) → (c ≡ d → a ≡ b) → eqb a b ≡ eqb c d
eqb_same a b c d f g =
    ⊎_elim (λ (e : a ≡ b). eq-eqb a b e ∙ sym (eq-eqb c d (f e))) (λ n. ne_eqb a b n ∙ sym (ne_eqb c d (λ e. n (g e)))) (same? a b)

ltb-same : (a b c d : ℕ) → (a < b → c < d) → (b ≤ a → d ≤ c) → ltb a b ≡ ltb c d
ltb-same a b c d f g =
    ⊎_elim (λ (e : a < b). lt-ltb a b e ∙ sym (lt-ltb c d (f e))) (λ (n : b ≤ a). le-ltb a b n ∙ sym (le-ltb c d (g n))) (lt-or-le a b)

-- part s stands at offset o of log w, and l follows it
pub record Stands (w : List ℕ) (o : ℕ) (s l : List ℕ) : Type 0 where
  pub bytes : drop o w ≡ s ++ l
  pub inside : o ≤ length w

module _ (w : List ℕ) (o : ℕ) (s l : List ℕ) (p : Stands w o s l) where
  long : length w ≡ o + length s + length l
  long = omega (arith, p.inside, length-drop o w, ap length p.bytes, length-append s l)

  -- there is enough of the part, or nothing follows it
  Enough : ℕ → Type 0
  Enough n = (n ≤ length s) ⊎ (l ≡ [])

  byte-in : (i : ℕ) → Enough (suc i) → get_or w (o + i) 0 ≡ get_or s i 0
  unfolding Enough
  byte-in i h =
      sym (get_or-drop o w i 0)
      ∙ ap (λ (x : List ℕ). get_or x i 0) p.bytes
      ∙ ⊎_elim (λ (q : suc i ≤ length s). get_or-append s l 0 i q) (λ (e : l ≡ []). rw (e, append-nil s)) h

  module _ (at : ℕ) (q : at ≤ length s) (h : Enough (at + record_bytes)) where
    fewer : (n : ℕ) → n ≤ record_bytes → Enough (at + n)
    unfolding Enough
    fewer n k = ⊎_elim (λ (g : at + record_bytes ≤ length s). inl (omega arith)) inr h

    byte_at : (i : ℕ) → i < record_bytes → get_or w (o + at + i) 0 ≡ get_or s (at + i) 0
    byte_at i k =
        let e : o + at + i ≡ o + (at + i) = omega arith in
        let g : Enough (suc (at + i)) = let f : at + suc i ≡ suc (at + i) = omega arith in rw f at (fewer (suc i) (omega arith)) in
        rw e (byte-in (at + i) g)

    read-in : (v : ℕ) → read_in v w (o + at) ≡ shifted o (read_in v s at)
    unfolding read_in Enough
    read-in v =
        let n = long in
        let e : (l ≡ []) → length l ≡ 0 = λ z. ap length z in
        let z : o + at + 0 ≡ o + at = omega arith in
        let z' : at + 0 ≡ at = omega arith in
        let a : ltb (length w) (o + at) ≡ ltb (length s) at = le-ltb (length w) (o + at) (omega arith) ∙ sym (le-ltb (length s) at q) in
        let b : eqb (length w) (o + at) ≡ eqb (length s) at =
        ⊎_elim
        (λ (g : at + record_bytes ≤ length s). eqb_same (length w) (o + at) (length s) at (λ k. absurd (omega arith)) (λ k. absurd (omega arith)))
        (λ (g : l ≡ []). let m = e g in eqb_same (length w) (o + at) (length s) at (λ k. omega arith) (λ k. omega arith))
        h in
        let c : eqb (length w - (o + at)) 1 ≡ eqb (length s - at) 1 =
        ⊎_elim
        (λ (g : at + record_bytes ≤ length s). eqb_same (length w - (o + at)) 1 (length s - at) 1 (λ k. absurd (omega arith)) (λ k. absurd (omega arith)))
        (λ (g : l ≡ []). let m = e g in eqb_same (length w - (o + at)) 1 (length s - at) 1 (λ k. omega arith) (λ k. omega arith))
        h in
        let f : ltb (length w - (o + at)) record_bytes ≡ ltb (length s - at) record_bytes =
        ⊎_elim
        (λ (g : at + record_bytes ≤ length s).
        ltb-same (length w - (o + at)) record_bytes (length s - at) record_bytes (λ k. absurd (omega arith)) (λ k. omega arith))
        (λ (g : l ≡ []). let m = e g in ltb-same (length w - (o + at)) record_bytes (length s - at) record_bytes (λ k. omega arith) (λ k. omega arith))
        h in
        let zero-at : get_or w (o + at) 0 ≡ get_or s at 0 = rw (z, z') at (byte_at 0 (omega arith)) in
        rw (a, b, c, f, zero-at, byte_at 1 (omega arith), byte_at 2 (omega arith), byte_at 3 (omega arith))
        (found-shifted
        (ltb (length s) at)
        (eqb (length s) at)
        (eqb (length s - at) 1)
        (eqb (half_at s at) record_length)
        (ltb (length s - at) record_bytes)
        (is_version v && eqb (get_or s (at + 2) 0) v)
        (get_or s (at + 3) 0)
        o
        at)

    arguments-in : (begin : ℕ) → begin + arguments_length ≤ at + record_bytes → begin + arguments_length ≤ length s
        → argument_bytes w (o + begin) ≡ argument_bytes s begin
    unfolding argument_bytes
    arguments-in begin g k =
        rw (← drop-drop begin o w, p.bytes, drop-append-le begin s l (omega arith))
        (take-append-le arguments_length (drop begin s) l (omega (arith, length-drop begin s)))

-- ---- a line, and what follows it
line_first : (x : List ℕ) (ls : List (List ℕ)) (y z : List ℕ) → text_of ls ≡ y ++ z → text_of (x ∷ ls) ≡ ((x ++ line_feed) ++ y) ++ z
unfolding text_of
line_first x ls y z e = rw e (simp append_assoc)

line-alone : (x : List ℕ) → text_of (x ∷ []) ≡ (x ++ line_feed) ++ []
unfolding text_of
line-alone x = sym (append-nil (x ++ line_feed))

test_of : (b c : Bool) → (b || c) ≡ true → (b ≡ true) ⊎ (c ≡ true)
test_of true c e = inl refl
test_of false c e = inr e

-- ---- the version by the tables: no call changes it, and fresh tables for a version tell it, or it is none
same_version : (st su : List ℕ) → state su LEVELS ≡ state st LEVELS → version_by su ≡ version_by st
unfolding version_by levels
same_version st su e = rw e

-- which of 1 and 2 a version is
either : (v : ℕ) → (v ≡ 1) ⊎ (v ≡ 2) ⊎ (is_version v ≡ false)
either v =
    ⊎_elim
    (λ (e : v ≡ 1). inl e)
    (λ (n : v ≡ 1 → ⊥).
    ⊎_elim (λ (e : v ≡ 2). inr (inl e)) (λ (m : v ≡ 2 → ⊥). inr (inr (rw (ne_eqb v 1 n, ne_eqb v 2 m)))) (same? v 2))
    (same? v 1)

tables-version : (v : ℕ) → (version_by (fresh_with (levels_for v)).state ≡ v) ⊎ (is_version v ≡ false)
unfolding version_by levels fresh_with
tables-version v =
    ⊎_elim (λ (e : v ≡ 1). inl (rw e)) (⊎_elim (λ (e : v ≡ 2). inl (rw e)) (λ (n : is_version v ≡ false). inr n)) (either v)

version-either : (t : Tables) → (version_by t.state ≡ 1) ⊎ (version_by t.state ≡ 2)
unfolding version_by
version-either t = go (eqb (levels t.state) most_levels)
  where
    go : (b : Bool) → (◌≡◌ {A = ℕ} (if b 2 1) 1) ⊎ (◌≡◌ {A = ℕ} (if b 2 1) 2)
    go true = inr refl
    go false = inl refl

-- a log without a version has no first record, whatever the tables
first-refused : (w : List ℕ) (t : Tables) → is_version (version_of w) ≡ false → read_in (version_of w) w 0 ≡ read_in (version_by t.state) w 0
unfolding read_in
first-refused w t none =
    let other : (v : ℕ) → is_version v ≡ true → eqb (get_or w 2 0) v ≡ false =
    λ v good. ne_eqb (get_or w 2 0) v (λ (e : get_or w 2 0 ≡ v). true≢false (sym good ∙ ap is_version (sym e) ∙ none)) in
    let mine : eqb (get_or w 2 0) (version_by t.state) ≡ false =
    ⊎_elim (λ (e : version_by t.state ≡ 1). rw e (other 1 refl)) (λ (e : version_by t.state ≡ 2). rw e (other 2 refl)) (version-either t) in
    rw (none, mine, and-false (is_version (version_by t.state)))

-- ---- one part of log w
module _ (w : List ℕ) (small : length w < 2 ^ 64) where
  -- the tables that the log's replay begins with, and those by which it goes on after n records from t: they are t once a record is read
  abbrev first : Tables
  first = fresh_with (levels_for (version_of w))

  abbrev by : ℕ → Tables → Tables
  by n t = if (eqb n 0) first t

  -- at a position, after n records: nothing is read yet and the tables are fresh, or the tables tell the log's version
  abbrev Holds : ℕ → ℕ → Tables → Type 0
  Holds pos n t = ((n ≡ 0) × (pos ≡ 0) × ((t ≡ fresh) ⊎ (t ≡ first))) ⊎ ((n ≢ 0) × (version_by t.state ≡ version_of w))

  -- the text that is still to come
  unfoldable after : ReplayState → List ℕ
  after m = if m.ended [] (text_of (lines_at w m.offset m.count (by m.count m.tables)))

  -- a part's share of text x, and where the rest goes on
  record Goes (l x : List ℕ) (last : Bool) (m : ReplayState) : Type 0 where
    text : x ≡ m.text ++ after m
    stands : m.ended ≡ false → Stands w m.offset m.rest l
    count : m.ended ≡ false → m.count ≤ m.offset
    holds : m.ended ≡ false → Holds m.offset m.count m.tables
    ends : last ≡ true → m.ended ≡ true

  module _ (last : Bool) (o : ℕ) (s l : List ℕ) (p : Stands w o s l) (z : last ≡ true → l ≡ []) where
    enough : (at : ℕ) → readable last s at ≡ true → Enough w o s l p (at + record_bytes)
    unfolding Enough
    enough at e =
        ⊎_elim
        (λ (h : last ≡ true). inr (z h))
        (λ (h : leb record_bytes (length s - at) ≡ true). inl (omega (arith, leb-true record_bytes (length s - at) h)))
        (test_of last (leb record_bytes (length s - at)) e)

    module _ (at n : ℕ) (t : Tables) (q : at ≤ length s) (c : n ≤ o + at) (h : Holds (o + at) n t) where
      offset-is : kept (o + at) ≡ o + at
      offset-is = omega (arith, long w o s l p)

      -- the bytes wait
      waits-goes : readable last s at ≡ false → Goes l (text_of (lines_at w (o + at) n (by n t))) last (waiting s o at n t)
      unfolding after
      waits-goes e =
          record {
            text = rw offset-is;
            stands = λ h.
                rw offset-is
                (record { bytes = sym (drop-drop at o w) ∙ rw p.bytes (drop-append-le at s l q); inside = omega (arith, long w o s l p) });
            count = λ _. rw offset-is c;
            holds = λ _. rw offset-is h;
            ends = λ h. absurd (no_test last (leb record_bytes (length s - at)) e h);
          }

      -- the last line
      ended-goes : (r : Read) (x : List ℕ) → x ++ line_feed ≡ last_text r o n → Goes l (text_of (x ∷ [])) last (over r s o n t)
      unfolding after
      ended-goes r x e =
          record {
            text = line-alone x ∙ rw e;
            stands = λ h. absurd (true≢false h);
            count = λ h. absurd (true≢false h);
            holds = λ h. absurd (true≢false h);
            ends = λ h. refl;
          }

      -- a line, and what follows it
      line-goes : (y : List ℕ) (ls : List (List ℕ)) (m : ReplayState) → Goes l (text_of ls) last m → Goes l (text_of (y ∷ ls)) last (text_before (y ++ line_feed) m)
      unfolding after
      line-goes y ls m g =
          record { text = line_first y ls m.text (after m) g.text; stands = g.stands; count = g.count; holds = g.holds; ends = g.ends }

      fault-is : (r : Read) → read_in (version_by t.state) s at ≡ r → kept (o + place_of r at) ≡ o + place_of r at
      fault-is r e = rw (read-place _ s at r e) offset-is

      -- once there is enough to read, the tables are those of the log
      module _ (b : readable last s at ≡ true) (begun : n ≡ 0 → t ≡ first) where
        told : (version_by t.state ≡ version_of w) ⊎ ((o + at ≡ 0) × (is_version (version_of w) ≡ false))
        told =
            ⊎_elim
            (λ f.
            let (none, pos, _) = f in
            ⊎_elim (λ (e : version_by first.state ≡ version_of w). inl (rw (begun none) e)) (λ e. inr (pos, e)) (tables-version (version_of w)))
            (λ f. inl f.1)
            h

        read_by : read_at w (o + at) ≡ read_in (version_by t.state) w (o + at)
        read_by =
            ⊎_elim
            (λ (e : version_by t.state ≡ version_of w). rw e)
            (λ f. let (pos, none) = f in rw pos (first-refused w t none))
            told

        -- a record tells that the log has a version
        goes_on : (number begin : ℕ) → read_in (version_by t.state) s at ≡ Record number begin → version_by t.state ≡ version_of w
        unfolding shifted
        goes_on number begin e =
            let there : read_in (version_of w) w (o + at) ≡ Record number (o + begin) =
            read_by ∙ read-in w o s l p at q (enough at b) (version_by t.state) ∙ ap (shifted o) e in
            ⊎_elim
            (λ (e : version_by t.state ≡ version_of w). e)
            (λ f. absurd (true≢false (sym (record-version (version_of w) w (o + at) number (o + begin) there) ∙ f.1)))
            told

        by-is : by n t ≡ t
        by-is = ⊎_elim (λ (e : n ≡ 0). rw (eq-eqb n 0 e) (sym (begun e))) (λ (e : n ≢ 0). rw (ne_eqb n 0 e)) (same? n 0)

      abbrev Next : Type 0
      Next =
          (next m : ℕ) (u : Tables)
          → next ≡ at + record_bytes → next ≤ length s → m ≤ o + next → m ≢ 0 → version_by u.state ≡ version_of w
          → Goes l (text_of (lines_at w (o + next) m u)) last (part_at last s o next m u)

      read_goes : (r : Read) → read_in (version_by t.state) s at ≡ r → readable last s at ≡ true → (n ≡ 0 → t ≡ first)
          → Next
          → Goes l (text_of (lines_for (shifted o r) w n t (λ next u. lines_at w next (suc n) u))) last (part_for r s o at n t (λ next m u. part_at last s o next m u))
      unfolding shifted place_of last_text
      read_goes (Record number begin) e b begun ih =
          let f = record-fits _ s at number begin e in
          let a : argument_bytes w (o + begin) ≡ argument_bytes s begin =
          arguments-in w o s l p at q (enough at b) begin (omega arith) (omega arith) in
          let m : kept (n + 1) ≡ suc n = omega (arith, long w o s l p) in
          let x : o + begin + arguments_length ≡ o + (begin + arguments_length) = omega arith in
          rw (a, m, x)
          (line-goes
          (line_text (suc n) (record_call t number (argument_bytes s begin)).answer (record_call t number (argument_bytes s begin)).thread)
          (lines_at w (o + (begin + arguments_length)) (suc n) (record_call t number (argument_bytes s begin)).tables)
          (part_at last s o (begin + arguments_length) (suc n) (record_call t number (argument_bytes s begin)).tables)
          (ih (begin + arguments_length) (suc n) (record_call t number (argument_bytes s begin)).tables (omega arith) (omega arith) (omega arith) (λ e. omega arith)
          (same_version t.state _ (levels-kept t number _ _ _ _) ∙ goes_on b begun number begin e)))
      read_goes End e b begun ih = ended-goes End (word_text end_word n) refl
      read_goes (Cut k) e b begun ih = ended-goes (Cut k) (word_text cut_word (o + k)) (rw (fault-is (Cut k) e))
      read_goes (Length k) e b begun ih = ended-goes (Length k) (word_text length_word (o + k)) (rw (fault-is (Length k) e))
      read_goes (Version k) e b begun ih = ended-goes (Version k) (word_text version_word (o + k)) (rw (fault-is (Version k) e))

      test-goes : (b : Bool) → readable last s at ≡ b → (b ≡ true → n ≡ 0 → t ≡ first)
          → Next
          → Goes l (text_of (lines_at w (o + at) n (by n t))) last (if b (part_for (read_in (version_by t.state) s at) s o at n t (λ next m u. part_at last s o next m u)) (waiting s o at n t))
      test-goes true e begun ih =
          rw (by-is e (begun refl), lines_step w (o + at) n t, read_by e (begun refl), read-in w o s l p at q (enough at e) (version_by t.state))
          (read_goes (read_in (version_by t.state) s at) refl e (begun refl) ih)
      test-goes false e begun ih = waits-goes e

    goes : (k at n : ℕ) (t : Tables) → length s - at < record_bytes * k → at ≤ length s → n ≤ o + at → Holds (o + at) n t
        → (readable last s at ≡ true → n ≡ 0 → t ≡ first)
        → Goes l (text_of (lines_at w (o + at) n (by n t))) last (part_at last s o at n t)
    goes zero at n t f q c h begun = absurd (omega arith)
    goes (suc k) at n t f q c h begun =
        rw (part_step last s o at n t)
        (test-goes at n t q c h (readable last s at) refl begun
        (λ next m u e g below some is.
        rw (ne_eqb m 0 some) at (goes k next m u (omega arith) g below (inr (some, is)) (λ _ none. absurd (some none)))))

    part-goes : (n : ℕ) (t : Tables) → n ≤ o → Holds o n t → (readable last s 0 ≡ true → n ≡ 0 → t ≡ first)
        → Goes l (text_of (lines_at w o n (by n t))) last (part_of last s o n t)
    part-goes n t c h begun =
        rw (part-whole last s o n t)
        (rw add-zero at (goes (suc (length s)) 0 n t (omega arith) (omega arith) (omega arith) (rw add-zero h) begun))

  -- ---- part by part
  after_none : (m : ReplayState) → m.ended ≡ true → after m ≡ []
  unfolding after
  after_none m e = rw e

  abbrev rest_of : ReplayState → List ℕ
  rest_of m = text_of (lines_at w m.offset m.count (by m.count m.tables))

  after_is : (m : ReplayState) (x : List ℕ) (b : Bool) → m.ended ≡ b → (m.ended ≡ false → x ≡ rest_of m) → if b [] x ≡ if b [] (rest_of m)
  after_is m x true e f = refl
  after_is m x false e f = f e

  -- a part that begins the log with its version sets the levels; where a record was read it changes nothing
  abbrev raised_if : Bool → Tables → Tables
  raised_if b t =
      tables t.tasks t.lines t.semaphores t.events t.mailboxes t.swis t.clocks t.heap
      (if b (raised_state t.state) t.state)

  raised-fresh : (b : Bool) → (raised_if b fresh ≡ fresh_with (if b most_levels few_levels))
      × (raised_if b (fresh_with (if b most_levels few_levels)) ≡ fresh_with (if b most_levels few_levels))
  unfolding fresh_with
  raised-fresh true = (refl, refl)
  raised-fresh false = (refl, refl)

  by-begun : (n : ℕ) (s : List ℕ) (t : Tables) → by n (begun n s t) ≡ by n t
  unfolding begun_state
  by-begun n s t = ⊎_elim (λ (e : n ≡ 0). rw (eq-eqb n 0 e)) (λ (e : n ≢ 0). rw (ne_eqb n 0 e)) (same? n 0)

  begun_first : (s : List ℕ) (t : Tables) → version_of s ≡ version_of w → (t ≡ fresh) ⊎ (t ≡ first) → begun 0 s t ≡ first
  unfolding begun_state
  begun_first s t e f =
      ⊎_elim (λ (g : t ≡ fresh). rw (g, e) (raised-fresh (eqb (version_of w) 2)).0) (λ (g : t ≡ first). rw (g, e) (raised-fresh (eqb (version_of w) 2)).1) f

  -- the third byte is not there, or it is the log's
  begun_fresh : (s l : List ℕ) (t : Tables) → Stands w 0 s l → (t ≡ fresh) ⊎ (t ≡ first) → (begun 0 s t ≡ fresh) ⊎ (begun 0 s t ≡ first)
  unfolding begun_state Enough
  begun_fresh s l t p f =
      ⊎_elim
      (λ (h : 3 ≤ length s). inr (begun_first s t (sym (byte-in w 0 s l p 2 (inl h))) f))
      (λ (h : length s ≤ 2). let none : get_or s 2 0 ≡ 0 = get_or-eq_default s 0 {n = 2} h in rw none f)
      (lt-or-le 2 (length s))

  module _ (last : Bool) (s l : List ℕ) (m : ReplayState) (p : Stands w m.offset s l) (z : last ≡ true → l ≡ []) (h : Holds m.offset m.count m.tables) where
    abbrev t : Tables
    t = begun m.count s m.tables

    unread : m.count ≢ 0 → t.state ≡ m.tables.state
    unfolding begun_state
    unread n = rw (ne_eqb m.count 0 n)

    turn_holds : Holds m.offset m.count t
    turn_holds =
        ⊎_elim
        (λ f. let (none, pos, is) = f in inl (none, pos, rw none (begun_fresh s l m.tables (rw pos at p) is)))
        (λ f. let (some, is) = f in inr (some, rw (unread some) is))
        h

    turn-first : readable last s 0 ≡ true → m.count ≡ 0 → t ≡ first
    turn-first b none =
        ⊎_elim
        (λ f.
        let (_, pos, is) = f in
        let stands : Stands w 0 s l = rw pos at p in
        let third = byte-in w 0 s l stands 2 (fewer w 0 s l stands 0 (omega arith) (enough last 0 s l stands z 0 b) 3 (omega arith)) in
        rw none (begun_first s m.tables (sym third) is))
        (λ f. absurd (f.0 none))
        h

  written_is : (cs : List (List ℕ)) (m : ReplayState) → Stands w m.offset m.rest (flatten cs) → m.count ≤ m.offset
      → Holds m.offset m.count m.tables
      → written cs m ≡ rest_of m
  unfolding written after flatten
  written_is [] m p c h =
      let s : List ℕ = m.rest ++ [] in
      let stands : Stands w m.offset s [] = rw append-nil p in
      let t : Tables = begun m.count s m.tables in
      let g =
      part-goes true m.offset s [] stands (λ h. refl) m.count t c (turn_holds true s [] m stands (λ h. refl) h)
      (turn-first true s [] m stands (λ h. refl) h) in
      sym (rw (by-begun m.count s m.tables) at g.text ∙ rw (after_none (turn true [] m) (g.ends refl)) (append-nil (turn true [] m).text))
  written_is (x ∷ cs) m p c h =
      let s : List ℕ = m.rest ++ x in
      let stands : Stands w m.offset s (flatten cs) =
      record { bytes = p.bytes ∙ sym (append_assoc m.rest x (flatten cs)); inside = p.inside } in
      let t : Tables = begun m.count s m.tables in
      let follows : false ≡ true → flatten cs ≡ [] = λ h. absurd (false≢true h) in
      let g =
      part-goes false m.offset s (flatten cs) stands follows m.count t c (turn_holds false s (flatten cs) m stands follows h)
      (turn-first false s (flatten cs) m stands follows h) in
      ap
      (λ (y : List ℕ). (turn false x m).text ++ y)
      (after_is
      (turn false x m)
      (written cs (turn false x m))
      (turn false x m).ended
      refl
      (λ e. written_is cs (turn false x m) (g.stands e) (g.count e) (g.holds e)))
      ∙ sym (rw (by-begun m.count s m.tables) at g.text)

-- however a log is cut, what is written for its parts is the text of its replay
pub parts-are-whole : (cs : List (List ℕ)) → length (flatten cs) < 2 ^ 64 → written cs start ≡ replay_text (flatten cs)
unfolding replay_text replay_lines
parts-are-whole cs small =
    written_is (flatten cs) small cs start (record { bytes = refl; inside = omega arith }) (omega arith) (inl (refl, refl, inl refl))
    ∙ ap (λ (k : ℕ). text_of (lines_from (suc (k / record_bytes)) (flatten cs) 0 0 (fresh_with (levels_for (version_of (flatten cs)))))) (sub-zero (length (flatten cs)))
