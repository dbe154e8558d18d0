-- `read_at` answers exactly what stands at a position, of any bytes and any position: its tests are gone through one after the other.
-- In this order: the version; what `read_at` answers, test by test; the layout: an answer exactly where it stands; arguments and moves.
use Prim.Native.Nat.{ℕ, suc, ◌+◌, ◌-◌, ◌*◌, ◌<◌, ◌≤◌}
use mathlib.Core.Path.{◌≡◌, refl, sym, ap, subst, ◌∙◌}
use mathlib.Core.Bool.{true, false, ◌&&◌, cond as if, and-false}
use mathlib.Core.Logic.{◌≢◌, ◌⊎◌, ◌↔◌, inl, inr, ⊎_elim}
use mathlib.Core.List.{List, ◌∷◌}
use native.Mathlib.Omega.{arith}
use borrow.Author.Tests.{eq-eqb, ne_eqb, lt-ltb, le-ltb}
use lib.Dec.{eqb, ltb}
use lib.ListN.{length, take, drop, get_or, take-append-drop, length-append, length-drop}
use lib.Seq.{drop-cons, drop-drop, get_or-drop, take_at, length-take-le}
use Rattle.basics.proofs.Laws.{same?, lt-or-le}
use Rattle.rules.specs.Log.{version_of, is_version, half_at, read_in, read_at, argument_bytes, handed_out, argument, move_to, record_bytes, record_length, version_byte}
use Rattle.rules.specs.Log.{arguments_length, number_byte, first_argument}
use Rattle.rules.specs.declared.Read.{Read}
use Rattle.rules.specs.declared.Read.TheVariants.{Record, End, Cut, Length, Version}
use Rattle.demands.specs.Log.{LengthAt, RecordAt, OtherVersion, StandsAt, LogLayout, HandsOut, BigEndian, OnlyRecordsMove}

-- ---- the version: one of the two and the first record's, or not
abbrev SameVersion : List ℕ → ℕ → Type 0
SameVersion s v = (v ≡ version_of s) × ((version_of s ≡ 0x01) ⊎ (version_of s ≡ 0x02))

is-version : (v : ℕ) → (v ≡ 1) ⊎ (v ≡ 2) → is_version v ≡ true
is-version v (inl e) = rw e
is-version v (inr e) = rw e

no-version : (v : ℕ) → v ≢ 1 → v ≢ 2 → is_version v ≡ false
no-version v a b = rw (ne_eqb v 1 a, ne_eqb v 2 b)

version-same : (s : List ℕ) (v : ℕ) → SameVersion s v → (is_version (version_of s) && eqb v (version_of s)) ≡ true
version-same s v (e, f) = rw (is-version (version_of s) f, eq-eqb v (version_of s) e)

version-other : (s : List ℕ) (v : ℕ) → OtherVersion s v → (is_version (version_of s) && eqb v (version_of s)) ≡ false
version-other s v o =
    ⊎_elim
    (λ (e : v ≡ version_of s). ⊎_elim (λ (n : v ≢ version_of s). absurd (n e)) (λ n. rw (no-version (version_of s) (λ f. n.0 (e ∙ f)) (λ f. n.1 (e ∙ f)))) o)
    (λ (n : v ≢ version_of s). rw (ne_eqb v (version_of s) n) (and-false (is_version (version_of s))))
    (same? v (version_of s))

version? : (s : List ℕ) (v : ℕ) → SameVersion s v ⊎ OtherVersion s v
version? s v =
    ⊎_elim
    (λ (e : v ≡ version_of s).
    ⊎_elim
    (λ (f : v ≡ 1). inl (e, inl (sym e ∙ f)))
    (λ (n : v ≢ 1). ⊎_elim (λ (f : v ≡ 2). inl (e, inr (sym e ∙ f))) (λ (m : v ≢ 2). inr (inr (n, m))) (same? v 2))
    (same? v 1))
    (λ (n : v ≢ version_of s). inr (inl n))
    (same? v (version_of s))

module _ (s : List ℕ) (at : ℕ) where
  -- ---- the record's bytes
  byte : (l : List ℕ) → drop at s ≡ l → (k : ℕ) → get_or s (at + k) 0 ≡ get_or l k 0
  byte l p k = sym (get_or-drop at s k 0) ∙ ap (λ (x : List ℕ). get_or x k 0) p

  next : (i j : ℕ) → i < length s → suc i ≡ j → drop i s ≡ get_or s i 0 ∷ drop j s
  next i j h e = drop-cons s i 0 h ∙ ap (λ (k : ℕ). get_or s i 0 ∷ drop k s) e

  module _ (number : ℕ) (arguments : List ℕ) (r : RecordAt s at number arguments) where
    whole : at + record_bytes ≤ length s
    whole = omega (arith, length-drop at s, ap length r.bytes, length-append arguments r.rest, r.sixteen)

    begins : get_or s at 0 ≡ 0x00
    begins = let e : at + 0 ≡ at = omega arith in rw e at (byte _ r.bytes 0)

    -- its argument bytes are the sixteen behind the call number
    pub arguments-are : argument_bytes s (at + first_argument) ≡ arguments
    unfolding argument_bytes
    arguments-are =
        ap (take arguments_length) (sym (drop-drop first_argument at s) ∙ ap (drop first_argument) r.bytes)
        ∙ take_at arguments r.rest arguments_length r.sixteen

  -- ---- the tests one after the other
  past : length s < at → read_at s at ≡ Cut at
  unfolding read_in
  past h = rw (lt-ltb (length s) at h)

  none : length s ≡ at → read_at s at ≡ End
  unfolding read_in
  none e = rw (le-ltb (length s) at (omega arith), eq-eqb (length s) at e)

  one : length s ≡ at + 1 → read_at s at ≡ Cut at
  unfolding read_in
  one e =
      rw (le-ltb (length s) at (omega arith), ne_eqb (length s) at (λ (q : length s ≡ at). omega arith), eq-eqb (length s - at) 1 (omega arith))

  -- with two bytes or more: their number, how many follow, and the version
  module _ (two : at + version_byte ≤ length s) where
    tested : read_at s at
        ≡ if (eqb (half_at s at) record_length)
        (if (ltb (length s - at) record_bytes) (Cut at)
        (if (is_version (version_of s) && eqb (get_or s (at + version_byte) 0) (version_of s)) (Record (get_or s (at + number_byte) 0) (at + first_argument)) (Version at)))
        (Length at)
    unfolding read_in
    tested =
        rw (
          le-ltb (length s) at (omega arith),
          ne_eqb (length s) at (λ (q : length s ≡ at). omega arith),
          ne_eqb (length s - at) 1 (λ (q : length s - at ≡ 1). omega arith),
        )

    wrong : (LengthAt s at → ⊥) → read_at s at ≡ Length at
    wrong n = rw (tested, ne_eqb (half_at s at) record_length (λ (e : half_at s at ≡ record_length). n (two, omega arith, omega arith)))

  module _ (l : LengthAt s at) where
    good : eqb (half_at s at) record_length ≡ true
    good = let (_, a, b) = l in eq-eqb (half_at s at) record_length (omega arith)

    short : length s < at + record_bytes → read_at s at ≡ Cut at
    short h = rw (tested l.0, good, lt-ltb (length s - at) record_bytes (omega (arith, l.0)))

    module _ (h : at + record_bytes ≤ length s) where
      strange : OtherVersion s (get_or s (at + version_byte) 0) → read_at s at ≡ Version at
      strange n = rw (tested l.0, good, le-ltb (length s - at) record_bytes (omega arith), version-other s (get_or s (at + version_byte) 0) n)

      read : SameVersion s (get_or s (at + version_byte) 0) → read_at s at ≡ Record (get_or s (at + number_byte) 0) (at + first_argument)
      read e = rw (tested l.0, good, le-ltb (length s - at) record_bytes (omega arith), version-same s (get_or s (at + version_byte) 0) e)

      record-there : SameVersion s (get_or s (at + version_byte) 0) → RecordAt s at (get_or s (at + number_byte) 0) (argument_bytes s (at + first_argument))
      unfolding argument_bytes
      record-there e =
          record {
            rest = drop arguments_length (drop (at + first_argument) s);
            bytes =
                rw (
                  next at (at + 1) (omega arith) (omega arith),
                  next (at + 1) (at + version_byte) (omega arith) (omega arith),
                  next (at + version_byte) (at + number_byte) (omega arith) (omega arith),
                  next (at + number_byte) (at + first_argument) (omega arith) (omega arith),
                  l.1,
                  l.2,
                  e.0,
                  take-append-drop arguments_length (drop (at + first_argument) s),
                );
            version = e.1;
            sixteen = length-take-le arguments_length (drop (at + first_argument) s) (omega (arith, length-drop (at + first_argument) s));
          }

  -- ---- what is answered stands there, and what stands there is answered
  stands : StandsAt s at (read_at s at)
  stands =
      ⊎_elim
      (λ (h : length s < at). rw (past h) (refl, inl h))
      (λ (g : at ≤ length s).
      ⊎_elim
      (λ (e : length s ≡ at). rw (none e) e)
      (λ (n : length s ≢ at).
      ⊎_elim
      (λ (e : length s ≡ at + 1). rw (one e) (refl, inr (inl e)))
      (λ (m : length s ≢ at + 1).
      let two : at + version_byte ≤ length s = omega arith in
      ⊎_elim
      (λ (e : half_at s at ≡ record_length).
      let l : LengthAt s at = (two, omega arith, omega arith) in
      ⊎_elim
      (λ (h : length s < at + record_bytes). rw (short l h) (refl, inr (inr (l, h))))
      (λ (h : at + record_bytes ≤ length s).
      ⊎_elim
      (λ (v : SameVersion s (get_or s (at + version_byte) 0)). rw (read l h v) (refl, record-there l h v))
      (λ (v : OtherVersion s (get_or s (at + version_byte) 0)). rw (strange l h v) (refl, h, l, v))
      (version? s (get_or s (at + version_byte) 0)))
      (lt-or-le (length s) (at + record_bytes)))
      (λ (e : half_at s at ≢ record_length).
      let differs : LengthAt s at → ⊥ = λ l. let (_, a, b) = l in e (omega arith) in
      rw (wrong two differs) (refl, omega arith, differs))
      (same? (half_at s at) record_length))
      (same? (length s) (at + 1)))
      (same? (length s) at))
      (lt-or-le (length s) at)

  only : (r : Read) → StandsAt s at r → read_at s at ≡ r
  only (Record number start) (e, r) =
      let h = whole number (argument_bytes s start) r in
      let at_byte = byte _ r.bytes in
      read (omega arith, begins number (argument_bytes s start) r, at_byte 1) h (at_byte 2, r.version)
      ∙ ap (λ (n : ℕ). Record n (at + first_argument)) (at_byte 3)
      ∙ ap (Record number) (sym e)
  only End e = none e
  only (Cut n) (e, inl h) = rw e (past h)
  only (Cut n) (e, inr (inl h)) = rw e (one h)
  only (Cut n) (e, inr (inr (l, h))) = rw e (short l h)
  only (Length n) (e, two, differs) = rw e (wrong (omega arith) differs)
  only (Version n) (e, h, l, v) = rw e (strange l h v)

-- ---- the layout: an answer is given exactly where it stands
pub log-layout : LogLayout
log-layout s at r = (λ e. subst (λ (x : Read). StandsAt s at x) e (stands s at), only s at r)

pub big_endian : BigEndian
big_endian bytes n = let e : n * 4 + 2 + 1 ≡ n * 4 + 3 = omega arith in rw e (omega arith)

-- "it hands out each record's sixteen argument bytes as that part of the log": the sixteen of the layout
pub record-hands-out : HandsOut
unfolding handed_out
record-hands-out s at number arguments r =
    rw (le-ltb (length s) (at + first_argument + arguments_length) (omega (arith, whole s at number arguments r))) (arguments-are s at number arguments r)

record-moves : (s : List ℕ) (at number start : ℕ) → read_at s at ≡ Record number start → move_to (read_at s at) at ≡ at + record_bytes
unfolding move_to
record-moves s at number start e = let (d, _) = (log-layout s at (Record number start)).0 e in rw e (omega arith)

-- by what was read
stays : (r : Read) (at : ℕ) → ((number start : ℕ) → r ≢ Record number start) → move_to r at ≡ at
unfolding move_to
stays (Record number start) at n = absurd (n number start refl)
stays End at n = refl
stays (Cut k) at n = refl
stays (Length k) at n = refl
stays (Version k) at n = refl

pub only-records-move : OnlyRecordsMove
only-records-move s at = (record-moves s at, stays (read_at s at) at)
