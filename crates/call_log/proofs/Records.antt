-- What the tests of the reader say of `read_in`, what is read past the end, where a record that was found lies, and what is handed out of it.
use Rattle.std.proofs.Common.{◌≡◌, ℕ, ◌+◌, ◌-◌, ◌%◌, ◌^◌, ◌<◌, ◌≤◌, Bool, true, false, cond as if, not, ◌&&◌, ◌||◌, eqb, ltb, List, [], length, get_or, take, drop, sym, refl, true≢false, arith, length-drop, length-take-le, ltb-false, le-ltb, lt-ltb, eq-eqb, ne_eqb}
use mathlib.Core.Bool.{and-eq-true_iff, false≢true}
use lib.ListN.{get_or-eq_default}
use Rattle.rules.specs.Log.{is_version, half_at, word_at, read_in, argument_bytes, handed_out, move_to}
use Rattle.rules.specs.declared.Read.{Read}
use Rattle.rules.specs.declared.Read.TheVariants.{Record, End, Cut, Length, Version}

-- ---- past the end
pub byte-out : (s : List ℕ) (at : ℕ) → length s ≤ at → 0 ≡ get_or s at 0
byte-out s at h = sym (get_or-eq_default s 0 {n = at} h)

-- ---- the test of the version, as it is made and as it is said
other-version : (b c : Bool) → (not b || not c) ≡ true → (b && c) ≡ false
other-version true true e = absurd (false≢true e)
other-version true false e = refl
other-version false c e = refl

same_version : (b c : Bool) → (not b || not c) ≡ false → (b && c) ≡ true
same_version true true e = refl
same_version true false e = absurd (true≢false e)
same_version false c e = absurd (true≢false e)

module _ (v : ℕ) (s : List ℕ) (at : ℕ) where
  -- ---- the tests, in their order
  pub past_is : length s < at → Cut at ≡ read_in v s at
  unfolding read_in
  past_is h = rw (lt-ltb (length s) at h)

  pub end_is : length s ≡ at → End ≡ read_in v s at
  unfolding read_in
  end_is e = rw (le-ltb (length s) at (omega arith), eq-eqb (length s) at e)

  module _ (p : at ≤ length s) (q : length s ≡ at → ⊥) where
    pub one-left-is : length s - at ≡ 1 → Cut at ≡ read_in v s at
    unfolding read_in
    one-left-is e = rw (le-ltb (length s) at p, ne_eqb (length s) at q, eq-eqb (length s - at) 1 e)

    module _ (r : length s - at ≡ 1 → ⊥) where
      pub length-is : (half_at s at ≡ 18 → ⊥) → Length at ≡ read_in v s at
      unfolding read_in
      length-is n = rw (le-ltb (length s) at p, ne_eqb (length s) at q, ne_eqb (length s - at) 1 r, ne_eqb (half_at s at) 18 n)

      module _ (e : half_at s at ≡ 18) where
        pub short-is : length s - at < 20 → Cut at ≡ read_in v s at
        unfolding read_in
        short-is h =
            rw (le-ltb (length s) at p, ne_eqb (length s) at q, ne_eqb (length s - at) 1 r, eq-eqb (half_at s at) 18 e, lt-ltb (length s - at) 20 h)

        module _ (h : 20 ≤ length s - at) where
          pub version-is : (not (is_version v) || not (eqb (get_or s (at + 2) 0) v)) ≡ true → Version at ≡ read_in v s at
          unfolding read_in
          version-is n =
              rw (
                le-ltb (length s) at p,
                ne_eqb (length s) at q,
                ne_eqb (length s - at) 1 r,
                eq-eqb (half_at s at) 18 e,
                le-ltb (length s - at) 20 h,
                other-version (is_version v) _ n,
              )

          pub record_is : (not (is_version v) || not (eqb (get_or s (at + 2) 0) v)) ≡ false → Record (get_or s (at + 3) 0) (at + 4) ≡ read_in v s at
          unfolding read_in
          record_is q₂ =
              rw (
                le-ltb (length s) at p,
                ne_eqb (length s) at q,
                ne_eqb (length s - at) 1 r,
                eq-eqb (half_at s at) 18 e,
                le-ltb (length s - at) 20 h,
                same_version (is_version v) _ q₂,
              )

pub half_out : (s : List ℕ) (at : ℕ) → length s ≤ at → 0 ≡ half_at s at
half_out s at h = rw (← byte-out s at h, ← byte-out s (at + 1) (omega arith))

pub word_out : (s : List ℕ) (at : ℕ) → length s ≤ at → 0 ≡ word_at s at
word_out s at h = rw (← half_out s at h, ← half_out s (at + 2) (omega arith))

-- ---- what is handed out from a start on
module _ (s : List ℕ) (start : ℕ) where
  -- nothing past the end, and nothing where fewer than sixteen are left
  pub past-empty : length s < start → [] ≡ handed_out s start
  unfolding handed_out
  past-empty h = rw (lt-ltb (length s) (start + 16) (omega arith))

  pub short-empty : start ≤ length s → length s - start < 16 → take (length s - length s) (drop (length s) s) ≡ handed_out s start
  unfolding handed_out
  short-empty g h = let none : length s - length s ≡ 0 = omega arith in rw (none, lt-ltb (length s) (start + 16) (omega arith))

  -- else the sixteen
  pub sixteen-is : 16 ≤ length s - start → take (start + 16 - start) (drop start s) ≡ handed_out s start
  unfolding handed_out argument_bytes
  sixteen-is h = let e : start + 16 - start ≡ 16 = omega arith in rw (e, le-ltb (length s) (start + 16) (omega arith))

-- ---- a record that was found has its twenty bytes there
asked : (a b c d e f : Bool) (at : ℕ) → Read → Read
asked a b c d e f at r = if a (Cut at) (if b End (if c (Cut at) (if d (if e (Cut at) (if f r (Version at))) (Length at))))

long : (a b c d e f : Bool) (at n m number start : ℕ) → asked a b c d e f at (Record n m) ≡ Record number start
    → (a ≡ false) × (e ≡ false) × (f ≡ true) × (m ≡ start)
unfolding asked
long true b c d e f at n m number start h = absurd (let z : ◌≡◌ {A = ℕ} 0 1 = cc in omega arith)
long false true c d e f at n m number start h = absurd (let z : ◌≡◌ {A = ℕ} 0 1 = cc in omega arith)
long false false true d e f at n m number start h = absurd (let z : ◌≡◌ {A = ℕ} 0 1 = cc in omega arith)
long false false false true true f at n m number start h = absurd (let z : ◌≡◌ {A = ℕ} 0 1 = cc in omega arith)
long false false false true false true at n m number start h = (refl, refl, refl, cc)
long false false false true false false at n m number start h = absurd (let z : ◌≡◌ {A = ℕ} 0 1 = cc in omega arith)
long false false false false e f at n m number start h = absurd (let z : ◌≡◌ {A = ℕ} 0 1 = cc in omega arith)

-- the same of `read_in`
good : (v : ℕ) (s : List ℕ) (at number start : ℕ) → read_in v s at ≡ Record number start
    → (ltb (length s) at ≡ false) × (ltb (length s - at) 20 ≡ false) × ((is_version v && eqb (get_or s (at + 2) 0) v) ≡ true) × (at + 4 ≡ start)
unfolding read_in asked
good v s at number start h =
    long
    (ltb (length s) at)
    (eqb (length s) at)
    (eqb (length s - at) 1)
    (eqb (half_at s at) 18)
    (ltb (length s - at) 20)
    (is_version v && eqb (get_or s (at + 2) 0) v)
    at
    (get_or s (at + 3) 0)
    (at + 4)
    number
    start
    h

pub record-fits : (v : ℕ) (s : List ℕ) (at number start : ℕ) → read_in v s at ≡ Record number start → (at + 20 ≤ length s) × (start ≡ at + 4)
record-fits v s at number start h =
    let (inside, whole, _, begin) = good v s at number start h in
    (omega (arith, ltb-false (length s) at inside, ltb-false (length s - at) 20 whole), sym begin)

-- its version is one
pub record-version : (v : ℕ) (s : List ℕ) (at number start : ℕ) → read_in v s at ≡ Record number start → is_version v ≡ true
record-version v s at number start h = ((and-eq-true_iff _ _).0 (good v s at number start h).2).0

-- ---- so what is handed out from its start is its argument bytes, and they are sixteen
pub handed_out_lem : (v : ℕ) (s : List ℕ) (at number start : ℕ) → read_in v s at ≡ Record number start
    → (handed_out s start ≡ argument_bytes s start) × (length (handed_out s start) ≡ 16)
unfolding handed_out argument_bytes
handed_out_lem v s at number start h =
    let t = record-fits v s at number start h in
    let there = le-ltb (length s) (start + 16) (omega (arith, t.0, t.1)) in
    (rw there, rw there (length-take-le 16 (drop start s) (omega (arith, t.0, t.1, length-drop start s))))

-- ---- the position after it lies in the log too, or is the one before
after-fits : (v : ℕ) (s : List ℕ) (at : ℕ) (r : Read) → read_in v s at ≡ r → length s < 2 ^ 64 → at < 2 ^ 64 → move_to r at < 2 ^ 64
unfolding move_to
after-fits v s at (Record number start) h p q = let t = record-fits v s at number start h in omega (arith, t.0, t.1)
after-fits v s at End h p q = q
after-fits v s at (Cut n) h p q = q
after-fits v s at (Length n) h p q = q
after-fits v s at (Version n) h p q = q

pub step_is : (v : ℕ) (s : List ℕ) (at : ℕ) {r : Read} {n : ℕ} → length s < 2 ^ 64 → at < 2 ^ 64 → r ≡ read_in v s at → n ≡ move_to r at % 2 ^ 64
    → (r ≡ read_in v s at) × (n ≡ move_to r at)
step_is v s at {r} {n} p q e f = (e, omega (arith, f, after-fits v s at r (sym e) p q))
