-- A list changed in place, over the most m, the place a of its length and any list: what the stores leave, and what the loops keep.
-- In this order: a list that does not get shorter; leaving; going in at a place.
use Prim.Native.Nat.{ℕ, suc, ◌+◌, ◌-◌, min, ◌≤◌, ◌<◌}
use mathlib.Core.Path.{◌≡◌, refl, sym, ap, ◌∙◌}
use mathlib.Core.Logic.{◌≢◌, inr}
use mathlib.Core.List.{List, [], ◌∷◌, ◌++◌, append_assoc, append-nil}
use native.Mathlib.Numerals.{add-one}
use native.Mathlib.Omega.{arith}
use borrow.Author.Tests.{eq-eqb, ne_eqb}
use lib.ListN.{length, take, drop, get_or, set, length-append, length-replicate, replicate-append-replicate}
use lib.Seq.{sets, set_at, length-take-le, append_snoc, take-suc, get_or-append-add, get_or_at, take_at, take_all, get_or-drop}
use Rattle.basics.specs.Lists.{zeros, without, put_at}
use Rattle.basics.proofs.Laws.{without-append, length-put_at, put_at-min}
use Rattle.basics.proofs.Runs.{sets-snoc, sets-set, sets-reads, get_or-sets-out}
use Rattle.rules.specs.Rows.{listed, with_listed}
use Rattle.rules_laws.proofs.Listed.{at_listed, front-listed, sets-listed, with_listed-is}

pub length-snoc : (xs : List ℕ) (x : ℕ) → length (xs ++ (x ∷ [])) ≡ suc (length xs)
length-snoc xs x = rw length-append (omega arith)

-- ---- a list that does not get shorter: its members stored, then their number
pub grown : (m : ℕ) (t : List ℕ) (a : ℕ) (ys : List ℕ) {n : ℕ} → length (listed m t a) ≤ length ys → n ≡ length ys
    → set (sets t (a + 1) ys) a n ≡ with_listed m t a ys
grown m t a ys {n} h e =
    let z : length (listed m t a) - length ys ≡ 0 = omega arith in
    ap (set (sets t (a + 1) ys) a) e
    ∙ sym
    (with_listed-is m t a ys
    ∙ ap (λ (k : ℕ). set (sets t (a + 1) (ys ++ zeros k)) a (length ys)) z
    ∙ ap (λ (l : List ℕ). set (sets t (a + 1) l) a (length ys)) (append-nil ys))

-- x at the back
pub joined_is : (m : ℕ) (t : List ℕ) (a x : ℕ) {n k : ℕ} → n ≡ length (listed m t a) → k ≡ n
    → set (set t (a + 1 + k) x) a (n + 1) ≡ with_listed m t a (listed m t a ++ (x ∷ []))
joined_is m t a x {n} {k} e f =
    let xs : List ℕ = listed m t a in
    ap (λ (l : List ℕ). set (set l (a + 1 + k) x) a (n + 1)) (sym (sets-listed m t a))
    ∙ ap (λ (l : List ℕ). set l a (n + 1)) (sets-snoc xs t (a + 1) k x (sym (f ∙ e)))
    ∙ grown m t a (xs ++ (x ∷ [])) (omega (arith, length-snoc xs x)) (omega (arith, length-snoc xs x))

-- ---- leaving: those kept, then zeros up to k
unfoldable pub run : List ℕ → ℕ → List ℕ
run w k = w ++ zeros (k - length w)

module _ (w : List ℕ) (k : ℕ) (h : length w ≤ k) where
  length_run : length (run w k) ≡ k
  unfolding run
  length_run = simp (length-append, length-replicate) (omega arith)

  run-zero : run w k ++ (0 ∷ []) ≡ run w (k + 1)
  unfolding run
  run-zero =
      let e : k - length w + 1 ≡ k + 1 - length w = omega arith in
      append_assoc w (zeros (k - length w)) (0 ∷ []) ∙ ap (λ (l : List ℕ). w ++ l) (replicate-append-replicate (k - length w) 1 0 ∙ ap zeros e)

  run-put : (y : ℕ) → set (run w (k + 1)) (length w) y ≡ run (w ++ (y ∷ [])) (k + 1)
  unfolding run
  run-put y =
      let e : k + 1 - length w ≡ suc (k - length w) = omega arith in
      let f : k + 1 - suc (length w) ≡ k - length w = omega arith in
      rw (e, length-snoc, f, append_snoc) (set_at w 0 (zeros (k - length w)) y (length w) refl)

-- after k members: the n of them that are not x stand at the front
pub record Kept (m : ℕ) (t : List ℕ) (a x : ℕ) (k n : ℕ) (now : List ℕ) : Type 0 where
  pub below : k ≤ length (listed m t a)
  pub size : n ≡ length (without x (take k (listed m t a)))
  pub least : n ≤ k
  pub same : now ≡ sets t (a + 1) (run (without x (take k (listed m t a))) k)

module _ (m : ℕ) (t : List ℕ) (a x : ℕ) where
  pub kept-none : Kept m t a x 0 0 t
  unfolding run without
  kept-none = record { below = omega arith; size = refl; least = omega arith; same = refl }

  module _ (k : ℕ) {n : ℕ} {now : List ℕ} (inv : Kept m t a x k n now) (h : k < length (listed m t a)) where
    w : List ℕ
    w = without x (take k (listed m t a))

    short : length w ≤ k
    unfolding w
    short = omega (arith, inv.size, inv.least)

    pub kept_read : get_or now (a + 1 + k) 0 ≡ get_or (listed m t a) k 0
    unfolding w
    kept_read =
        ap (λ (l : List ℕ). get_or l (a + 1 + k) 0) inv.same
        ∙ get_or-sets-out (run w k) t (a + 1) (a + 1 + k) (inr (omega (arith, length_run w k short)))
        ∙ at_listed m t a k h

    kept-clear : set now (a + 1 + k) 0 ≡ sets t (a + 1) (run w (k + 1))
    unfolding w
    kept-clear =
        ap (λ (l : List ℕ). set l (a + 1 + k) 0) inv.same
        ∙ sets-snoc (run w k) t (a + 1) k 0 (length_run w k short)
        ∙ ap (sets t (a + 1)) (run-zero w k short)

    pub turn-left : get_or (listed m t a) k 0 ≡ x → {p : ℕ} {to : List ℕ} → p ≡ n → to ≡ set now (a + 1 + k) 0 → Kept m t a x (k + 1) p to
    unfolding without w
    turn-left e p q =
        let f : without x (take (k + 1) (listed m t a)) ≡ w =
        rw (add-one, take-suc (listed m t a) k 0, without-append, eq-eqb (get_or (listed m t a) k 0) x e) (append-nil _) in
        record { below = omega arith; size = rw f (p ∙ inv.size); least = omega (arith, inv.least); same = rw f (q ∙ kept-clear) }

    pub turn-kept : {y : ℕ} → y ≡ get_or (listed m t a) k 0 → y ≢ x → {p b : ℕ} {to : List ℕ} → p ≡ n + 1 → b ≡ n
        → to ≡ set (set now (a + 1 + k) 0) (a + 1 + b) y → Kept m t a x (k + 1) p to
    unfolding without w
    turn-kept {y} e ne {b = b} p at q =
        let f : without x (take (k + 1) (listed m t a)) ≡ w ++ (get_or (listed m t a) k 0 ∷ []) =
        rw (add-one, take-suc (listed m t a) k 0, without-append, ne_eqb (get_or (listed m t a) k 0) x (λ z. ne (e ∙ z))) in
        let s : b ≡ length w = at ∙ inv.size in
        record {
          below = omega arith;
          size = rw f (omega (arith, p, inv.size, length-snoc w (get_or (listed m t a) k 0)));
          least = omega (arith, inv.least);
          same =
              rw f
              (q
              ∙ ap (λ (l : List ℕ). set l (a + 1 + b) y) kept-clear
              ∙ sets-set (run w (k + 1)) t (a + 1) b y (omega (arith, inv.least, length_run w (k + 1) (omega (arith, short))))
              ∙ ap (sets t (a + 1))
              (ap (λ (i : ℕ). set (run w (k + 1)) i y) s ∙ run-put w k short y ∙ ap (λ (v : ℕ). run (w ++ (v ∷ [])) (k + 1)) e));
        }

  -- at the end, the number stored
  pub kept-all : (k : ℕ) {n : ℕ} {now : List ℕ} → Kept m t a x k n now → length (listed m t a) ≤ k
      → set now a n ≡ with_listed m t a (without x (listed m t a))
  unfolding run
  kept-all k {n} {now} inv h =
      let e : take k (listed m t a) ≡ listed m t a = take_all k (listed m t a) h in
      let q : k ≡ length (listed m t a) = omega (arith, inv.below) in
      let s : n ≡ length (without x (listed m t a)) = rw e at inv.size in
      let f : now ≡ sets t (a + 1) (without x (listed m t a) ++ zeros (length (listed m t a) - length (without x (listed m t a)))) = rw (e, q) at inv.same in
      rw (s, f) (sym (with_listed-is m t a (without x (listed m t a))))

-- ---- going in at a place: k members are as they will be, and carry is the next
module _ (xs : List ℕ) (p x : ℕ) (hp : p ≤ length xs) where
  front-xs : length (take p xs) ≡ p
  front-xs = length-take-le p xs hp

  put-at : get_or (put_at p x xs) p 0 ≡ x
  unfolding put_at
  put-at = get_or_at (take p xs) x (drop p xs) 0 p front-xs

  put_front : take p (put_at p x xs) ≡ take p xs
  unfolding put_at
  put_front = take_at (take p xs) (x ∷ drop p xs) p front-xs

  put-behind : (k : ℕ) → p ≤ k → get_or (put_at p x xs) (k + 1) 0 ≡ get_or xs k 0
  unfolding put_at
  put-behind k h =
      let e : k + 1 ≡ length (take p xs) + suc (k - p) = omega (arith, front-xs) in
      let f : p + (k - p) ≡ k = omega arith in
      ap (λ (n : ℕ). get_or (take p xs ++ (x ∷ drop p xs)) n 0) e
      ∙ get_or-append-add (take p xs) (x ∷ drop p xs) (suc (k - p)) 0
      ∙ get_or-drop p xs (k - p) 0
      ∙ ap (λ (n : ℕ). get_or xs n 0) f

pub record Shifted (m : ℕ) (t : List ℕ) (a p x : ℕ) (carry k : ℕ) (now : List ℕ) : Type 0 where
  pub low : min p (length (listed m t a)) ≤ k
  pub high : k ≤ length (listed m t a)
  pub next : carry ≡ get_or (put_at (min p (length (listed m t a))) x (listed m t a)) k 0
  pub same : now ≡ sets t (a + 1) (take k (put_at (min p (length (listed m t a))) x (listed m t a)))

module _ (m : ℕ) (t : List ℕ) (a place x : ℕ) where
  xs : List ℕ
  xs = listed m t a

  p : ℕ
  p = min place (length (listed m t a))

  hp : p ≤ length xs
  unfolding p xs
  hp = omega arith

  pub shifted_none : {k n : ℕ} → n ≡ length (listed m t a) → k ≡ min place n → Shifted m t a place x x k t
  unfolding p xs
  shifted_none {k} q b =
      let e : k ≡ p = b ∙ ap (min place) q in
      rw e
      record {
        low = omega arith;
        high = hp;
        next = sym (put-at xs p x hp);
        same = sym (ap (sets t (a + 1)) (put_front xs p x hp ∙ front-listed m t a p hp) ∙ sets-reads p t (a + 1));
      }

  module _ {carry : ℕ} (k : ℕ) {now : List ℕ} (inv : Shifted m t a place x carry k now) where
    ys : List ℕ
    ys = put_at (min place (length (listed m t a))) x (listed m t a)

    k-ys : k < length ys
    unfolding ys
    k-ys = omega (arith, inv.high, length-put_at (min place (length (listed m t a))) x (listed m t a))

    before : length (take k ys) ≡ k
    before = length-take-le k ys (omega (arith, k-ys))

    stored : set now (a + 1 + k) carry ≡ sets t (a + 1) (take (k + 1) ys)
    unfolding ys
    stored =
        let e : take k ys ++ (get_or ys k 0 ∷ []) ≡ take (k + 1) ys = rw add-one (sym (take-suc ys k 0 k-ys)) in
        ap (λ (l : List ℕ). set l (a + 1 + k) carry) inv.same
        ∙ sets-snoc (take k ys) t (a + 1) k carry before
        ∙ ap (λ (v : ℕ). sets t (a + 1) (take k ys ++ (v ∷ []))) inv.next
        ∙ ap (sets t (a + 1)) e

    pub shifted-more : {y : ℕ} {to : List ℕ} → k < length (listed m t a) → y ≡ get_or now (a + 1 + k) 0 → to ≡ set now (a + 1 + k) carry
        → Shifted m t a place x y (k + 1) to
    unfolding ys p xs
    shifted-more h e f =
        record {
          low = omega (arith, inv.low);
          high = omega arith;
          next =
              e
              ∙ ap (λ (l : List ℕ). get_or l (a + 1 + k) 0) inv.same
              ∙ get_or-sets-out (take k ys) t (a + 1) (a + 1 + k) (inr (omega (arith, before)))
              ∙ at_listed m t a k h
              ∙ sym (put-behind xs p x hp k inv.low);
          same = f ∙ stored;
        }

    pub shifted-all : {n : ℕ} → n ≡ length (listed m t a) → n ≤ k → set (set now (a + 1 + k) carry) a (n + 1) ≡ with_listed m t a (put_at place x (listed m t a))
    unfolding ys
    shifted-all {n} e h =
        let q : k + 1 ≡ length ys = omega (arith, inv.high, length-put_at (min place (length (listed m t a))) x (listed m t a)) in
        let r : length (put_at place x (listed m t a)) ≡ suc (length (listed m t a)) = length-put_at place x (listed m t a) in
        ap (λ (l : List ℕ). set l a (n + 1)) (stored ∙ ap (sets t (a + 1)) (take_all (k + 1) ys (omega arith) ∙ put_at-min place x (listed m t a)))
        ∙ grown m t a (put_at place x (listed m t a)) (omega arith) (omega arith)
