-- What has no ticks left stays: how the test for it goes on, and what it says of the steps in rising number.
use Rattle.std.proofs.Common.{◌≡◌, ℕ, zero, suc, ◌+◌, ◌*◌, ◌<◌, ◌≤◌, Bool, true, ◌&&◌, eqb, ◌≢◌, List, [], ◌∷◌, set, sym, refl, ap, ◌∙◌, ⊎_elim, add-zero, add-suc, arith, eq-eqb, ne_eqb, eqb-true}
use lib.Bits.{bit_or, or_zero_l, or_add_and, and_le_r}
use lib.Seq.{set-get_or}
use Rattle.basics.specs.Find.{rising}
use Rattle.basics.proofs.Finds.{all_none, all-step, all_end, all-at}
use Rattle.basics.proofs.Laws.{same?}
use Rattle.rules_laws.proofs.Rows.{by-range, field_in, with_row-out}
use Rattle.rules.specs.Rows.{field}
use Rattle.rows.proofs.Records.{row_put}
use Rattle.rules.specs.Tables.{clock_count, clock_width, clock, clock_words, with_clock}
use Rattle.rules.specs.Tick.{aged, clock_tables, clock_tick}
use Rattle.rules.specs.declared.Clock.{Clock}
use Rattle.switches.specs.Still.{still}

-- ---- words put together are 0 where each of them is
or-none : (a b : ℕ) → (eqb a 0 && eqb b 0) ≡ eqb (bit_or a b) 0
or-none a b = ⊎_elim zero_left some_left (same? a 0)
  where
    zero_left : a ≡ 0 → (eqb a 0 && eqb b 0) ≡ eqb (bit_or a b) 0
    zero_left e = rw (e, or_zero_l b)

    some_left : a ≢ 0 → (eqb a 0 && eqb b 0) ≡ eqb (bit_or a b) 0
    some_left n =
        let more : bit_or a b ≢ 0 = λ z. n (omega (arith, or_add_and a b, and_le_r a b)) in
        rw (ne_eqb a 0 n, ne_eqb (bit_or a b) 0 more)

module _ (left : ℕ → ℕ) where
  pub still-none : eqb 0 0 ≡ still 0 left
  unfolding still
  still-none = sym (all_none (λ k. eqb (left k) 0))

  pub still-more : (k a : ℕ) {x : ℕ} → eqb a 0 ≡ still k left → x ≡ left k → eqb (bit_or a x) 0 ≡ still (k + 1) left
  unfolding still
  still-more k a {x} e g = sym (or-none a x) ∙ all-step (λ j. eqb (left j) 0) k e (ap (λ y. eqb y 0) g)

  pub still-end : (k n a : ℕ) → k ≤ n → n ≤ k → eqb a 0 ≡ still k left → eqb a 0 ≡ still n left
  unfolding still
  still-end k n a p q e = all_end (λ j. eqb (left j) 0) k n p q e

  -- steps that each leave x as it is where there are no ticks left
  pub still-stays : {A : Type 0} (f : A → ℕ → A) (x : A) (n : ℕ) → ((k : ℕ) → left k ≡ 0 → x ≡ f x k)
      → {r : Bool} → r ≡ still n left → r ≡ true → x ≡ rising n f x
  unfolding still rising
  still-stays f x n stays e t = each n (λ k l. stays k (eqb-true (left k) 0 (all-at (λ j. eqb (left j) 0) n (sym e ∙ t) k l)))
    where
      each : (n : ℕ) → ((k : ℕ) → k < n → x ≡ f x k) → x ≡ rising n f x
      each zero h = refl
      each (suc n) h = h n (omega arith) ∙ ap (λ y. f y n) (each n (λ k l. h k (omega arith)))

-- ---- the steps by eights
rising-on : {A : Type 0} (f : A → ℕ → A) (x : A) (i n : ℕ) → rising n (λ y k. f y (i + k)) (rising i f x) ≡ rising (i + n) f x
unfolding rising
rising-on f x i zero = rw add-zero
rising-on f x i (suc n) = rw add-suc (ap (λ y. f y (i + n)) (rising-on f x i n))

pub eight-more : {A : Type 0} (f : A → ℕ → A) (x : A) (g : ℕ) {y z : A} → y ≡ rising (g * 8) f x → z ≡ rising 8 (λ u k. f u (g * 8 + k)) y
    → z ≡ rising ((g + 1) * 8) f x
eight-more f x g e h =
    let more : g * 8 + 8 ≡ (g + 1) * 8 = omega arith in
    h ∙ ap (rising 8 (λ u k. f u (g * 8 + k))) e ∙ rw (← more) (rising-on f x (g * 8) 8)

-- ---- a clock with no ticks left
-- its row stored again
clock-kept : (cs : List ℕ) (n : ℕ) → with_clock cs n (clock cs n) ≡ cs
unfolding clock with_clock
clock-kept cs n = by-range n clock_count inside (with_row-out clock_width clock_count cs n (clock_words (clock cs n)))
  where
    word : n < clock_count → (f : ℕ) → f < clock_width → set cs (n * clock_width + f) (field clock_width clock_count cs n f) ≡ cs
    word h f l = ap (set cs (n * clock_width + f)) (field_in clock_width clock_count cs n f h l) ∙ set-get_or cs (n * clock_width + f) 0

    inside : n < clock_count → with_clock cs n (clock cs n) ≡ cs
    inside h =
        let k = clock cs n in
        let first : set cs (n * clock_width) k.used ≡ cs = rw add-zero at (word h 0 (omega arith)) in
        sym (row_put clock_width clock_count cs n k.used (k.swi ∷ k.first ∷ k.period ∷ k.left ∷ []) h)
        ∙ rw (first, word h 1 (omega arith), word h 2 (omega arith), word h 3 (omega arith), word h 4 (omega arith))

pub clock-still : (cs ws ls : List ℕ) (n : ℕ) {k : Clock} → k ≡ clock cs n → k.left ≡ 0 → clock_tables cs ws ls ≡ clock_tick (clock_tables cs ws ls) n
unfolding clock_tick aged
clock-still cs ws ls n e z = rw (eq-eqb (clock cs n).left 0 (sym (ap (λ (c : Clock). c.left) e) ∙ z), clock-kept cs n)
