-- The searches for a Swi.
use Rattle.std.proofs.Common.{◌≡◌, ℕ, ◌+◌, ◌<◌, ◌≤◌, Bool, true, false, not, ◌&&◌, eqb, ◌≢◌, List, length, get_or, take, drop, sym, ap, ◌∙◌, add-one, arith, take-append-drop, take_all, take-suc, le-ltb, lt-ltb, eq-eqb, ne_eqb}
use Rattle.basics.specs.Lists.{bit, count}
use Rattle.basics.specs.Find.{all_below}
use Rattle.basics.proofs.Laws.{count-append, count-snoc}
use Rattle.basics.proofs.Finds.{all_yes, all-no}
use Rattle.rules.specs.Tables.{clock_count, clock}
use Rattle.rules.specs.Lines.{line, active_line}
use Rattle.rules.specs.Swis.{is_active, is_named}
use Rattle.rules.specs.declared.Clock.{Clock}

-- ---- a search among the active Swis has passed k of them
module _ (ls : List ℕ) (i k : ℕ) {n : ℕ} (e : n ≡ length (line ls active_line)) where
  count-more : k < n
      → count i (take (k + 1) (line ls active_line)) ≡ count i (take k (line ls active_line)) + bit (eqb (get_or (line ls active_line) k 0) i)
  count-more h =
      let xs : List ℕ = line ls active_line in
      let q : k < length xs = omega arith in
      rw (add-one, take-suc xs k 0 q) (count-snoc i (get_or xs k 0) (take k xs))

  module _ (h : k < n) {m : ℕ} (f : m ≡ get_or (line ls active_line) k 0) where
    pub active-here : m ≡ i → true ≡ is_active ls i
    unfolding is_active
    active-here s =
        let xs : List ℕ = line ls active_line in
        let b : bit (eqb (get_or xs k 0) i) ≡ 1 = ap bit (eq-eqb (get_or xs k 0) i (sym f ∙ s)) in
        let c = count-append i (take (k + 1) xs) (drop (k + 1) xs) in
        let d = ap (count i) (take-append-drop (k + 1) xs) in
        sym (lt-ltb 0 (count i xs) (omega (arith, count-more h)))

    pub active-not : m ≢ i → count i (take k (line ls active_line)) ≡ 0 → count i (take (k + 1) (line ls active_line)) ≡ 0
    active-not s z =
        let xs : List ℕ = line ls active_line in
        let b : bit (eqb (get_or xs k 0) i) ≡ 0 = ap bit (ne_eqb (get_or xs k 0) i (λ (o : get_or xs k 0 ≡ i). s (f ∙ o))) in
        omega (arith, count-more h)

  pub active-none : n ≤ k → count i (take k (line ls active_line)) ≡ 0 → false ≡ is_active ls i
  unfolding is_active
  active-none h z =
      let xs : List ℕ = line ls active_line in
      let a : length xs ≤ k = omega arith in
      let b = ap (count i) (take_all k xs a) in
      sym (le-ltb 0 (count i xs) (omega arith))

-- ---- a search among the clocks has come to clock n
abbrev pub not_by : List ℕ → ℕ → ℕ → Bool
not_by cs i n = not (eqb (clock cs n).used 1 && eqb (clock cs n).swi i)

module _ (cs : List ℕ) (i n : ℕ) {k : Clock} (e : k ≡ clock cs n) where
  not_by-is : not (eqb k.used 1 && eqb k.swi i) ≡ not_by cs i n
  not_by-is = ap (λ (c : Clock). not (eqb c.used 1 && eqb c.swi i)) e

  pub named_here : n < clock_count → (eqb k.used 1 && eqb k.swi i) ≡ true → true ≡ is_named cs i
  unfolding is_named
  named_here h t = ap not (all-no (not_by cs i) clock_count n h not_by-is (ap not t))

  pub named-not : (eqb k.used 1 && eqb k.swi i) ≡ false → all_below n (not_by cs i) ≡ true → all_below (n + 1) (not_by cs i) ≡ true
  named-not t a = all_yes (not_by cs i) n a not_by-is (ap not t)
