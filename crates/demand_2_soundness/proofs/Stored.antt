-- The places behind a list that is kept in a row: zeros, and zeros after the list is stored anew. So the rule on the lines is kept.
use Prim.Native.Nat.{ℕ, suc, ◌+◌, ◌*◌, ◌-◌, min, ◌≤◌, ◌<◌}
use mathlib.Core.Path.{◌≡◌, sym, ap, ◌∙◌}
use mathlib.Core.Logic.{◌≢◌, ◌⊎◌, inl, inr, ⊎_elim}
use mathlib.Core.List.{List}
use native.Mathlib.Omega.{arith}
use lib.ListN.{length, get_or}
use Rattle.basics.specs.Lists.{without, put_at}
use Rattle.basics.specs.Rule.{Means, ◌is◌, every}
use Rattle.basics.proofs.Laws.{same?, lt-or-le, length-put_at}
use Rattle.basics.proofs.Runs.{length-reads, get_or-reads}
use Rattle.rules.specs.Rows.{with_listed, behind}
use Rattle.rules.specs.Lines.{line_count, line_most, line_width, line, with_line, out_of, entered}
use Rattle.rules.specs.Sound.{lines_rule}
use Rattle.rules_laws.proofs.Rows.{by-range, row-end}
use Rattle.rules_laws.proofs.Listed.{length-listed, listed-away, length-there, behind-same}
use Rattle.rules_laws.proofs.Lines.{with_line-in, with_line-out, left-length, entered-in, entered-full}

-- ---- zeros behind the list of at most m at place a
module _ (m : ℕ) (t : List ℕ) (a : ℕ) where
  abbrev pub Clear : Type 0
  Clear = (k : ℕ) → min (get_or t a 0) m ≤ k → k < m → get_or t (a + 1 + k) 0 ≡ 0

  pub behind-clear : Means (every (behind m t a) (λ x. x is 0)) → Clear
  unfolding behind
  behind-clear z k low high =
      let n : ℕ = min (get_or t a 0) m in
      let e : a + 1 + n + (k - n) ≡ a + 1 + k = omega arith in
      let h : k - n < m - n = omega arith in
      ap (λ (i : ℕ). get_or t i 0) (sym e)
      ∙ sym (get_or-reads (m - n) (k - n) t (a + 1 + n) h)
      ∙ z (k - n) (omega (arith, length-reads (m - n) t (a + 1 + n)))

  pub clear_behind : Clear → Means (every (behind m t a) (λ x. x is 0))
  unfolding behind
  clear_behind z k h =
      let n : ℕ = min (get_or t a 0) m in
      let l : k < m - n = omega (arith, length-reads (m - n) t (a + 1 + n)) in
      let e : a + 1 + n + k ≡ a + 1 + (n + k) = omega arith in
      get_or-reads (m - n) k t (a + 1 + n) l ∙ ap (λ (i : ℕ). get_or t i 0) e ∙ z (n + k) (omega arith) (omega arith)

-- the list stored anew
pub clear-same : (m : ℕ) (t : List ℕ) (a : ℕ) (xs : List ℕ) → length xs ≤ m → a + m < length t → Clear m t a → Clear m (with_listed m t a xs) a
clear-same m t a xs short fits z k low high =
    behind-same m t a xs short fits (λ i l h. z i (omega (arith, length-listed m t a)) h) k (omega (arith, length-there m t a xs short fits)) high

-- another list stored anew
pub clear-other : (m : ℕ) (t : List ℕ) (a : ℕ) (xs : List ℕ) → length xs ≤ m → (n b : ℕ) → (b + n < a) ⊎ (a + m < b) → Clear n t b
    → Clear n (with_listed m t a xs) b
clear-other m t a xs short n b apart z k low high =
    let e = listed-away m t a xs short b (⊎_elim (λ (q : b + n < a). inl (omega arith)) (λ (q : a + m < b). inr q) apart) in
    listed-away m t a xs short (b + 1 + k) (⊎_elim (λ (q : b + n < a). inl (omega arith)) (λ (q : a + m < b). inr (omega arith)) apart)
    ∙ z k (omega (arith, e)) high

-- ---- the rule on the lines
module _ (ls : List ℕ) (all : length ls ≡ line_count * line_width) (rule : Means (lines_rule ls)) where
  pub stored_lines : (j : ℕ) (xs : List ℕ) → length xs ≤ line_most → Means (lines_rule (with_line ls j xs))
  stored_lines j xs short =
      by-range j line_count
      (λ h. rw (with_line-in ls j xs h) (λ i l. ⊎_elim (λ (e : i ≡ j). rw e (here h)) (λ (n : i ≢ j). other i l h n) (same? i j)))
      (λ h. rw (with_line-out ls j xs h) rule)
    where
      here : j < line_count
          → (get_or (with_listed line_most ls (j * line_width) xs) (j * line_width) 0 < suc line_most)
          × Means (every (behind line_most (with_listed line_most ls (j * line_width) xs) (j * line_width)) (λ x. x is 0))
      here h =
          let fits : j * line_width + line_most < length ls = omega (arith, row-end line_width j line_count h) in (
            omega (arith, length-there line_most ls (j * line_width) xs short fits),
            clear_behind line_most _ (j * line_width)
                (clear-same line_most ls (j * line_width) xs short fits (behind-clear line_most ls (j * line_width) (rule j h).1)),
          )

      other : (i : ℕ) → i < line_count → j < line_count → i ≢ j
          → (get_or (with_listed line_most ls (j * line_width) xs) (i * line_width) 0 < suc line_most)
          × Means (every (behind line_most (with_listed line_most ls (j * line_width) xs) (i * line_width)) (λ x. x is 0))
      other i l h n =
          let apart : (i * line_width + line_most < j * line_width) ⊎ (j * line_width + line_most < i * line_width) =
          ⊎_elim
          (λ (p : i < j). inl (omega (arith, row-end line_width i j p)))
          (λ (p : j ≤ i). inr (let q : j < i = omega arith in omega (arith, row-end line_width j i q)))
          (lt-or-le i j) in
          let out : (i * line_width < j * line_width) ⊎ (j * line_width + line_most < i * line_width) =
          ⊎_elim (λ (q : i * line_width + line_most < j * line_width). inl (omega arith)) (λ q. inr q) apart in
          let e = listed-away line_most ls (j * line_width) xs short (i * line_width) out in
          let z = behind-clear line_most ls (i * line_width) (rule i l).1 in (
            omega (arith, e, (rule i l).0),
            clear_behind line_most _ (i * line_width)
                (clear-other line_most ls (j * line_width) xs short line_most (i * line_width) apart z),
          )

  pub left-lines : (j x : ℕ) → Means (lines_rule (out_of j x ls))
  unfolding out_of
  left-lines j x = stored_lines j (without x (line ls j)) (left-length ls j x)

  pub entered-lines : (place : List ℕ → ℕ) (j x : ℕ) → Means (lines_rule (entered place j x ls))
  entered-lines place j x =
      let n = length-put_at (place (line ls j)) x (line ls j) in
      by-range (length (line ls j)) line_most
      (λ h. rw (entered-in ls j x place h) (stored_lines j (put_at (place (line ls j)) x (line ls j)) (omega arith)))
      (λ h. rw (entered-full ls j x place h) rule)
