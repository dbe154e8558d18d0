-- What the stores of `lines` mean to the line whose row they are in.
use Prim.Native.Nat.{ℕ, ◌+◌, ◌*◌, min, ◌≤◌, ◌<◌}
use mathlib.Core.Path.{◌≡◌, sym, ap, ◌∙◌}
use mathlib.Core.List.{List}
use native.Mathlib.Omega.{arith}
use lib.ListN.{length, get_or, set}
use Rattle.basics.specs.Lists.{without, put_at}
use Rattle.rules.specs.Rows.{listed, with_listed}
use Rattle.rules.specs.Lines.{line_count, line_most, line_width, line, with_line, out_of, entered}
use Rattle.rules_laws.proofs.Rows.{by-range}
use Rattle.rules_laws.proofs.Listed.{length-listed, at_listed}
use Rattle.rules_laws.proofs.InPlace.{Kept, kept-all, Shifted, shifted-all}
use Rattle.rules_laws.proofs.Lines.{line-in, line-out, line-le, with_line-in, left_out, entered-in, entered-full, entered-out}

module _ (ls : List ℕ) (j : ℕ) where
  -- how many stand there
  pub len-in : j < line_count → {n : ℕ} → n ≡ min (get_or ls (j * line_width) 0) line_most → n ≡ length (line ls j)
  len-in h e = e ∙ sym (length-listed line_most ls (j * line_width)) ∙ ap length (sym (line-in ls j h))

  pub len_out : line_count ≤ j → 0 ≡ length (line ls j)
  len_out h = sym (ap length (line-out ls j h))

  -- who has a member has a row
  pub in_row : {k n : ℕ} → n ≡ length (line ls j) → k < n → (j < line_count) × (k < line_most)
  in_row e h = by-range j line_count (λ p. (p, omega (arith, line-le ls j))) (λ p. absurd (omega (arith, len_out p)))

  pub member_is : (k : ℕ) {n : ℕ} → n ≡ length (line ls j) → k < n → get_or ls (j * line_width + 1 + k) 0 ≡ get_or (line ls j) k 0
  member_is k e h =
      let p : j < line_count = (in_row e h).0 in
      let q : k < length (listed line_most ls (j * line_width)) = omega (arith, ap length (line-in ls j p)) in
      at_listed line_most ls (j * line_width) k q ∙ ap (λ (l : List ℕ). get_or l k 0) (sym (line-in ls j p))

  module _ (h : j < line_count) where
    -- the same of the list in the line's row
    pub listed-len : {n : ℕ} → n ≡ length (line ls j) → n ≡ length (listed line_most ls (j * line_width))
    listed-len e = e ∙ ap length (line-in ls j h)

    pub left_is : (x k : ℕ) {n : ℕ} {now : List ℕ} → Kept line_most ls (j * line_width) x k n now → length (listed line_most ls (j * line_width)) ≤ k
        → set now (j * line_width) n ≡ out_of j x ls
    unfolding out_of
    left_is x k inv q =
        kept-all line_most ls (j * line_width) x k inv q
        ∙ sym (ap (λ (l : List ℕ). with_line ls j (without x l)) (line-in ls j h) ∙ with_line-in ls j (without x (listed line_most ls (j * line_width))) h)

    -- n is the length byte
    module _ {n : ℕ} (e : n ≡ get_or ls (j * line_width) 0) where
      pub full_is : (place : List ℕ → ℕ) (x : ℕ) → line_most ≤ n → ls ≡ entered place j x ls
      full_is place x q = sym (entered-full ls j x place (omega (arith, ap length (line-in ls j h), length-listed line_most ls (j * line_width))))

      module _ (room : n < line_most) where
        pub room-length : n ≡ length (listed line_most ls (j * line_width))
        room-length = omega (arith, length-listed line_most ls (j * line_width))

        roomy : length (line ls j) < line_most
        roomy = omega (arith, room-length, ap length (line-in ls j h))

        entered-is : (place : List ℕ → ℕ) (x : ℕ)
            → entered place j x ls
            ≡ with_listed line_most ls (j * line_width) (put_at (place (listed line_most ls (j * line_width))) x (listed line_most ls (j * line_width)))
        entered-is place x =
            entered-in ls j x place roomy
            ∙ ap (λ (l : List ℕ). with_line ls j (put_at (place l) x l)) (line-in ls j h)
            ∙ with_line-in ls j (put_at (place (listed line_most ls (j * line_width))) x (listed line_most ls (j * line_width))) h

        pub insert-is : (place x carry k : ℕ) {now : List ℕ} → Shifted line_most ls (j * line_width) place x carry k now → n ≤ k
            → set (set now (j * line_width + 1 + k) carry) (j * line_width) (n + 1) ≡ entered (λ xs. place) j x ls
        insert-is place x carry k inv q = shifted-all line_most ls (j * line_width) place x k inv room-length q ∙ sym (entered-is (λ xs. place) x)

  pub left-past : (x : ℕ) → line_count ≤ j → ls ≡ out_of j x ls
  left-past x h = sym (left_out ls j x h)

  pub entered-past : (place : List ℕ → ℕ) (x : ℕ) → line_count ≤ j → ls ≡ entered place j x ls
  entered-past place x h = sym (entered-out ls j x place h)
