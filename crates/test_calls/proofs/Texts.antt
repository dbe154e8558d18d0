-- A line whose end is written over by the rest of it.
use Prim.Native.Nat.{ℕ, suc, ◌+◌, ◌-◌, ◌≤◌}
use mathlib.Core.Path.{◌≡◌, ap, ◌∙◌}
use mathlib.Core.List.{List, [], ◌∷◌, ◌++◌, append_assoc}
use native.Mathlib.Omega.{arith}
use lib.ListN.{length, length-append, length-take}
use lib.Seq.{sets, set-set}
use Rattle.basics.proofs.Runs.{sets-append}
use Rattle.rules.specs.Text.{line_feed}
use Rattle.text.specs.Put.{fitting, Put}
use Rattle.text.proofs.Puts.{fits, put-more}

over-one : (xs : List ℕ) (at b : ℕ) (u : List ℕ) → 1 ≤ length u → sets (sets xs at (b ∷ [])) at u ≡ sets xs at u
over-one xs at b [] h = absurd (omega arith)
over-one xs at b (c ∷ u) h = ap (λ (l : List ℕ). sets l (suc at) u) (set-set xs at b c)

-- something fits behind a short line
some_fits : (s t : List ℕ) → length s ≤ 105 → 1 ≤ length (fitting 16384 (length s) (t ++ line_feed))
unfolding fitting
some_fits s t h = omega (arith, length-take (16384 - length s) (t ++ line_feed), length-append t line_feed)

module _ {xs ys : List ℕ} {r : ℕ} (s : List ℕ) (h : length (s ++ line_feed) ≤ 106) (p : Put xs 0 (s ++ line_feed) ys r) where
  short : length s ≤ 105
  short = omega (arith, length-append s line_feed)

  ends : r ≡ length s + 1
  ends = omega (arith, p.end, ap length (fits 16384 0 (s ++ line_feed) (omega arith)), length-append s line_feed)

  pub some : 1 ≤ r
  some = omega (arith, ends)

  at-end : r - 1 ≡ length s
  at-end = omega (arith, ends)

  written : ys ≡ sets (sets xs 0 s) (length s) line_feed
  written =
      let z : length s ≡ 0 + length s = omega arith in
      p.bytes ∙ rw (fits 16384 0 (s ++ line_feed) (omega arith)) (rw z (sets-append s line_feed xs 0))

  first : Put xs 0 s (sets xs 0 s) (length s)
  first = let e = fits 16384 0 s (omega (arith, short)) in record { bytes = rw e; end = rw e (omega arith) }

  pub put-over : (t : List ℕ) {zs : List ℕ} {q : ℕ} → Put ys (r - 1) (t ++ line_feed) zs q → Put xs 0 ((s ++ t) ++ line_feed) zs q
  put-over t {zs} {q} n =
      let m : Put (sets xs 0 s) (length s) (t ++ line_feed) zs q = record {
        bytes = n.bytes ∙ rw (at-end, written) (over-one (sets xs 0 s) (length s) 10 (fitting 16384 (length s) (t ++ line_feed)) (some_fits s t short));
        end = n.end ∙ rw at-end;
      } in
      rw append_assoc (put-more first m)
