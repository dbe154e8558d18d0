-- A list kept in a row, over the most m that it has room for and the place a of its length: what is read after it is stored, there and elsewhere.
use Prim.Native.Nat.{ℕ, ◌+◌, ◌-◌, min, ◌≤◌, ◌<◌}
use mathlib.Core.Path.{◌≡◌, refl, sym, ap, ◌∙◌}
use mathlib.Core.Logic.{◌⊎◌, inl, inr, ⊎_elim}
use mathlib.Core.List.{List, ◌++◌, append-nil}
use native.Mathlib.Omega.{arith}
use lib.ListN.{length, take, get_or, set, length-set, length-append, length-replicate, get_or-replicate, get_or-eq_default}
use lib.Seq.{sets, length-sets, set-get_or, get_or-set_same, get_or-set_other, take_at, get_or-append-add}
use Rattle.basics.specs.Lists.{zeros, reads}
use Rattle.basics.proofs.Runs.{length-reads, get_or-reads, take-reads, reads_same, sets-reads, reads-sets, get_or-sets-out, get_or-sets-in}
use Rattle.rules.specs.Rows.{listed, with_listed}
use Rattle.rules_laws.proofs.Rows.{by-range}

pub zero-at : (n i : ℕ) → get_or (zeros n) i 0 ≡ 0
zero-at n i =
    by-range i n
    (λ (p : i < n). get_or-replicate n i 0 0 p)
    (λ (p : n ≤ i). get_or-eq_default (zeros n) 0 {n = i} (omega (arith, length-replicate {A = ℕ} n 0)))

-- ---- what is there
module _ (m : ℕ) (t : List ℕ) (a : ℕ) where
  pub length-listed : length (listed m t a) ≡ min (get_or t a 0) m
  unfolding listed
  length-listed = length-reads (min (get_or t a 0) m) t (a + 1)

  pub listed_le : length (listed m t a) ≤ m
  listed_le = omega (arith, length-listed)

  pub at_listed : (k : ℕ) → k < length (listed m t a) → get_or t (a + 1 + k) 0 ≡ get_or (listed m t a) k 0
  unfolding listed
  at_listed k h = sym (get_or-reads (min (get_or t a 0) m) k t (a + 1) (omega (arith, length-listed)))

  pub front-listed : (k : ℕ) → k ≤ length (listed m t a) → take k (listed m t a) ≡ reads t (a + 1) k
  unfolding listed
  front-listed k h = take-reads k (min (get_or t a 0) m) t (a + 1) (omega (arith, length-listed))

  -- the members stored where they stand
  pub sets-listed : sets t (a + 1) (listed m t a) ≡ t
  unfolding listed
  sets-listed = sets-reads (min (get_or t a 0) m) t (a + 1)

  pub with_listed-is : (xs : List ℕ) → with_listed m t a xs ≡ set (sets t (a + 1) (xs ++ zeros (length (listed m t a) - length xs))) a (length xs)
  unfolding with_listed
  with_listed-is xs = rw length-listed

  pub length-with_listed : (xs : List ℕ) → length (with_listed m t a xs) ≡ length t
  unfolding with_listed
  length-with_listed xs = simp (length-set, length-sets)

  -- the list that is there stored again, where no more than m are said to be there
  pub listed_kept : get_or t a 0 ≤ m → with_listed m t a (listed m t a) ≡ t
  listed_kept h =
      let n : ℕ = length (listed m t a) in
      let z : n - n ≡ 0 = omega arith in
      let e : n ≡ get_or t a 0 = omega (arith, length-listed) in
      with_listed-is (listed m t a)
      ∙ ap (λ (k : ℕ). set (sets t (a + 1) (listed m t a ++ zeros k)) a n) z
      ∙ ap (λ (l : List ℕ). set (sets t (a + 1) l) a n) (append-nil (listed m t a))
      ∙ ap (λ (l : List ℕ). set l a n) sets-listed
      ∙ ap (set t a) e
      ∙ set-get_or t a 0

-- ---- after a list is stored
module _ (m : ℕ) (t : List ℕ) (a : ℕ) (xs : List ℕ) (short : length xs ≤ m) where
  vs : List ℕ
  vs = xs ++ zeros (length (listed m t a) - length xs)

  vs-length : length vs ≡ length xs + (length (listed m t a) - length xs)
  unfolding vs
  vs-length = simp (length-append, length-replicate)

  vs-le : length vs ≤ m
  vs-le = omega (arith, vs-length, listed_le m t a)

  -- outside its places nothing changes
  pub listed-away : (p : ℕ) → (p < a) ⊎ (a + m < p) → get_or (with_listed m t a xs) p 0 ≡ get_or t p 0
  unfolding vs
  listed-away p h =
      ap (λ (l : List ℕ). get_or l p 0) (with_listed-is m t a xs)
      ∙ get_or-set_other (sets t (a + 1) vs) a p (length xs) 0 (λ (e : p ≡ a). ⊎_elim (λ (q : p < a). omega arith) (λ (q : a + m < p). omega arith) h)
      ∙ get_or-sets-out vs t (a + 1) p (⊎_elim (λ (q : p < a). inl (omega arith)) (λ (q : a + m < p). inr (omega (arith, vs-le))) h)

  -- a list at another place
  pub listed-other : (n b : ℕ) → (b + n < a) ⊎ (a + m < b) → listed n (with_listed m t a xs) b ≡ listed n t b
  unfolding listed
  listed-other n b h =
      ap (λ (k : ℕ). reads (with_listed m t a xs) (b + 1) (min k n)) (listed-away b (⊎_elim (λ (q : b + n < a). inl (omega arith)) (λ (q : a + m < b). inr q) h))
      ∙ reads_same (min (get_or t b 0) n) (with_listed m t a xs) t (b + 1)
      (λ k l. listed-away (b + 1 + k) (⊎_elim (λ (q : b + n < a). inl (omega arith)) (λ (q : a + m < b). inr (omega arith)) h))

  module _ (fits : a + m < length t) where
    pub length-there : get_or (with_listed m t a xs) a 0 ≡ length xs
    unfolding vs
    length-there =
        ap (λ (l : List ℕ). get_or l a 0) (with_listed-is m t a xs) ∙ get_or-set_same (sets t (a + 1) vs) a (length xs) 0 (omega (arith, length-sets t (a + 1) vs))

    pub listed_same : listed m (with_listed m t a xs) a ≡ xs
    unfolding listed vs
    listed_same =
        let s : min (get_or (with_listed m t a xs) a 0) m ≡ length xs = omega (arith, length-there) in
        ap (reads (with_listed m t a xs) (a + 1)) s
        ∙ ap (λ (l : List ℕ). reads l (a + 1) (length xs)) (with_listed-is m t a xs)
        ∙ reads_same (length xs) (set (sets t (a + 1) vs) a (length xs)) (sets t (a + 1) vs) (a + 1)
        (λ k h. get_or-set_other (sets t (a + 1) vs) a (a + 1 + k) (length xs) 0 (λ e. omega arith))
        ∙ sym (take-reads (length xs) (length vs) (sets t (a + 1) vs) (a + 1) (omega (arith, vs-length)))
        ∙ ap (take (length xs)) (reads-sets vs t (a + 1) (omega (arith, vs-le)))
        ∙ take_at xs (zeros (length (listed m t a) - length xs)) (length xs) refl

    -- zeros behind it stay zeros
    pub behind-same : ((k : ℕ) → length (listed m t a) ≤ k → k < m → get_or t (a + 1 + k) 0 ≡ 0)
        → (k : ℕ) → length xs ≤ k → k < m → get_or (with_listed m t a xs) (a + 1 + k) 0 ≡ 0
    unfolding vs
    behind-same clear k low high =
        ap (λ (l : List ℕ). get_or l (a + 1 + k) 0) (with_listed-is m t a xs)
        ∙ get_or-set_other (sets t (a + 1) vs) a (a + 1 + k) (length xs) 0 (λ e. omega arith)
        ∙ by-range k (length vs)
        (λ h.
        let e : k ≡ length xs + (k - length xs) = omega arith in
        get_or-sets-in vs t (a + 1) k (omega (arith, vs-le)) h
        ∙ ap (λ (i : ℕ). get_or vs i 0) e
        ∙ get_or-append-add xs (zeros (length (listed m t a) - length xs)) (k - length xs) 0
        ∙ zero-at (length (listed m t a) - length xs) (k - length xs))
        (λ h. get_or-sets-out vs t (a + 1) (a + 1 + k) (inr (omega arith)) ∙ clear k (omega (arith, vs-length)) high)
