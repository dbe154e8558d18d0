-- Runs of reads and of stores, over any list: none asks for its length but `reads-sets`.
use Prim.Native.Nat.{ℕ, zero, suc, ◌+◌, ◌≤◌, ◌<◌}
use mathlib.Core.Path.{◌≡◌, refl, sym, ap, ◌∙◌}
use mathlib.Core.Logic.{◌⊎◌, inl, inr, ⊎_elim}
use mathlib.Core.List.{List, [], ◌∷◌, ◌++◌}
use native.Mathlib.Nat.{add-zero}
use native.Mathlib.Omega.{arith}
use lib.ListN.{length, take, drop, get_or, set, length-set}
use lib.Seq.{get_or-drop, sets, set_comm, set-set, set-get_or, get_or-set_same, get_or-set_other}
use Rattle.basics.specs.Lists.{firsts, reads}

-- a run of stores changes nothing outside it
pub get_or-sets-out : (vs l : List ℕ) (i k : ℕ) → (k < i) ⊎ (i + length vs ≤ k) → get_or (sets l i vs) k 0 ≡ get_or l k 0
get_or-sets-out [] l i k h = refl
get_or-sets-out (v ∷ vs) l i k h =
    get_or-sets-out vs (set l i v) (suc i) k (⊎_elim (λ (p : k < i). inl (omega arith)) (λ (p : i + suc (length vs) ≤ k). inr (omega arith)) h)
    ∙ get_or-set_other l i k v 0 (λ (e : k ≡ i). ⊎_elim (λ (p : k < i). omega arith) (λ (p : i + suc (length vs) ≤ k). omega arith) h)

-- ---- reads, one entry at a time
pub firsts-none : (n : ℕ) (t : List ℕ) → firsts (suc n) t ≡ get_or t 0 0 ∷ firsts n (drop 1 t)
unfolding firsts
firsts-none n [] = refl
firsts-none n (x ∷ t) = refl

drop-suc : (a : ℕ) (t : List ℕ) → drop 1 (drop a t) ≡ drop (suc a) t
drop-suc zero t = refl
drop-suc (suc a) [] = refl
drop-suc (suc a) (x ∷ t) = drop-suc a t

pub reads-suc : (n : ℕ) (t : List ℕ) (a : ℕ) → reads t a (suc n) ≡ get_or t a 0 ∷ reads t (suc a) n
unfolding reads
reads-suc n t a = firsts-none n (drop a t) ∙ rw (get_or-drop a t 0 0, drop-suc a t, add-zero a)

pub reads-zero : (t : List ℕ) (a : ℕ) → reads t a 0 ≡ []
unfolding reads firsts
reads-zero t a = refl

pub length-reads : (n : ℕ) (t : List ℕ) (a : ℕ) → length (reads t a n) ≡ n
length-reads zero t a = rw reads-zero
length-reads (suc n) t a = rw reads-suc (ap suc (length-reads n t (suc a)))

pub get_or-reads : (n k : ℕ) (t : List ℕ) (a : ℕ) → k < n → get_or (reads t a n) k 0 ≡ get_or t (a + k) 0
get_or-reads zero k t a h = absurd (omega arith)
get_or-reads (suc n) zero t a h = rw reads-suc (ap (λ (i : ℕ). get_or t i 0) (omega arith))
get_or-reads (suc n) (suc k) t a h = rw reads-suc (get_or-reads n k t (suc a) (omega arith) ∙ ap (λ (i : ℕ). get_or t i 0) (omega arith))

pub take-reads : (k n : ℕ) (t : List ℕ) (a : ℕ) → k ≤ n → take k (reads t a n) ≡ reads t a k
take-reads zero n t a h = sym (reads-zero t a)
take-reads (suc k) zero t a h = absurd (omega arith)
take-reads (suc k) (suc n) t a h = rw (reads-suc n, reads-suc k) (ap (λ (r : List ℕ). get_or t a 0 ∷ r) (take-reads k n t (suc a) (omega arith)))

-- the same entries
pub reads_same : (n : ℕ) (t s : List ℕ) (a : ℕ) → ((k : ℕ) → k < n → get_or t (a + k) 0 ≡ get_or s (a + k) 0) → reads t a n ≡ reads s a n
reads_same zero t s a e = reads-zero t a ∙ sym (reads-zero s a)
reads_same (suc n) t s a e =
    let p : a + 0 ≡ a = omega arith in
    let f : get_or t a 0 ≡ get_or s a 0 = rw p at (e 0 (omega arith)) in
    reads-suc n t a
    ∙ rw f (ap (λ (r : List ℕ). get_or s a 0 ∷ r) (reads_same n t s (suc a) (λ k h. let q : a + suc k ≡ suc a + k = omega arith in rw q at (e (suc k) (omega arith)))))
    ∙ sym (reads-suc n s a)

-- ---- stores
pub sets-append : (vs ws l : List ℕ) (i : ℕ) → sets l i (vs ++ ws) ≡ sets (sets l i vs) (i + length vs) ws
sets-append [] ws l i = ap (λ (p : ℕ). sets l p ws) (omega arith)
sets-append (v ∷ vs) ws l i = sets-append vs ws (set l i v) (suc i) ∙ ap (λ (p : ℕ). sets (sets (set l i v) (suc i) vs) p ws) (omega arith)

-- a store right behind the run is the run's next
pub sets-snoc : (vs l : List ℕ) (i k v : ℕ) → length vs ≡ k → set (sets l i vs) (i + k) v ≡ sets l i (vs ++ (v ∷ []))
sets-snoc vs l i k v e = rw (← e) (sym (sets-append vs (v ∷ []) l i))

-- a store in front of the run may come first
pub set-sets : (vs l : List ℕ) (i p v : ℕ) → p < i → set (sets l i vs) p v ≡ sets (set l p v) i vs
set-sets [] l i p v h = refl
set-sets (w ∷ vs) l i p v h =
    set-sets vs (set l i w) (suc i) p v (omega arith) ∙ ap (λ (t : List ℕ). sets t (suc i) vs) (set_comm l i p w v (λ (e : i ≡ p). omega arith))

-- a store into the run
pub sets-set : (vs l : List ℕ) (i k v : ℕ) → k < length vs → set (sets l i vs) (i + k) v ≡ sets l i (set vs k v)
sets-set [] l i k v h = absurd (omega arith)
sets-set (w ∷ vs) l i zero v h =
    let p : i + 0 ≡ i = omega arith in
    rw p (set-sets vs (set l i w) (suc i) i v (omega arith) ∙ ap (λ (t : List ℕ). sets t (suc i) vs) (set-set l i w v))
sets-set (w ∷ vs) l i (suc k) v h = let p : i + suc k ≡ suc i + k = omega arith in rw p (sets-set vs (set l i w) (suc i) k v (omega arith))

-- what stands there stored again
pub sets-reads : (n : ℕ) (t : List ℕ) (a : ℕ) → sets t a (reads t a n) ≡ t
sets-reads zero t a = rw reads-zero
sets-reads (suc n) t a = rw reads-suc (ap (λ (s : List ℕ). sets s (suc a) (reads t (suc a) n)) (set-get_or t a 0) ∙ sets-reads n t (suc a))

pub reads-sets : (vs l : List ℕ) (i : ℕ) → i + length vs ≤ length l → reads (sets l i vs) i (length vs) ≡ vs
reads-sets [] l i h = reads-zero l i
reads-sets (v ∷ vs) l i h =
    let e : get_or (sets (set l i v) (suc i) vs) i 0 ≡ v = get_or-sets-out vs (set l i v) (suc i) i (inl (omega arith)) ∙ get_or-set_same l i v 0 (omega arith) in
    reads-suc (length vs) (sets (set l i v) (suc i) vs) i
    ∙ rw e (ap (λ (r : List ℕ). v ∷ r) (reads-sets vs (set l i v) (suc i) (omega (arith, length-set l i v))))

-- a read in the run
pub get_or-sets-in : (vs l : List ℕ) (i k : ℕ) → i + length vs ≤ length l → k < length vs → get_or (sets l i vs) (i + k) 0 ≡ get_or vs k 0
get_or-sets-in vs l i k h q =
    sym (get_or-reads (length vs) k (sets l i vs) i q) ∙ ap (λ (r : List ℕ). get_or r k 0) (reads-sets vs l i h)
