-- What the stores of `messages` mean to the mailbox whose row they are in.
use Prim.Native.Nat.{ℕ, zero, suc, ◌+◌, ◌*◌, ◌-◌, min, ◌≤◌, ◌<◌}
use mathlib.Core.Path.{◌≡◌, refl, sym, ap, ◌∙◌}
use mathlib.Core.List.{List, [], ◌∷◌, ◌++◌}
use native.Mathlib.Omega.{arith}
use borrow.Author.Tests.{lt-ltb, le-ltb, le-leb, lt-leb}
use lib.ListN.{length, take, drop, get_or, set, length-drop}
use lib.Seq.{sets, set-set, paste}
use Rattle.std.proofs.lemmas.List.Edits.{sets-eq}
use Rattle.std.specs.List.{copy_within}
use Rattle.basics.specs.Lists.{zeros, firsts, reads}
use Rattle.basics.proofs.Runs.{sets-snoc, reads-suc}
use Rattle.rules.specs.Rows.{listed, with_listed}
use Rattle.rules.specs.Tables.{mailbox_count, mailbox_width, mailbox_most, MESSAGES, mailbox, with_mailbox, messages, with_messages}
use Rattle.rules_laws.proofs.Rows.{by-range, field_in, field_out, with_field-in}
use Rattle.rules_laws.proofs.Listed.{length-listed, listed_le, at_listed, with_listed-is, listed_kept}
use Rattle.rules_laws.proofs.InPlace.{length-snoc, grown, joined_is}

-- ---- a list that loses its first: the others one place further front
firsts_are : (n : ℕ) (s : List ℕ) → n ≤ length s → firsts n s ≡ take n s
unfolding firsts
firsts_are zero s h = refl
firsts_are (suc n) [] h = absurd (omega arith)
firsts_are (suc n) (x ∷ s) h = ap (λ (r : List ℕ). x ∷ r) (firsts_are n s (omega arith))

behind-first : (t : List ℕ) (a k : ℕ) → a + 1 + k ≤ length t → drop 1 (reads t (a + 1) k) ≡ take (k - 1) (drop (a + 2) t)
unfolding reads firsts
behind-first t a zero h = refl
behind-first t a (suc k) h =
    let e : suc (a + 1) ≡ a + 2 = omega arith in
    let f : suc k - 1 ≡ k = omega arith in
    rw (reads-suc, e, f) (firsts_are k (drop (a + 2) t) (omega (arith, length-drop (a + 2) t)))

module _ (m : ℕ) (t : List ℕ) (a : ℕ) where
  ys : List ℕ
  ys = drop 1 (listed m t a)

  size : length ys ≡ length (listed m t a) - 1
  unfolding ys
  size = length-drop 1 (listed m t a)

  module _ (fits : a + m < length t) where
    -- the others as they stand
    ys-are : ys ≡ take (length ys) (drop (a + 2) t)
    unfolding ys listed
    ys-are =
        let e : min (get_or t a 0) m - 1 ≡ length ys = omega (arith, size, length-listed m t a) in
        behind-first t a (min (get_or t a 0) m) (omega arith) ∙ ap (λ (n : ℕ). take n (drop (a + 2) t)) e

    -- moved up, one more goes behind them, and their number is stored
    pub up-all : (x : ℕ) {n : ℕ} {now : List ℕ} → n ≡ length (drop 1 (listed m t a)) → now ≡ paste t (a + 1) (drop (a + 2) t) n
        → set (set now (a + 1 + n) x) a (n + 1) ≡ with_listed m t a (drop 1 (listed m t a) ++ (x ∷ []))
    unfolding ys
    up-all x {n} e f =
        let moved : paste t (a + 1) (drop (a + 2) t) n ≡ sets t (a + 1) ys =
        rw e
        (ap (λ (l : List ℕ). take (a + 1) t ++ l ++ drop (a + 1 + length ys) t) (sym ys-are)
        ∙ sym (sets-eq ys t (a + 1) (omega (arith, size, length-listed m t a)))) in
        ap (λ (l : List ℕ). set (set l (a + 1 + n) x) a (n + 1)) (f ∙ moved)
        ∙ ap (λ (l : List ℕ). set l a (n + 1)) (sets-snoc ys t (a + 1) n x (sym e))
        ∙ grown m t a (ys ++ (x ∷ [])) (omega (arith, length-snoc ys x, size)) (omega (arith, length-snoc ys x))

  -- a 0 behind them is a place given up, once their number says so
  pub up-less : 0 < length (listed m t a) → {n : ℕ} → n ≡ length (drop 1 (listed m t a))
      → set (with_listed m t a (drop 1 (listed m t a) ++ (0 ∷ []))) a n ≡ with_listed m t a (drop 1 (listed m t a))
  unfolding ys
  up-less h {n} e =
      let s : length (ys ++ (0 ∷ [])) ≡ suc (length ys) = length-snoc ys 0 in
      let one : length (listed m t a) - length ys ≡ 1 = omega (arith, size) in
      ap (λ (l : List ℕ). set l a n) (sym (grown m t a (ys ++ (0 ∷ [])) (omega (arith, size)) refl))
      ∙ set-set (sets t (a + 1) (ys ++ (0 ∷ []))) a (length (ys ++ (0 ∷ []))) n
      ∙ ap (set (sets t (a + 1) (ys ++ (0 ∷ []))) a) e
      ∙ sym (with_listed-is m t a ys ∙ ap (λ (k : ℕ). set (sets t (a + 1) (ys ++ zeros k)) a (length ys)) one)

-- ---- the messages of mailbox i
-- where their number stands
abbrev pub at : ℕ → ℕ
at i = i * mailbox_width + MESSAGES

module _ (ms : List ℕ) (i : ℕ) where
  messages-in : i < mailbox_count → messages ms i ≡ listed mailbox_most ms (at i)
  unfolding messages
  messages-in h = rw (lt-ltb i mailbox_count h)

  messages-out : mailbox_count ≤ i → messages ms i ≡ []
  unfolding messages
  messages-out h = rw (le-ltb i mailbox_count h)

  pub count-is : length (messages ms i) ≡ min (mailbox ms i MESSAGES) mailbox_most
  count-is =
      by-range i mailbox_count
      (λ h.
      ap length (messages-in h)
      ∙ length-listed mailbox_most ms (at i)
      ∙ ap (λ (n : ℕ). min n mailbox_most) (sym (field_in mailbox_width mailbox_count ms i MESSAGES h (omega arith))))
      (λ h. ap length (messages-out h) ∙ sym (ap (λ (n : ℕ). min n mailbox_most) (field_out mailbox_width mailbox_count ms i MESSAGES h)))

  pub few_behind : length (drop 1 (messages ms i)) < mailbox_most
  few_behind = omega (arith, length-drop 1 (messages ms i), count-is)

  -- who has a message has a row
  pub has-row : {n : ℕ} → n ≡ length (messages ms i) → 0 < n → i < mailbox_count
  has-row e h = by-range i mailbox_count (λ p. p) (λ p. absurd (omega (arith, ap length (messages-out p))))

  pub message-is : (k : ℕ) {n : ℕ} → n ≡ length (messages ms i) → k < n → mailbox ms i (2 + k) ≡ get_or (messages ms i) k 0
  message-is k e h =
      let q : i < mailbox_count = has-row e (omega arith) in
      let p : i * mailbox_width + (2 + k) ≡ at i + 1 + k = omega arith in
      field_in mailbox_width mailbox_count ms i (2 + k) q (omega (arith, ap length (messages-in q), listed_le mailbox_most ms (at i)))
      ∙ ap (λ (m : ℕ). get_or ms m 0) p
      ∙ at_listed mailbox_most ms (at i) k (omega (arith, ap length (messages-in q)))
      ∙ ap (λ (l : List ℕ). get_or l k 0) (sym (messages-in q))

  pub oldest-is : {n : ℕ} → n ≡ length (messages ms i) → 0 < n → mailbox ms i 2 ≡ get_or (messages ms i) 0 0
  oldest-is e h = message-is 0 e h

  -- ---- stored
  module _ (xs : List ℕ) where
    with_in : i < mailbox_count → length xs ≤ mailbox_most → with_messages ms i xs ≡ with_listed mailbox_most ms (at i) xs
    unfolding with_messages
    with_in h s = rw (lt-ltb i mailbox_count h, le-leb (length xs) mailbox_most s)

    pub with_out : mailbox_count ≤ i → with_messages ms i xs ≡ ms
    unfolding with_messages
    with_out h = rw (le-ltb i mailbox_count h)

    with-more : i < mailbox_count → mailbox_most < length xs → with_messages ms i xs ≡ ms
    unfolding with_messages
    with-more h s = rw (lt-ltb i mailbox_count h, lt-leb (length xs) mailbox_most s)

  module _ (h : i < mailbox_count) where
    -- a change of the list in the row is that change of the messages
    stored : (f : List ℕ → List ℕ) → length (f (listed mailbox_most ms (at i))) ≤ mailbox_most
        → with_listed mailbox_most ms (at i) (f (listed mailbox_most ms (at i))) ≡ with_messages ms i (f (messages ms i))
    stored f s = sym (ap (λ (l : List ℕ). with_messages ms i (f l)) (messages-in h) ∙ with_in (f (listed mailbox_most ms (at i))) h s)

    pub put_is : (x : ℕ) {n : ℕ} → n ≡ get_or ms (at i) 0 → n < mailbox_most
        → set (set ms (at i + 1 + n) x) (at i) (n + 1) ≡ with_messages ms i (messages ms i ++ (x ∷ []))
    put_is x {n} e s =
        let k : n ≡ length (listed mailbox_most ms (at i)) = omega (arith, length-listed mailbox_most ms (at i)) in
        joined_is mailbox_most ms (at i) x k refl
        ∙ stored (λ l. l ++ (x ∷ [])) (omega (arith, length-snoc (listed mailbox_most ms (at i)) x))

    pub full_is : (x : ℕ) {n : ℕ} → n ≡ get_or ms (at i) 0 → mailbox_most ≤ n → ms ≡ with_messages ms i (messages ms i ++ (x ∷ []))
    full_is x e s =
        sym
        (with-more (messages ms i ++ (x ∷ [])) h
        (omega (arith, length-snoc (messages ms i) x, ap length (messages-in h), length-listed mailbox_most ms (at i))))

    pub listed-behind : {n : ℕ} → n ≡ length (drop 1 (messages ms i)) → n ≡ length (drop 1 (listed mailbox_most ms (at i)))
    listed-behind e = e ∙ ap (λ (l : List ℕ). length (drop 1 l)) (messages-in h)

    pub behind-le : length (drop 1 (listed mailbox_most ms (at i))) < mailbox_most
    behind-le = omega (arith, length-drop 1 (listed mailbox_most ms (at i)), listed_le mailbox_most ms (at i))

    pub shift_is : length ms ≡ mailbox_count * mailbox_width → (x : ℕ) {n : ℕ} {now : List ℕ} → n ≡ length (drop 1 (messages ms i))
        → now ≡ copy_within ms (at i + 2) (at i + 2 + n) (at i + 1)
        → set (set now (at i + 1 + n) x) (at i) (n + 1) ≡ with_messages ms i (drop 1 (messages ms i) ++ (x ∷ []))
    shift_is size x {n} e f =
        let z : at i + 2 + n - (at i + 2) ≡ n = omega arith in
        up-all mailbox_most ms (at i) (omega arith) x (listed-behind e) (rw z at f)
        ∙ stored (λ l. drop 1 l ++ (x ∷ [])) (omega (arith, length-snoc (drop 1 (listed mailbox_most ms (at i))) x, behind-le))

  -- ---- taken: shifted with a 0, then one less
  pub take-is : {n : ℕ} {os₁ os₂ : List ℕ} → n ≡ length (messages ms i) → 0 < n → os₁ ≡ with_messages ms i (drop 1 (messages ms i) ++ (0 ∷ []))
      → os₂ ≡ with_mailbox os₁ i MESSAGES (n - 1) → os₂ ≡ with_messages ms i (drop 1 (messages ms i))
  take-is {n} {os₁} e p f g =
      let h : i < mailbox_count = has-row e p in
      let xs : List ℕ = listed mailbox_most ms (at i) in
      let s : n ≡ length xs = e ∙ ap length (messages-in h) in
      let q : n - 1 ≡ length (drop 1 xs) = omega (arith, length-drop 1 xs) in
      g
      ∙ with_field-in mailbox_width mailbox_count os₁ i MESSAGES (n - 1) h (omega arith)
      ∙ ap (λ (l : List ℕ). set l (at i) (n - 1))
      (f ∙ sym (stored h (λ l. drop 1 l ++ (0 ∷ [])) (omega (arith, length-snoc (drop 1 xs) 0, behind-le h))))
      ∙ up-less mailbox_most ms (at i) (omega arith) q
      ∙ stored h (λ l. drop 1 l) (omega (arith, behind-le h))

  pub none_is : {n : ℕ} → n ≡ length (messages ms i) → n ≤ 0 → ms ≡ with_messages ms i (drop 1 (messages ms i))
  none_is e p =
      by-range i mailbox_count
      (λ h.
      let xs : List ℕ = listed mailbox_most ms (at i) in
      let s : length xs ≡ 0 = omega (arith, ap length (messages-in h)) in
      let z : get_or ms (at i) 0 ≤ mailbox_most = omega (arith, length-listed mailbox_most ms (at i)) in
      sym (listed_kept mailbox_most ms (at i) z)
      ∙ ap (with_listed mailbox_most ms (at i)) (sym (nothing xs s))
      ∙ stored h (λ l. drop 1 l) (omega (arith, behind-le h)))
      (λ h. sym (with_out (drop 1 (messages ms i)) h))
    where
      nothing : (xs : List ℕ) → length xs ≡ 0 → drop 1 xs ≡ xs
      nothing [] s = refl
      nothing (x ∷ xs) s = absurd (omega arith)

-- ---- what the check is given at the functions of `messages`
pub ruleset counted = (count-is)

pub ruleset read = (oldest-is)

pub ruleset joined = (put_is, full_is, with_out)

pub ruleset shifted = (few_behind, shift_is, with_out)

pub ruleset taken = (count-is, take-is, none_is)
