-- A mailbox's row: its rule by its words, and what is read after its messages are stored, in the row and in others.
use Prim.Native.Nat.{ℕ, suc, ◌+◌, ◌*◌, min, ◌<◌, ◌≤◌}
use mathlib.Core.Path.{◌≡◌, sym, ap, ◌∙◌}
use mathlib.Core.Logic.{◌≢◌, ◌⊎◌, inl, inr, ⊎_elim}
use mathlib.Core.List.{List}
use native.Mathlib.Omega.{arith}
use borrow.Author.Tests.{lt-ltb, le-leb}
use lib.ListN.{length, get_or}
use Rattle.basics.specs.Rule.{Rule, ◌is◌, ◌and◌, ◌gives◌, every, Means}
use Rattle.basics.proofs.Laws.{lt-or-le}
use Rattle.rules.specs.Rows.{with_listed}
use Rattle.rules.specs.Tables.{mailbox_count, mailbox_width, mailbox_most, reading, writing, task, mailbox, messages, with_messages, CAPACITY, MESSAGES}
use Rattle.rules.specs.Lines.{mailbox_line, line}
use Rattle.rules.specs.Sound.{mailbox_rule}
use Rattle.rules_laws.proofs.Rows.{by-range, row-end, field_in, field_out, field_past}
use Rattle.rules_laws.proofs.Listed.{length-listed, length-with_listed, listed-away, length-there}
use Rattle.demand_2_soundness.proofs.Stored.{Clear, behind-clear, clear_behind, clear-same}

-- where the number of messages of mailbox i stands, and after it the messages
abbrev at : ℕ → ℕ
at i = i * mailbox_width + 1

-- "Readers wait only at an empty mailbox, writers only at a full one."
abbrev pub waiters_rule : List ℕ → List ℕ → ℕ → ℕ → Rule
waiters_rule ts xs n capacity = every xs (λ x. ((task ts x).mode is reading gives n is 0) and ((task ts x).mode is writing gives n is capacity))

-- ---- the rule of one mailbox, by its words
pub record Row (ts ls ms : List ℕ) (i : ℕ) : Type 0 where
  pub range : mailbox ms i CAPACITY < suc mailbox_most
  pub held : mailbox ms i MESSAGES < suc (mailbox ms i CAPACITY)
  pub behind : (k : ℕ) → mailbox ms i MESSAGES ≤ k → k < mailbox_most → mailbox ms i (suc (suc k)) ≡ 0
  pub free : mailbox ms i CAPACITY ≡ 0 → length (line ls (mailbox_line i)) ≡ 0
  pub waiters : Means (waiters_rule ts (line ls (mailbox_line i)) (mailbox ms i MESSAGES) (mailbox ms i CAPACITY))

-- the words behind the messages
module _ (ms : List ℕ) (i : ℕ) (lt : i < mailbox_count) where
  number_at : mailbox ms i MESSAGES ≡ get_or ms (at i) 0
  number_at = field_in mailbox_width mailbox_count ms i MESSAGES lt (omega arith)

  word_at : (k : ℕ) → k < mailbox_most → mailbox ms i (suc (suc k)) ≡ get_or ms (at i + 1 + k) 0
  word_at k h =
      let e : i * mailbox_width + suc (suc k) ≡ at i + 1 + k = omega arith in
      field_in mailbox_width mailbox_count ms i (suc (suc k)) lt (omega arith) ∙ ap (λ (p : ℕ). get_or ms p 0) e

  pub row-parts : (ts ls : List ℕ) → Means (mailbox_rule ts ms ls i) → Row ts ls ms i
  unfolding mailbox_rule
  row-parts ts ls (range, (held, (clear, (free, waiters)))) =
      record {
        range = range;
        held = held;
        behind = λ k low high. word_at k high ∙ behind-clear mailbox_most ms (at i) clear k (omega (arith, number_at)) high;
        free = free;
        waiters = waiters;
      }

  pub row-rule : (ts ls : List ℕ) → Row ts ls ms i → Means (mailbox_rule ts ms ls i)
  unfolding mailbox_rule
  row-rule ts ls r =
      let clear : Clear mailbox_most ms (at i) =
      λ k low high. sym (word_at k high) ∙ r.behind k (omega (arith, number_at, r.held, r.range)) high in
      (r.range, (r.held, (clear_behind mailbox_most ms (at i) clear, (r.free, r.waiters))))

-- another table with the same words in the row
pub row-same-words : (ts ls ms ms' : List ℕ) (i : ℕ) → ((f : ℕ) → mailbox ms' i f ≡ mailbox ms i f) → Row ts ls ms i → Row ts ls ms' i
row-same-words ts ls ms ms' i same r =
    record {
      range = rw (same 0) r.range;
      held = rw (same 0, same 1) r.held;
      behind = λ k low high. same (suc (suc k)) ∙ r.behind k (rw (same 1) at low) high;
      free = λ e. r.free (sym (same 0) ∙ e);
      waiters = rw (same 0, same 1) r.waiters;
    }

-- ---- after the messages of mailbox i are stored
module _ (ms : List ℕ) (i : ℕ) (lt : i < mailbox_count) (xs : List ℕ) (short : length xs ≤ mailbox_most) where
  stored : with_messages ms i xs ≡ with_listed mailbox_most ms (at i) xs
  unfolding with_messages
  stored = rw (lt-ltb i mailbox_count lt, le-leb (length xs) mailbox_most short)

  pub length-stored : length (with_messages ms i xs) ≡ length ms
  length-stored = ap length stored ∙ length-with_listed mailbox_most ms (at i) xs

  -- a word outside them
  word-away : (k f : ℕ) → (k < mailbox_count → f < mailbox_width → (k * mailbox_width + f < at i) ⊎ (at i + mailbox_most < k * mailbox_width + f))
      → mailbox (with_messages ms i xs) k f ≡ mailbox ms k f
  word-away k f apart =
      by-range k mailbox_count
      (λ p.
      by-range f mailbox_width
      (λ q.
      field_in mailbox_width mailbox_count (with_messages ms i xs) k f p q
      ∙ ap (λ (l : List ℕ). get_or l (k * mailbox_width + f) 0) stored
      ∙ listed-away mailbox_most ms (at i) xs short (k * mailbox_width + f) (apart p q)
      ∙ sym (field_in mailbox_width mailbox_count ms k f p q))
      (λ q. field_past mailbox_width mailbox_count (with_messages ms i xs) k f q ∙ sym (field_past mailbox_width mailbox_count ms k f q)))
      (λ p. field_out mailbox_width mailbox_count (with_messages ms i xs) k f p ∙ sym (field_out mailbox_width mailbox_count ms k f p))

  pub stored_other : (k f : ℕ) → k ≢ i → mailbox (with_messages ms i xs) k f ≡ mailbox ms k f
  stored_other k f n =
      word-away k f
      (λ p q.
      ⊎_elim
      (λ (l : k < i). inl (omega (arith, row-end mailbox_width k i l)))
      (λ (l : i ≤ k). inr (let m : i < k = omega arith in omega (arith, row-end mailbox_width i k m)))
      (lt-or-le k i))

  pub stored-capacity : mailbox (with_messages ms i xs) i CAPACITY ≡ mailbox ms i CAPACITY
  stored-capacity = word-away i CAPACITY (λ p q. inl (omega arith))

  module _ (all : length ms ≡ mailbox_count * mailbox_width) where
    fits : at i + mailbox_most < length ms
    fits = omega (arith, row-end mailbox_width i mailbox_count lt)

    pub stored-number : mailbox (with_messages ms i xs) i MESSAGES ≡ length xs
    stored-number =
        number_at (with_messages ms i xs) i lt
        ∙ ap (λ (l : List ℕ). get_or l (at i) 0) stored
        ∙ length-there mailbox_most ms (at i) xs short fits

    pub stored_row : (ts ls : List ℕ) → Row ts ls ms i → length xs ≤ mailbox ms i CAPACITY
        → Means (waiters_rule ts (line ls (mailbox_line i)) (length xs) (mailbox ms i CAPACITY))
        → Row ts ls (with_messages ms i xs) i
    stored_row ts ls r room waits =
        record {
          range = rw stored-capacity r.range;
          held = rw (stored-capacity, stored-number) (omega arith);
          behind =
              λ k low high.
              word_at (with_messages ms i xs) i lt k high ∙ clear k (omega (arith, stored-number, number_at (with_messages ms i xs) i lt)) high;
          free = λ e. r.free (sym stored-capacity ∙ e);
          waiters = rw (stored-capacity, stored-number) waits;
        }
      where
        clear : Clear mailbox_most (with_messages ms i xs) (at i)
        clear =
            rw stored
            (clear-same mailbox_most ms (at i) xs short fits
            (λ k low high. sym (word_at ms i lt k high) ∙ r.behind k (omega (arith, number_at ms i lt, r.held, r.range)) high))

-- how many messages there are
pub held-is : (ms : List ℕ) (i : ℕ) → i < mailbox_count → mailbox ms i MESSAGES ≤ mailbox_most → length (messages ms i) ≡ mailbox ms i MESSAGES
unfolding messages
held-is ms i lt h =
    let e : min (get_or ms (at i) 0) mailbox_most ≡ mailbox ms i MESSAGES = omega (arith, number_at ms i lt) in
    rw (lt-ltb i mailbox_count lt) (length-listed mailbox_most ms (at i) ∙ e)
