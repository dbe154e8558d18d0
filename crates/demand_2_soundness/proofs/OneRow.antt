-- One row of a table changes. Its own rule is shown of the words that are read after the write; the other rows' words stay, and so do their rules.
-- In this order: any table's rule; an object of some kind, a semaphore, an event or a mailbox, in tables from which dispatch starts.
use Prim.Native.Nat.{ℕ, ◌*◌, ◌<◌, ◌≤◌}
use mathlib.Core.Path.{◌≡◌}
use mathlib.Core.Logic.{◌≢◌, ⊎_elim}
use mathlib.Core.List.{List}
use native.Mathlib.Omega.{arith}
use lib.ListN.{length, get_or}
use Rattle.basics.specs.Rule.{Rule, each, Means}
use Rattle.basics.proofs.Laws.{same?}
use Rattle.rules.specs.Rows.{field, with_field, with_row}
use Rattle.rules.specs.declared.Tables.{Tables}
use Rattle.rules_laws.proofs.Rows.{length-with_row, row_same, row_other, length-with_field, field-same, field-other, field_row}
use Rattle.demand_2_soundness.proofs.Groups.{Settling}

-- ---- a table's rule after a change of one row
pub each-but : (n i : ℕ) (f g : ℕ → Rule) → ((k : ℕ) → k < n → k ≢ i → Means (f k) → Means (g k)) → (i < n → Means (g i))
    → Means (each n f) → Means (each n g)
each-but n i f g others row all k h = ⊎_elim (λ (e : k ≡ i). rw e (row (rw e at h))) (λ (m : k ≢ i). others k h m (all k h)) (same? k i)

-- ---- objects of one kind
-- their table, the rule of a row, and all tables with another table in its place. A row with the same words keeps its rule, and with every row's rule
-- these are tables from which dispatch starts
pub record OfKind : Type 0 where
  pub width : ℕ
  pub count : ℕ
  pub table : List ℕ
  pub rule : List ℕ → ℕ → Rule
  pub put : List ℕ → Tables
  pub sized : length table ≡ count * width
  pub rules : Means (each count (rule table))
  pub by_words : (new : List ℕ) (k : ℕ) → k < count → ((f : ℕ) → field width count new k f ≡ field width count table k f)
      → Means (rule table k) → Means (rule new k)
  pub settles : (new : List ℕ) → length new ≡ length table → Means (each count (rule new)) → Settling (put new)

module _ (width count : ℕ) (table : List ℕ) (rule : List ℕ → ℕ → Rule) (put : List ℕ → Tables) where
  abbrev pub of_kind : length table ≡ count * width → Means (each count (rule table))
      → ((new : List ℕ) (k : ℕ) → k < count → ((f : ℕ) → field width count new k f ≡ field width count table k f) → Means (rule table k) → Means (rule new k))
      → ((new : List ℕ) → length new ≡ length table → Means (each count (rule new)) → Settling (put new))
      → OfKind
  of_kind sized rules by_words settles =
      record {
        width = width;
        count = count;
        table = table;
        rule = rule;
        put = put;
        sized = sized;
        rules = rules;
        by_words = by_words;
        settles = settles;
      }

-- word f of row i of such a table; theirs with row i, or one word of it, written anew
abbrev pub word : OfKind → List ℕ → ℕ → ℕ → ℕ
word o t i f = field o.width o.count t i f

abbrev row_put : OfKind → ℕ → List ℕ → List ℕ
row_put o i ws = with_row o.width o.count o.table i ws

abbrev word_put : OfKind → ℕ → ℕ → ℕ → List ℕ
word_put o i f x = with_field o.width o.count o.table i f x

-- object i changes: in any way that leaves the other rows; its whole row; one word of it
module _ (o : OfKind) (i : ℕ) (lt : i < o.count) where
  pub object-changes : (new : List ℕ) → length new ≡ length o.table → ((k f : ℕ) → k ≢ i → word o new k f ≡ word o o.table k f)
      → Means (o.rule new i) → Settling (o.put new)
  object-changes new whole others row =
      o.settles new whole
      (each-but o.count i (o.rule o.table) (o.rule new) (λ k h n. o.by_words new k h (λ f. others k f n)) (λ _. row) o.rules)

  pub row-changes : (ws : List ℕ) → length ws ≤ o.width
      → (((f : ℕ) → f < length ws → word o (row_put o i ws) i f ≡ get_or ws f 0) → Means (o.rule (row_put o i ws) i))
      → Settling (o.put (row_put o i ws))
  row-changes ws fits rule =
      object-changes (row_put o i ws) (length-with_row o.width o.count o.table i ws)
      (row_other o.width o.count o.table i ws fits)
      (rule (row_same o.width o.count o.table i ws (omega (arith, o.sized)) fits lt))

  pub word-changes : (f x : ℕ) → f < o.width
      → (word o (word_put o i f x) i f ≡ x → ((g : ℕ) → g ≢ f → word o (word_put o i f x) i g ≡ word o o.table i g)
      → Means (o.rule (word_put o i f x) i))
      → Settling (o.put (word_put o i f x))
  word-changes f x inside rule =
      object-changes (word_put o i f x) (length-with_field o.width o.count o.table i f x)
      (field_row o.width o.count o.table i f x)
      (rule (field-same o.width o.count o.table i f x (omega (arith, o.sized)) lt inside) (field-other o.width o.count o.table i f x))
