-- `put_row` meets its contract: the words are stored one after the other, and past the table's end none.
use Rattle.std.proofs.Common.{ℕ, ◌+◌, ◌≤◌, ◌<◌, ◌≡◌, ◌∙◌, sym, ap, arith, List, [], ◌∷◌, ◌++◌, length, take, get_or, set, add-one}
use Rattle.std.proofs.lemmas.Grind.{common_steps}
use lib.Seq.{sets, set_out, length-take-le, take-suc, take_all}
use Rattle.basics.proofs.Runs.{sets-snoc}
use Rattle.rules.specs.Rows.{with_row}
use Rattle.rows.proofs.put_row.Goals as goal
use Rattle.rows.proofs.put_row.Goals.{then-k-saturating_sub, else-k-saturating_sub}

-- k of the row's words stand, and there is one more
module _ (t row : List ℕ) (at k : ℕ) {now : List ℕ} (more : k < length row) (before : now ≡ sets t at (take k row)) where
  one-stored : {to : List ℕ} → to ≡ set now (at + k) (get_or row k 0) → to ≡ sets t at (take (k + 1) row)
  one-stored q =
      let s : length (take k row) ≡ k = length-take-le k row (omega arith) in
      let e : take k row ++ (get_or row k 0 ∷ []) ≡ take (k + 1) row = rw add-one (sym (take-suc row k 0 more)) in
      q
      ∙ ap (λ (l : List ℕ). set l (at + k) (get_or row k 0)) before
      ∙ sets-snoc (take k row) t at k (get_or row k 0) s
      ∙ ap (sets t at) e

  none-stored : length now ≤ at + k → now ≡ sets t at (take (k + 1) row)
  none-stored past = one-stored (sym (set_out now (at + k) (get_or row k 0) past))

pub loop-k-preserved : goal.loop-k-preserved
loop-k-preserved c =
    elim c.if-k-saturating_sub.branch [
      | then-k-saturating_sub w ↦ one-stored _ _ _ _ c.loop-k-test.true c.loop-k.invariant w.t-is
      | else-k-saturating_sub w ↦ w.t-is ∙ none-stored _ _ _ _ c.loop-k-test.true c.loop-k.invariant (omega arith)
    ]

pub returns-after-loop-k : goal.returns-after-loop-k
unfolding with_row
returns-after-loop-k c = let e = take_all c.loop-k.k c.args.row.now c.loop-k-test.false in grind (arith, common_steps, e)
