-- `each_from` meets its contract: each turn adds one number to those that meet the rule
use Rattle.std.proofs.Common.{◌≡◌, ℕ, ◌+◌, ◌-◌, ◌<◌, ◌≤◌, Bool}
use Rattle.basics.specs.Find.{all_below}
use Rattle.sound.proofs.each_from.Given as goal

abbrev pub invariant-loop-k : goal.invariant-loop-k
invariant-loop-k g l =
    (l.k - l.first ≤ l.n - l.first)
    × ((f : ℕ → Bool) → ((k : ℕ) → l.first ≤ k → k < l.n → (b : Bool) → goal.F-post g l.rule k b → b ≡ f k)
    → l.ok ≡ all_below (l.k - l.first) (λ k. f (l.first + k)))
