-- `each_in` meets its contract: each turn adds one of those in the line
use Rattle.std.proofs.Common.{◌≡◌, ℕ, ◌<◌, Bool, take}
use Rattle.basics.specs.Lists.{all_of}
use Rattle.rules.specs.Lines.{line}
use Rattle.sound.proofs.each_in.Given as goal

abbrev pub invariant-loop-k : goal.invariant-loop-k
invariant-loop-k g l =
    (f : ℕ → Bool) → ((x : ℕ) → x < 256 → (b : Bool) → goal.F-post g l.rule x b → b ≡ f x) → l.ok ≡ all_of f (take l.k (line l.lines l.j))
