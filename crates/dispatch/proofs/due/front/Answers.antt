-- `front` meets its contract: where no queue has anyone, the lowest has nobody at its front either
use Prim.Native.Nat.{ℕ, ◌<◌}
use mathlib.Core.Path.{◌≡◌, sym, ◌∙◌}
use mathlib.Core.List.{List}
use native.Mathlib.Omega.{arith}
use lib.Dec.{lit≤}
use lib.ListN.{get_or-eq_default}
use Rattle.basics.proofs.Finds.{high_is}
use Rattle.rules_laws.proofs.Levels.{levels-some}
use Rattle.rules.specs.Lines.{anyone, line, ready_line}
use Rattle.rules.specs.Dispatch.{highest_ready, front}
use borrow.Author.Tests.{ltb-false}
use Rattle.dispatch.proofs.due.front.Goals as goal

nobody : (n : ℕ) (ls : List ℕ) → 0 < n → highest_ready n ls ≡ 0 → 0 ≡ front n ls
unfolding highest_ready front
nobody n ls some none =
    let empty = (high_is n (λ p. anyone ls (ready_line p))).after 0 (rw none (lit≤ tt)) some in
    rw none (sym (get_or-eq_default (line ls (ready_line 0)) 0 (ltb-false _ _ empty)))

pub returns-then-level-eq0 : goal.returns-then-level-eq0
unfolding front
returns-then-level-eq0 c = nobody _ _ (omega (arith, levels-some c.args.state.now)) (sym c.highest_ready-level.ensures.0 ∙ c.if-level-eq0.true)

pub returns : goal.returns
unfolding front
returns c = rw (c.first.ensures, c.highest_ready-level.ensures.0)
