-- One promise allows one `Result`: each refusal has a code of its own, and none has 0, so that the code tells an `Err` from an `Ok`.
use Prim.Native.Nat.{ℕ}
use mathlib.Core.Path.{◌≡◌, refl, sym, ap, ◌∙◌}
use mathlib.Core.Bool.{false, false≢true, cond as if}
use lib.Dec.{eqb}
use mathlib.Core.Logic.{◌≢◌}
use Rattle.std.specs.Prelude.{Result, Ok, Err}
use Rattle.rules.specs.Refusals.{code, code_said, answer_said}
use Rattle.rules.specs.declared.Answer.{Answer}
use Rattle.rules.specs.declared.Refusal.{Refusal}
use Rattle.rules.specs.declared.Refusal.TheVariants.{UnknownCall, WrongContext, OutOfRange, BadArgument, Forbidden, NoneFree, AtEnd, NoRoom, SwitchedOff, Unsound, NotInUse}

-- the refusal of each code, 1 to 11
refusal_of : ℕ → Refusal
refusal_of k =
    if (eqb k 1) UnknownCall (if (eqb k 2) WrongContext (if (eqb k 3) OutOfRange (if (eqb k 4) BadArgument
    (if (eqb k 5) Forbidden (if (eqb k 6) NoneFree (if (eqb k 7) AtEnd (if (eqb k 8) NoRoom
    (if (eqb k 9) SwitchedOff (if (eqb k 10) Unsound NotInUse)))))))))

back : (r : Refusal) → refusal_of (code r) ≡ r
unfolding refusal_of
back UnknownCall = refl
back WrongContext = refl
back OutOfRange = refl
back BadArgument = refl
back Forbidden = refl
back NoneFree = refl
back AtEnd = refl
back NoRoom = refl
back SwitchedOff = refl
back Unsound = refl
back NotInUse = refl

pub one-refusal : (r s : Refusal) → code r ≡ code s → r ≡ s
one-refusal r s e = sym (back r) ∙ ap refusal_of e ∙ back s

-- ---- no code is 0
not-0 : (r : Refusal) → eqb (code r) 0 ≡ false
not-0 UnknownCall = refl
not-0 WrongContext = refl
not-0 OutOfRange = refl
not-0 BadArgument = refl
not-0 Forbidden = refl
not-0 NoneFree = refl
not-0 AtEnd = refl
not-0 NoRoom = refl
not-0 SwitchedOff = refl
not-0 Unsound = refl
not-0 NotInUse = refl

refused-not-0 : (r : Refusal) → code r ≢ 0
refused-not-0 r e = false≢true (sym (not-0 r) ∙ ap (λ (k : ℕ). eqb k 0) e)

-- ---- two results with one code: both are the same refusal, or both are `Ok`
pub one-result : {A : Type 0} (x y : Result A Refusal) → code_said x ≡ code_said y
    → ((a b : A) → x ≡ Ok a → y ≡ Ok b → a ≡ b) → x ≡ y
one-result (Ok a) (Ok b) e same = ap Ok (same a b refl refl)
one-result (Ok a) (Err s) e same = absurd (refused-not-0 s (sym e))
one-result (Err r) (Ok b) e same = absurd (refused-not-0 r e)
one-result (Err r) (Err s) e same = ap Err (one-refusal r s e)

-- what a `.._code` function answers
pub one-code : (x y : Result Unit Refusal) → code_said x ≡ code_said y → x ≡ y
one-code x y e = one-result x y e (λ a b p q. refl)

-- what a call answers
pub one-call : (x y : Result Answer Refusal) → code_said x ≡ code_said y → answer_said x ≡ answer_said y → x ≡ y
one-call x y e f = one-result x y e (λ a b p q. sym (ap answer_said p) ∙ f ∙ ap answer_said q)
