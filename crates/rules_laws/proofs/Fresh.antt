-- "Fresh tables are sound", with 16 levels and with 32, and their arrays have their types' lengths.
use Prim.Native.Nat.{ℕ}
use mathlib.Core.Path.{◌≡◌, refl}
use mathlib.Core.Bool.{Bool, true, false, cond as if}
use lib.Dec.{eqb}
use Rattle.rules.specs.Tables.{Typed, few_levels, most_levels}
use Rattle.rules.specs.Sound.{Sound, sound}
use Rattle.rules.specs.Fresh.{fresh, fresh_with}
use Rattle.rules.specs.Log.{levels_for}
use Rattle.rules.proofs.Agree.{sound-means}
use Rattle.rules.proofs.Computed.{computed}

either-sound : (b : Bool) → sound (fresh_with (if b most_levels few_levels)) ≡ true
unfolding computed
either-sound true = refl
either-sound false = refl

pub fresh-sound : sound fresh ≡ true
fresh-sound = either-sound false

-- with the levels that a log's version means
pub fresh-for-sound : (v : ℕ) → sound (fresh_with (levels_for v)) ≡ true
fresh-for-sound v = either-sound (eqb v 2)

pub fresh-is-sound : Sound fresh
fresh-is-sound = sound-means fresh fresh-sound

-- the lengths do not depend on the levels
pub fresh-with-typed : (n : ℕ) → Typed (fresh_with n)
unfolding fresh_with
fresh-with-typed n =
    record { tasks = refl; lines = refl; semaphores = refl; events = refl; mailboxes = refl; swis = refl; clocks = refl; heap = refl; state = refl }

pub fresh-typed : Typed fresh
fresh-typed = fresh-with-typed few_levels
