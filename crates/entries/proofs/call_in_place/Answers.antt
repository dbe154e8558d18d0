-- `entries::call_in_place` meets its contract: where the test fails it is code 10 and nothing is touched, where it holds `step` is the call.
use Rattle.entries.proofs.Tested.{promised-sound, promised-unsound}
use Rattle.std.proofs.Common.{ap, not}
use Rattle.entries.proofs.call_in_place.Goals as goal

pub returns-then-not-is_sound : goal.returns-then-not-is_sound
returns-then-not-is_sound c =
    promised-unsound _ c.is_sound.ensures _ (ap not c.if-not-is_sound.true) c.unsound.ensures

pub returns : goal.returns
returns c =
    -- past the nine tables that are lent on
    promised-sound _ c.is_sound.ensures _ (ap not c.if-not-is_sound.false) c.step.ensures.stepped
