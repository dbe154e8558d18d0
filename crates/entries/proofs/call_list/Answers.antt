-- `call_list` meets its contract: on tables that are not sound nothing is done, and on sound ones nothing of a bad list; of a list that fits all calls are made.
use Rattle.entries.proofs.Lists.{of-unsound, of-bad, of-good}
use Rattle.std.proofs.Common.{ap, not, refl}
use Rattle.entries.proofs.call_list.Goals as goal

pub returns-then-not-sound : goal.returns-then-not-sound
returns-then-not-sound c =
    of-unsound _ _ _ (ap not c.if-not-sound.true) c.unsound.ensures c.is_sound-sound.ensures

pub returns-then-bad : goal.returns-then-bad
returns-then-bad c =
    of-bad _ _ _ (ap not c.if-not-sound.false) c.is_bad-bad.ensures c.if-bad.true c.running-running.ensures
    c.refused.ensures c.is_sound-sound.ensures

pub returns : goal.returns
returns c =
    of-good _ _ _ (ap not c.if-not-sound.false) c.is_bad-bad.ensures c.if-bad.false c.make_calls.ensures
    c.running-last.ensures (c.accepted.ensures, refl) c.is_sound-sound.ensures
