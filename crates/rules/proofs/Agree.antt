-- What `sound` computes and what `Sound` says agree: rule for rule, in the order of both.
use mathlib.Core.Path.{◌≡◌}
use mathlib.Core.Logic.Iff
use mathlib.Core.Logic.{◌↔◌}
use mathlib.Core.Bool.{Bool, true, ◌&&◌, and-eq-true_iff}
use Rattle.basics.proofs.Rules.{agree}
use Rattle.rules.specs.Tables.{task_count, swi_count, levels}
use Rattle.rules.specs.Lines.{task_home, swi_home}
use Rattle.rules.specs.Sound.{sound, Sound, state_rule, heap_rule, clocks_rule, tasks_rule, lines_rule, members_rule, once_rule}
use Rattle.rules.specs.Sound.{semaphores_rule, events_rule, mailboxes_rule, swis_rule, active_rule, dispatch_rule}
use Rattle.rules.specs.declared.Tables.{Tables}

infixl 35 ◌both◌
infixl 35 ◌&◌
◌both◌ : {a b : Bool} {A B : Type 0} → (a ≡ true) ↔ A → (b ≡ true) ↔ B → ((a && b) ≡ true) ↔ (A × B)
◌both◌ {a} {b} p q = Iff.trans (and-eq-true_iff a b) (Iff.and p q)

◌&◌ : {A B : Type 0} → A → B → A × B
a & b = (a, b)

pub sound-agrees : (t : Tables) → (sound t ≡ true) ↔ Sound t
unfolding sound
sound-agrees t =
    let rules =
    agree (state_rule t.tasks t.state)
    both agree (heap_rule t.heap)
    both agree (clocks_rule t.clocks t.swis)
    both agree (tasks_rule (levels t.state) t.tasks)
    both agree (lines_rule t.lines)
    both agree (members_rule t.tasks t.swis t.lines)
    both agree (once_rule task_count (task_home t.tasks) t.lines)
    both agree (once_rule swi_count (swi_home t.swis) t.lines)
    both agree (semaphores_rule t.semaphores t.lines)
    both agree (events_rule t.tasks t.events t.lines)
    both agree (mailboxes_rule t.tasks t.mailboxes t.lines)
    both agree (swis_rule t.swis t.lines)
    both agree (active_rule t.swis t.lines)
    both agree (dispatch_rule t.swis t.lines t.state) in (
      λ e.
          let ((((((front, semaphores), events), mailboxes), swis), active), dispatch) = rules.0 e in
          let (((((((state, heap), clocks), tasks), lines), members), task_once), swi_once) = front in
          record {
            state = state;
            heap = heap;
            clocks = clocks;
            tasks = tasks;
            lines = lines;
            members = members;
            task_once = task_once;
            swi_once = swi_once;
            semaphores = semaphores;
            events = events;
            mailboxes = mailboxes;
            swis = swis;
            active = active;
            dispatch = dispatch;
          },
      λ s.
          rules.1 (
          s.state & s.heap & s.clocks & s.tasks & s.lines & s.members & s.task_once & s.swi_once
          & s.semaphores & s.events & s.mailboxes & s.swis & s.active & s.dispatch),
    )

pub sound-means : (t : Tables) → sound t ≡ true → Sound t
sound-means t = (sound-agrees t).0

pub means-sound : (t : Tables) → Sound t → sound t ≡ true
means-sound t = (sound-agrees t).1
