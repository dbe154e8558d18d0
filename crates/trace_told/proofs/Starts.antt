-- The Swi that is told as started is the one that dispatch started.
use Prim.Native.Nat.{ℕ, suc, ◌+◌, ◌-◌, ◌≤◌, ◌<◌, ◌*◌}
use mathlib.Core.Path.{◌≡◌, refl, sym, ap, ◌∙◌}
use mathlib.Core.Logic.{◌≢◌}
use mathlib.Core.Bool.{Bool, true, false, ◌&&◌, cond as if, and-eq-true_iff}
use mathlib.Core.List.{List, [], ◌∷◌, ◌++◌}
use native.Mathlib.Omega.{arith}
use borrow.Author.Tests.{eq-eqb, ltb-true, lt-ltb, le-ltb}
use lib.Dec.{eqb, ltb}
use lib.ListN.{length, get_or}
use lib.Seq.{get_or_at}
use Rattle.basics.specs.Lists.{bit}
use Rattle.basics.proofs.Laws.{put_at-back}
use Rattle.rules.specs.Answer.{code_of, Words}
use Rattle.rules.specs.Tables.{Typed, swi}
use Rattle.rules.specs.Lines.{line, front_of, out_of, joined, at_back, posted_line, active_line, line_count, line_width, line_most}
use Rattle.rules.specs.Swis.{SwiQueues, swi_queues, top}
use Rattle.rules.specs.Dispatch.{context, highest_posted, active_level, swi_due, next_line, started, swi_dispatched, dispatched}
use Rattle.rules.specs.Sound.{Sound}
use Rattle.rules.specs.Step.{call, step, finished}
use Rattle.rules.proofs.Agree.{means-sound}
use Rattle.rules.specs.declared.Tables.{Tables}
use Rattle.rules.specs.declared.Step.{Step}
use Rattle.rules_laws.proofs.InPlace.{length-snoc}
use Rattle.rules_laws.proofs.Lines.{length-left, left_other, length-entered, entered-same}
use Rattle.rules_laws.proofs.Calls.{chosen}
use Rattle.rules_laws.proofs.Effects.{effect-code}
use Rattle.runs.specs.Run.{made, next}
use Rattle.demand_1_refusals.proofs.Known.{call_for}
use Rattle.demand_1_refusals.proofs.Demand.{step-code}
use Rattle.demand_2_soundness.proofs.SwiTables.{active-most}
use Rattle.demand_2_soundness.proofs.Settles.{posted-high}
use Rattle.demand_2_soundness.proofs.Keeps.{effect-leaves, step_typed}
use Rattle.trace_changes.specs.Numbers.{told}
use Rattle.trace_changes.specs.Changes.{is_started, started_swi}
use Rattle.trace_told.specs.Told.{given_of, effect_of, StartTold}
use Rattle.trace_told.proofs.Actives.{Active, effect-active}
use Rattle.rules.specs.declared.Call.{Call}

-- ---- a Swi that starts is the top active one
module _ (ls : List ℕ) (full : length ls ≡ line_count * line_width) (room : length (line ls active_line) < line_most) (i j : ℕ) (other : active_line ≢ j) where
  now-active : line (joined active_line i (out_of j i ls)) active_line ≡ line ls active_line ++ (i ∷ [])
  now-active =
      let same = left_other ls j i active_line other in
      entered-same (out_of j i ls) active_line i at_back (omega arith) (length-left ls j i ∙ full) (rw same room)
      ∙ rw same (put_at-back i (line ls active_line))

top-last : (ls xs : List ℕ) (i : ℕ) → line ls active_line ≡ xs ++ (i ∷ []) → top ls ≡ i
unfolding top
top-last ls xs i e = rw e (get_or_at xs i [] 0 (length (xs ++ (i ∷ [])) - 1) (omega (arith, length-snoc xs i)))

dispatch-full : (ws ls st : List ℕ) → length (swi_dispatched st (swi_queues ws ls)).lines ≡ length ls
unfolding swi_dispatched started
dispatch-full ws ls st =
    chosen (λ (x : SwiQueues). length x.lines ≡ length ls) (swi_due ws ls st) _ _
    (λ _. length-entered (out_of (next_line ls) (front_of ls (next_line ls)) ls) active_line (front_of ls (next_line ls)) at_back
    ∙ length-left ls (next_line ls) (front_of ls (next_line ls)))
    (λ _. refl)

-- ---- by the number of active ones: tables with lines ls, the call's effect with vs, and dispatch
module _ (number : ℕ) (ls ws vs st : List ℕ) (full : length vs ≡ line_count * line_width)
    (room : length (line vs active_line) < line_most) (active : Active number ls vs) where
  abbrev i : ℕ
  i = front_of vs (next_line vs)

  abbrev left_by : Bool → SwiQueues
  left_by due = if due (started i (next_line vs) (swi_queues ws vs)) (swi_queues ws vs)

  abbrev more : List ℕ → Bool
  more ms = ltb (length (line ls active_line)) (length (line ms active_line) + bit (eqb number 0x17))

  top-active : line (left_by true).lines active_line ≡ line vs active_line ++ (i ∷ [])
  unfolding started
  top-active = now-active vs full room i (next_line vs) (λ (e : active_line ≡ next_line vs). omega (arith, (posted-high vs).high))

  told-then : (due : Bool) → told (more (left_by due).lines) (top (left_by due).lines ∷ []) ≡ told due (i ∷ [])
  told-then true =
      let n = ap length top-active ∙ length-snoc (line vs active_line) i in
      let after : ℕ = length (line (left_by true).lines active_line) + bit (eqb number 0x17) in
      let yes : more (left_by true).lines ≡ true = lt-ltb (length (line ls active_line)) after (omega (arith, n, active.many)) in
      rw (yes, top-last (left_by true).lines (line vs active_line) i top-active)
  told-then false =
      let after : ℕ = length (line vs active_line) + bit (eqb number 0x17) in
      let no : more vs ≡ false = le-ltb (length (line ls active_line)) after (omega (arith, active.many)) in
      rw no

-- ---- of an accepted call on sound tables
module _ (t : Tables) (typed : Typed t) (s : Sound t) (q : Call) (w : Words q) (ok : (made t q).answer.code ≡ 0) where
  is-step : made t q ≡ step t q.number q.a q.b q.c q.d
  unfolding call
  is-step = rw (means-sound t s)

  no-case : code_of (call_for t q).cases ≡ 0
  no-case = sym (step-code t q) ∙ ap (λ (x : Step). x.answer.code) (sym is-step) ∙ ok

  lines_are : (next t q).lines ≡ (swi_dispatched (effect_of t q).state (swi_queues (effect_of t q).swis (effect_of t q).lines)).lines
  unfolding step dispatched
  lines_are =
      let done : made t q ≡ finished q.number (call_for t q).effect = is-step ∙ rw (eq-eqb (code_of (call_for t q).cases) 0 no-case) in
      let x = context t.lines t.state in
      let out_of = effect-leaves q.number (call_for t q).effect (effect-code t x q.number q.a q.b q.c q.d) in
      ap (λ (x : Step). x.tables.lines) done ∙ ap (λ (u : Tables). u.lines) out_of

  still_full : length (effect_of t q).lines ≡ line_count * line_width
  still_full =
      let v = effect_of t q in
      let after = (step_typed t typed s q.number q.a q.b q.c q.d w).lines in
      sym (dispatch-full v.swis v.lines v.state) ∙ sym (ap length lines_are) ∙ ap (λ (x : Step). length x.tables.lines) is-step ∙ after

  pub start-told : StartTold t q
  unfolding started_swi is_started swi_dispatched
  start-told =
      let v = effect_of t q in
      let active = (effect-active t typed s q.number q.a q.b q.c q.d).active no-case in
      let few = active-most t.swis t.lines s.swis s.active in
      let room : length (line v.lines active_line) < line_most = omega (arith, active.many) in
      record {
        swi = λ n.
            rw (ok, lines_are)
            (told-then q.number t.lines v.swis v.lines v.state still_full room active (swi_due v.swis v.lines v.state));
      }
