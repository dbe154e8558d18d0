-- Codes 3 and 11: never both, and the value names the table in which the number was looked up.
use Prim.{tt}
use Prim.Native.Nat.{ℕ}
use mathlib.Core.Path.{◌≡◌, refl, ap}
use mathlib.Core.Logic.{◌≢◌, ⊎_elim}
use mathlib.Core.Bool.{Bool, true, false, not, ◌&&◌, false≢true, and-eq-true_iff}
use mathlib.Core.List.{List}
use borrow.Author.Tests.{ltb-true, ne_eqb}
use lib.Dec.{eqb, ltb}
use Rattle.basics.specs.Lists.{count}
use Rattle.basics.proofs.Laws.{same?}
use Rattle.rules.specs.Answer.{answer, table_of, named}
use Rattle.rules.specs.declared.Tables.{Tables}
use Rattle.demand_1_refusals.specs.Refusals.{among, on_task, on_swi, on_semaphore, on_event, on_mailbox, on_clock, object_table, takes_object, size_of}
use Rattle.demand_1_refusals.specs.Refusals.{used_in, outside_table, inside_unused, value_of, refusal, refusal_by}
use Rattle.demand_1_refusals.proofs.Known.{All, one_of, ◌&◌}
use Rattle.demand_1_refusals.proofs.First.{by_bool}
use Rattle.rules.specs.declared.Call.{Call}

-- "both never apply": a number is outside its table or inside
pub apart : (t : Tables) (q : Call) → (refusal t q 3 && refusal t q 11) ≡ false
unfolding refusal refusal_by outside_table inside_unused
apart t q = never_both (takes_object q) (ltb q.a (size_of (object_table q))) (eqb (used_in t (object_table q) q.a) 0)
  where
    never_both : (o inside u : Bool) → ((o && not inside) && (o && (inside && u))) ≡ false
    never_both true true u = refl
    never_both true false u = refl
    never_both false inside u = refl

-- ---- the table that the rows of the table of refusals name is that of the call's kind, and the Swis' for call 50
in_table : (q : Call) (table : ℕ) (numbers : List ℕ) → All (λ (n : ℕ). table_of n ≡ table) numbers → among numbers q ≡ true → table_of q.number ≡ table
unfolding among
in_table q table numbers all h = one_of (λ (n : ℕ). table_of n ≡ table) numbers all q.number (ltb-true 0 (count q.number numbers) h)

table_is : (q : Call) → takes_object q ≡ true → table_of q.number ≡ object_table q
unfolding takes_object object_table among table_of
table_is q is =
    by_bool (among on_task q)
    (λ h. rw h (in_table q 1 on_task (refl & refl & refl & tt) h))
    (λ e1.
    by_bool (among on_swi q)
    (λ h. rw (e1, h) (in_table q 2 on_swi (refl & refl & refl & refl & refl & refl & refl & tt) h))
    (λ e2.
    by_bool (among on_semaphore q)
    (λ h. rw (e1, e2, h) (in_table q 3 on_semaphore (refl & refl & refl & refl & tt) h))
    (λ e3.
    by_bool (among on_event q)
    (λ h. rw (e1, e2, e3, h) (in_table q 4 on_event (refl & refl & refl & tt) h))
    (λ e4.
    by_bool (among on_mailbox q)
    (λ h. rw (e1, e2, e3, e4, h) (in_table q 5 on_mailbox (refl & refl & refl & tt) h))
    (λ e5.
    by_bool (among on_clock q)
    (λ h. rw (e1, e2, e3, e4, e5, h) (in_table q 6 on_clock (refl & refl & refl & tt) h))
    (λ e6. absurd (false≢true (rw (e1, e2, e3, e4, e5, e6) at is))))))))

-- where the case of code 3 or 11 holds, the call takes an object's number
outside-takes : (q : Call) → outside_table q ≡ true → takes_object q ≡ true
unfolding outside_table
outside-takes q h = ((and-eq-true_iff (takes_object q) _).0 h).0

unused-takes : (t : Tables) (q : Call) → inside_unused t q ≡ true → takes_object q ≡ true
unfolding inside_unused
unused-takes t q h = ((and-eq-true_iff (takes_object q) _).0 h).0

pub value-is : (t : Tables) (q : Call) (k : ℕ) → refusal t q k ≡ true → named q.number (answer k 0 0) ≡ answer k 0 (value_of q k)
unfolding named value_of refusal refusal_by
value-is t q k holds =
    ⊎_elim
    (λ (e : k ≡ 3). rw e (ap (answer 3 0) (table_is q (outside-takes q (rw e at holds)))))
    (λ (n : k ≢ 3).
    ⊎_elim
    (λ (e : k ≡ 11). rw e (ap (answer 11 0) (table_is q (unused-takes t q (rw e at holds)))))
    (λ (m : k ≢ 11). rw (ne_eqb k 3 n, ne_eqb k 11 m))
    (same? k 11))
    (same? k 3)
