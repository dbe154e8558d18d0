-- "Call numbers fall into ranges of sixteen, one range for each kind": in its range a kind's own call is the call on all tables.
use Prim.Native.Nat.{ℕ, ◌≤◌, ◌<◌}
use mathlib.Core.Path.{◌≡◌, refl, sym, ap, ◌∙◌}
use mathlib.Core.List.{List}
use native.Mathlib.Omega.{arith}
use Rattle.rules.specs.Answer.{CallRule, with_answer, answer, answered, code_of, first_given, unknown}
use Rattle.rules.specs.Dispatch.{context}
use Rattle.rules.specs.Lines.{TaskQueues, task_queues}
use Rattle.rules.specs.Waits.{WaitTables, wait_tables}
use Rattle.rules.specs.Swis.{SwiQueues, swi_queues, swi_call}
use Rattle.rules.specs.Tasks.{task_call}
use Rattle.rules.specs.Semaphores.{semaphore_call}
use Rattle.rules.specs.Events.{event_call}
use Rattle.rules.specs.Mailboxes.{mailbox_call}
use Rattle.rules.specs.Clocks.{clock_call}
use Rattle.rules.specs.Heap.{heap_call}
use Rattle.rules.specs.Tick.{TickTables, tick_tables, switch_call}
use Rattle.rules.specs.Step.{over, call_of, with_queued, with_posts, with_semaphores, with_events, with_mailboxes, with_clocks, with_heap, with_ticked}
use Rattle.rules_laws.proofs.Calls.{mapped, mapped-guarded, unknown-is}
use Rattle.rules_laws.proofs.Numbers.{within, past}
use Rattle.rules.specs.declared.Answer.{Answer}
use Rattle.rules.specs.declared.Tables.{Tables}

-- ---- the call in the caller's context x, by the number's range
module _ (t : Tables) {x : ℕ} (is : x ≡ context t.lines t.state) (n a b c d : ℕ) where
  abbrev made : CallRule Tables
  made = call_of t (context t.lines t.state) n a b c d

  -- known in x, it is known
  same : (k : CallRule Tables) → call_of t x n a b c d ≡ k → k ≡ made
  same k p = sym p ∙ ap (λ (y : ℕ). call_of t y n a b c d) is

  known : (k : CallRule Tables) → call_of t x n a b c d ≡ k → answered t k ≡ answered t made
  known k p = ap (answered t) (same k p)

  coded : (k : CallRule Tables) → call_of t x n a b c d ≡ k → code_of k.cases ≡ code_of made.cases
  coded k p = ap (λ (r : CallRule Tables). code_of r.cases) (same k p)

  -- it is a kind's call k on the kind's own tables q, which `put` puts into all tables
  pub record ByKind {A : Type 0} (put : A → Tables) (q : A) (k : CallRule A) : Type 0 where
    pub answers : {r : Answer} {u : A} → with_answer r u ≡ answered q k → with_answer r (put u) ≡ answered t made
    pub codes : {given : ℕ} → given ≡ code_of k.cases → given ≡ code_of made.cases

  by_kind : {A : Type 0} {put : A → Tables} {q : A} {k : CallRule A} → put q ≡ t → call_of t x n a b c d ≡ over put k → ByKind put q k
  by_kind {put = put} {q = q} {k = k} o p = record {
    answers = λ e.
        ap (mapped put) e ∙ mapped-guarded put (code_of k.cases) q k.effect
        ∙ ap (λ (s : Tables). answered s (over put k)) o ∙ known (over put k) p;
    codes = λ e. e ∙ coded (over put k) p;
  }

  pub task-range : n < 0x10
      → (let q : TaskQueues = task_queues t.tasks t.lines in ByKind (with_queued t) q (task_call q t.state x n a b c d))
  unfolding call_of
  task-range h = by_kind refl (rw (within n 0x00 (omega arith) h))

  pub swi-range : 0x10 ≤ n → n < 0x20
      → (let q : SwiQueues = swi_queues t.swis t.lines in ByKind (with_posts t) q (swi_call q t.clocks t.state x n a b c d))
  unfolding call_of
  swi-range l h =
      let p = past n 0x10 l in
      by_kind refl (rw (p 0x00 refl, within n 0x10 l h))

  pub semaphore-range : 0x20 ≤ n → n < 0x30
      → (let q : WaitTables = wait_tables t.tasks t.lines t.semaphores in ByKind (with_semaphores t) q (semaphore_call q t.state x n a b c d))
  unfolding call_of
  semaphore-range l h =
      let p = past n 0x20 l in
      by_kind refl (rw (p 0x00 refl, p 0x10 refl, within n 0x20 l h))

  pub event-range : 0x30 ≤ n → n < 0x40
      → (let q : WaitTables = wait_tables t.tasks t.lines t.events in ByKind (with_events t) q (event_call q t.state x n a b c d))
  unfolding call_of
  event-range l h =
      let p = past n 0x30 l in
      by_kind refl (rw (p 0x00 refl, p 0x10 refl, p 0x20 refl, within n 0x30 l h))

  pub mailbox-range : 0x40 ≤ n → n < 0x50
      → (let q : WaitTables = wait_tables t.tasks t.lines t.mailboxes in ByKind (with_mailboxes t) q (mailbox_call q t.state x n a b c d))
  unfolding call_of
  mailbox-range l h =
      let p = past n 0x40 l in
      by_kind refl (rw (p 0x00 refl, p 0x10 refl, p 0x20 refl, p 0x30 refl, within n 0x40 l h))

  pub clock-range : 0x50 ≤ n → n < 0x60
      → (let q : List ℕ = t.clocks in ByKind (with_clocks t) q (clock_call q t.swis x n a b c d))
  unfolding call_of
  clock-range l h =
      let p = past n 0x50 l in
      by_kind refl (rw (p 0x00 refl, p 0x10 refl, p 0x20 refl, p 0x30 refl, p 0x40 refl, within n 0x50 l h))

  pub heap-range : 0x60 ≤ n → n < 0x70
      → (let q : List ℕ = t.heap in ByKind (with_heap t) q (heap_call q x n a b c d))
  unfolding call_of
  heap-range l h =
      let p = past n 0x60 l in
      by_kind refl (rw (p 0x00 refl, p 0x10 refl, p 0x20 refl, p 0x30 refl, p 0x40 refl, p 0x50 refl, within n 0x60 l h))

  pub switch-range : 0x70 ≤ n → n < 0x80
      → (let q : TickTables = tick_tables t.tasks t.lines t.swis t.clocks t.state in ByKind (with_ticked t) q (switch_call q x n a b c d))
  unfolding call_of
  switch-range l h =
      let p = past n 0x70 l in
      by_kind refl (rw (p 0x00 refl, p 0x10 refl, p 0x20 refl, p 0x30 refl, p 0x40 refl, p 0x50 refl, p 0x60 refl, within n 0x70 l h))

  -- in none of the eight
  unknown-range : 0x80 ≤ n → call_of t x n a b c d ≡ unknown t
  unfolding call_of
  unknown-range l =
      let p = past n 0x80 l in
      rw (p 0x00 refl, p 0x10 refl, p 0x20 refl, p 0x30 refl, p 0x40 refl, p 0x50 refl, p 0x60 refl, p 0x70 refl) refl

  pub no-range : 0x80 ≤ n → {r : Answer} → r ≡ answer 1 0 0 → with_answer r t ≡ answered t made
  no-range l e = unknown-is t _ refl e ∙ known _ (unknown-range l)

  pub no-code : 0x80 ≤ n → 1 ≡ code_of made.cases
  unfolding first_given
  no-code l = coded _ (unknown-range l)
