-- Demand 1 holds of every call on any tables: 01's table of refusals, row by row, agrees with the calls' definitions.
use mathlib.Core.Path.{◌≡◌, ap, ◌∙◌}
use mathlib.Core.Bool.{cond as if}
use native.Mathlib.Omega.{arith}
use Rattle.basics.specs.Lists.{ahead, all_of}
use Rattle.rules.specs.Answer.{answer}
use Rattle.rules.specs.Dispatch.{running}
use Rattle.rules.specs.Sound.{sound}
use Rattle.rules.specs.Step.{step_of}
use Rattle.rules.specs.declared.Tables.{Tables}
use Rattle.rules.specs.declared.Thread.{Thread}
use Rattle.rules.specs.declared.Thread.TheVariants.{Task}
use Rattle.runs.specs.Run.{made}
use Rattle.demand_1_refusals.specs.Refusals.{value_of}
use Rattle.demand_1_refusals.proofs.Named.{apart}
use Rattle.demand_1_refusals.proofs.Demand.{code_is, exactly-in, accepted-in, left_alone}
use Rattle.demand_1_refusals.proofs.First.{by_bool}
use Rattle.demands.specs.One.{DemandOne, thread_of}

-- the thread that a refusal leaves is the tables' own, on sound tables and on others
thread-is : (t : Tables) → if (sound t) (running t.lines t.state) (Task 0) ≡ thread_of t
thread-is t = by_bool (sound t) (λ e. rw e) (λ e. rw e)

pub demand-1 : DemandOne
unfolding ahead all_of
demand-1 t q =
    record {
      code = code_is t q;
      exactly = λ k h. (λ e. search ((exactly-in t q k h).0 e), λ r. (exactly-in t q k h).1 (search));
      accepted = accepted-in t q;
      apart = apart t q;
      refused =
          let k = (made t q).answer.code in
          λ n. left_alone t q (λ z. omega arith) ∙ ap (λ (x : Thread). step_of t (answer k 0 (value_of q k)) x) (thread-is t);
    }
