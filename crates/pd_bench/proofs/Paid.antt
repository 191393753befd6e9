-- What a session over a slice costs: the slice is read whole.
use Rattle.std.proofs.Common.{◌≡◌, ℕ, ◌≤◌, List, ◌++◌, Result, Ok, Err, ap, sym, ◌∙◌, subst}
use Rattle.std.proofs.lemmas.List.{append-nil}
use Rattle.std.specs.Prelude.{Option, Some, None, MatchResult, IsErrAnd}
use Rattle.std.specs.Io.KnownBytes.{Appends}
use Rattle.pd_scenario.specs.Scenarios.{ScenarioData}
use Rattle.pd_scenario.specs.Plan.{Plan}
use Rattle.pd_run.specs.Cost.{Costs}
use Rattle.pd_device.specs.declared.fault.BenchFault.{BenchFault}
use Rattle.pd_bench.specs.declared.tally.Tally.{Tally}
use Rattle.pd_bench.specs.Session.{Session, SessionDone}
use Rattle.pd_bench.specs.Cost.{SessionCosts, SessionPaid}
use Rattle.pd_bench.specs.declared.texts.RunFault.{RunFault}
use Rattle.pd_bench.specs.declared.texts.RunFault.TheVariants as faults
use Rattle.pd_scenario_text.specs.Texts.{IsScenarioText}
use Rattle.pd_bench.specs.Texts.{IsPaidAnswer, RunCosts}

module _ (costs : Costs) (n : ℕ) (text edits : List ℕ) (s : ScenarioData) (before after : ℕ) where
  paid_answer : (tally : Tally) (left' taken taken' : Option (List ℕ)) → IsScenarioText text n s
      → (done : SessionDone n (Some edits) left' taken taken' s tally)
      → SessionCosts costs n None s done.bytes done.out tally done.session before after
      → (out : List ℕ) × Appends taken taken' out × IsPaidAnswer costs text edits out tally before after
  paid_answer tally None taken taken' is_text done cost = absurd done.consumes
  paid_answer tally (Some rest) taken taken' is_text done cost =
      let whole : edits ≡ done.bytes = done.consumes ∙ ap (λ v. done.bytes ++ v) done.at_end ∙ append-nil done.bytes in
      let paid = subst
      (λ (v : List ℕ). (session : Session n s v done.out tally) × SessionCosts costs n None s v done.out tally session before after)
      (sym whole) (done.session, cost) in (
        done.out,
        done.appends,
        record { answer = record { ports = n; scenario = s; is_scenario = is_text; session = paid.0 }; cost = paid.1 },
      )

  -- the session's answer, with its fault as one of the run
  pub run_costs : (result : Result Tally BenchFault) (run : Result Tally RunFault) (P : BenchFault → RunFault → Type 0)
      (left' taken taken' : Option (List ℕ)) (old : Option Plan)
      → MatchResult result (λ tally. run ≡ Ok tally) (λ fault. IsErrAnd run (P fault))
      → ((fault : BenchFault) (as_run : RunFault) → P fault as_run → as_run ≡ faults.Session fault) → old ≡ None
      → IsScenarioText text n s → SessionPaid costs n result (Some edits) left' taken taken' old s before after → before ≤ after
      → RunCosts costs run text edits taken taken' before after
  run_costs (Ok tally) run P left' taken taken' old cases named none is_text paid rises =
      let cost = subst
      (λ (o : Option Plan). SessionPaid costs n (Ok tally) (Some edits) left' taken taken' o s before after) none paid in
      subst (λ (r : Result Tally RunFault). RunCosts costs r text edits taken taken' before after) (sym cases)
      (paid_answer tally left' taken taken' is_text cost.0 cost.1)
  run_costs (Err fault) (Ok tally) P left' taken taken' old cases named none is_text paid rises = absurd cases
  run_costs (Err fault) (Err as_run) P left' taken taken' old cases named none is_text paid rises =
      subst (λ (f : RunFault). RunCosts costs (Err f) text edits taken taken' before after) (sym (named fault as_run cases)) rises
