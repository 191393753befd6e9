-- What a session over a slice writes: no read of it fails.
use Rattle.std.proofs.Common.{◌≡◌, ℕ, List, Result, Ok, Err, sym, subst, arith}
use Rattle.std.specs.Prelude.{◌≢◌, Option, Some, None, MatchResult, IsErrAnd}
use Rattle.pd_scenario.specs.Scenarios.{ScenarioData}
use Rattle.pd_device.specs.declared.fault.BenchFault.{BenchFault}
use Rattle.pd_device.specs.declared.fault.BenchFault.TheVariants.{ReadFailed, WriteFailed, Memory, ReaderTooLong}
use Rattle.pd_bench.specs.declared.tally.Tally.{Tally}
use Rattle.pd_bench.specs.Session.{SessionEnds, WritesSession, CountsFault}
use Rattle.pd_bench.specs.declared.texts.RunFault.{RunFault}
use Rattle.pd_bench.specs.declared.texts.RunFault.TheVariants as faults
use Rattle.pd_scenario_text.specs.Texts.{IsScenarioText}
use Rattle.pd_bench.specs.Texts.{WritesAnswer, RunsText}

no_read : (fault : BenchFault) (writes writes' : ℕ) → CountsFault {X = Tally} (Err fault) 0 0 writes writes' → fault ≢ ReadFailed
no_read ReadFailed writes writes' h e = let more : 0 ≡ 1 = h.0 in absurd (omega (arith, more))
no_read WriteFailed writes writes' h e = absurd (cc)
no_read Memory writes writes' h e = absurd (cc)
no_read ReaderTooLong writes writes' h e = absurd (cc)

module _ (n : ℕ) (text edits : List ℕ) (s : ScenarioData) where
  writes_answer : (tally : Tally) (taken taken' : Option (List ℕ)) → IsScenarioText text n s
      → WritesSession n (Ok tally) (Some edits) taken taken' s → WritesAnswer text edits tally taken taken'
  writes_answer tally None taken' is_text h = h
  writes_answer tally (Some before) taken' is_text h =
      (h.0, record { ports = n; scenario = s; is_scenario = is_text; session = h.1 }, h.2)

  -- the session's answer, with its fault as one of the run
  pub runs_text : (result : Result Tally BenchFault) (run : Result Tally RunFault) (P : BenchFault → RunFault → Type 0)
      (left' taken taken' : Option (List ℕ)) (writes writes' : ℕ)
      → MatchResult result (λ tally. run ≡ Ok tally) (λ fault. IsErrAnd run (P fault))
      → ((fault : BenchFault) (as_run : RunFault) → P fault as_run → as_run ≡ faults.Session fault) → IsScenarioText text n s
      → SessionEnds n result (Some edits) left' taken taken' s → WritesSession n result (Some edits) taken taken' s
      → CountsFault result 0 0 writes writes' → RunsText run text edits taken taken'
  runs_text (Ok tally) run P left' taken taken' writes writes' cases named is_text ends whole counts =
      subst (λ (r : Result Tally RunFault). RunsText r text edits taken taken') (sym cases)
      (writes_answer tally taken taken' is_text whole)
  runs_text (Err fault) (Ok tally) P left' taken taken' writes writes' cases named is_text ends whole counts = absurd cases
  runs_text (Err fault) (Err as_run) P left' taken taken' writes writes' cases named is_text ends whole counts =
      subst (λ (f : RunFault). RunsText (Err f) text edits taken taken') (sym (named fault as_run cases))
      (no_read fault writes writes' counts, n, s, left', is_text, ends)
