-- A run is safe.
use Rattle.std.proofs.Common.{ℕ, List}
use Rattle.pd_scenario.specs.Plan.{Plan, IsPlan, count}
use Rattle.pd_run.specs.Run.{Move}
use Rattle.pd_run.specs.Live.{LiveData, StandsAfter, IsOver}
use Rattle.pd_run.specs.Shown.{SafeRun}
use Rattle.pd_run.proofs.Runs.{runs_end}
use Rattle.pd_run.proofs.Sheds.{sheds_always_last}
use Rattle.pd_run.proofs.Sound.{runs_are_sound}
use Rattle.pd_run.proofs.Within.{fits_run}

-- where nothing is due any more, the moves are the whole run
pub safe_end : (n : ℕ) (plan : Plan) (live : LiveData) → IsPlan n plan → IsOver plan live (count plan) → (moves : List Move)
    → StandsAfter plan moves live → SafeRun plan moves
safe_end n plan live is over moves stands =
    let run = runs_end plan moves live stands over in
    record {
      run = run;
      within = fits_run n plan moves is run;
      sound = runs_are_sound plan moves run;
      shed =
          sheds_always_last plan moves run;
    }
