-- What a shown run comes to, for a scenario.
use Rattle.std.specs.Prelude.{ℕ, List, Result, Option}
use Rattle.pd_device.specs.declared.fault.BenchFault.{BenchFault}
use Rattle.pd_scenario.specs.Plans.{plan_of}
use Rattle.pd_scenario.specs.Scenarios.{ScenarioData}
use Rattle.pd_show.specs.declared.choice.Choice.{Choice}
use Rattle.pd_show.specs.Show.{CountsShow, ShowsRun}

-- the text of a scenario's run, or some first bytes of it where the run fails; and the count of failed writes says whether one failed
pub record ShowsScene (choice : Choice) (s : ScenarioData) (result : Result Unit BenchFault) (taken taken' : Option (List ℕ))
    (writes writes' : ℕ) : Type 0 where
  pub text : ShowsRun (plan_of s) choice result taken taken'
  pub counts : CountsShow result writes writes'
