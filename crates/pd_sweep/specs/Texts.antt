-- What a sweep comes to, for a scenario.
use Rattle.std.specs.Prelude.{ℕ, List, Result, Option}
use Rattle.pd_device.specs.declared.fault.BenchFault.{BenchFault}
use Rattle.pd_scenario.specs.Scenarios.{ScenarioData}
use Rattle.pd_sweep.specs.declared.choice.Campaign.{Campaign}
use Rattle.pd_sweep.specs.declared.tally.Tally.{Tally}
use Rattle.pd_sweep.specs.Sweeps.{CountsSweep, Sweeps}
use Rattle.pd_sweep.specs.declared.form.Look.{Look}
use Rattle.pd_sweep.specs.declared.part.Part.{Part}

-- the sweep of a scenario of n ports or a part of it, or some first bytes of that where a run fails; and the count of failed writes says
-- whether one failed
pub record SweepsScene (campaign : Campaign) (part : Option Part) (look : Look) (n : ℕ) (s : ScenarioData)
    (result : Result Tally BenchFault) (taken taken' : Option (List ℕ)) (writes writes' : ℕ) : Type 0 where
  pub text : Sweeps n s campaign part look result taken taken'
  pub counts : CountsSweep result writes writes'
