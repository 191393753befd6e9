-- What is proved of the definitions alone.
use Rattle.std.specs.Prelude.{◌≡◌, ℕ, ◌+◌, ◌<◌, List}
use Rattle.pd_setup.specs.Events.{EventData}
use Rattle.pd_scenario.specs.Plan.{Plan, IsPlan, script_of, force}
use Rattle.pd_scenario.specs.Scenarios.{ScenarioData, IsValid}
use Rattle.pd_scenario.specs.Plans.{plan_of, IsScript, IsForce}

-- the plan of each valid scenario is a plan
abbrev pub ValidIsPlan : Type 0
ValidIsPlan = (n : ℕ) (c : ScenarioData) → IsValid n c → IsPlan n (plan_of c)

-- the script of each port of a valid scenario is its events in order
abbrev pub ScriptIsInOrder : Type 0
ScriptIsInOrder = (n : ℕ) (c : ScenarioData) → IsValid n c → (p : ℕ) → p < n → IsScript c (p + 1) (script_of (plan_of c) p)

-- no other list is so
abbrev pub OneScript : Type 0
OneScript = (c : ScenarioData) (port : ℕ) (events others : List EventData) → IsScript c port events → IsScript c port others
    → events ≡ others

-- the budget at each time is that of the last change
abbrev pub ForceIsLast : Type 0
ForceIsLast = (plan : Plan) (at : ℕ) → IsForce plan at (force plan at)
