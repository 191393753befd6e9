-- The kinds of events in a scenario.
use Rattle.std.specs.Prelude.{ℕ, List}
use Rattle.pd_packet.specs.Damage.{DamageData}
use Rattle.pd_setup.specs.declared.event.EventKind.{EventKind}

-- an attach names a cable and a sink
abbrev pub ScenarioEventKind : Type 0
ScenarioEventKind = EventKind (List ℕ) (List ℕ) ℕ DamageData
