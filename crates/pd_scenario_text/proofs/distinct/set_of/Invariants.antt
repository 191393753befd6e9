use Rattle.std.proofs.Common.{◌≡◌, take, true}
use Rattle.pd_scenario.specs.Scenarios.{names_differ}
use Rattle.pd_scenario_text.specs.Names.{texts, Has}
use Rattle.pd_scenario_text.proofs.distinct.set_of.Given as goal

abbrev pub invariant-loop-name : goal.invariant-loop-name
invariant-loop-name l = (names_differ (texts (take l.name-index l.names)) ≡ true) × Has (texts (take l.name-index l.names)) l.seen
