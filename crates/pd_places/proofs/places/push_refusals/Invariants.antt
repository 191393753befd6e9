use Rattle.std.proofs.Common.{◌≡◌, drop}
use Rattle.std.specs.List.{flat_map}
use Rattle.toml.specs.View.{table_view}
use Rattle.pd_scenario_text.specs.FileTables.{tables_of}
use Rattle.pd_places.specs.FirstLines.{added}
use Rattle.pd_places.specs.Places.{refusal_text}
use Rattle.pd_places.proofs.places.push_refusals.Given as goal

abbrev pub invariant-loop-fault : goal.invariant-loop-fault
invariant-loop-fault l =
    added l.initial.told (flat_map (λ refusal. refusal_text l.file refusal (tables_of (table_view l.top))) l.faults)
    ≡ added l.told (flat_map (λ refusal. refusal_text l.file refusal (tables_of (table_view l.top))) (drop l.fault-index l.faults))
