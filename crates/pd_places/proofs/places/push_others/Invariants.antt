use Rattle.std.proofs.Common.{◌≡◌, drop}
use Rattle.std.specs.List.{flat_map}
use Rattle.toml.specs.View.{table_view}
use Rattle.pd_scenario_text.specs.FileTables.{tables_of}
use Rattle.pd_places.specs.FirstLines.{added}
use Rattle.pd_places.specs.Places.{other_text}
use Rattle.pd_places.proofs.places.push_others.Given as goal

abbrev pub invariant-loop-other : goal.invariant-loop-other
invariant-loop-other l =
    added l.initial.told (flat_map (other_text l.file l.fault (tables_of (table_view l.top))) l.others)
    ≡ added l.told (flat_map (other_text l.file l.fault (tables_of (table_view l.top))) (drop l.other-index l.others))
