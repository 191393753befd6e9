use Rattle.std.proofs.Common.{◌≡◌, ◌++◌, take}
use Rattle.std.specs.List.{flat_map}
use Rattle.pd_scenario_text.specs.Names.{texts}
use Rattle.pd_places.specs.Known.{name_word}
use Rattle.pd_places.proofs.known.push_name_words.Given as goal

abbrev pub invariant-loop-name : goal.invariant-loop-name
invariant-loop-name l = l.text.items ≡ l.initial.text.items ++ flat_map name_word (texts (take l.name-index l.names))
