use Rattle.std.proofs.Common.{◌≡◌, ◌+◌, drop, take}
use Rattle.pd_scenario_text.specs.Names.{texts}
use Rattle.pd_places.specs.FirstLines.{added}
use Rattle.pd_places.specs.Same.{same_name_part}
use Rattle.pd_places.specs.Numbered.{numbered}
use Rattle.pd_places.proofs.Seen.{Has}
use Rattle.pd_places.proofs.same.push_same_names.Given as goal

abbrev pub invariant-loop-name : goal.invariant-loop-name
invariant-loop-name l = record {
  text :
      added l.initial.told (numbered (same_name_part l.spot l.word (texts l.names)) 1 (texts l.names))
      ≡ added l.told (numbered (same_name_part l.spot l.word (texts l.names)) l.number (texts (drop l.name-index l.names)));
  count : l.number ≡ l.name-index + 1;
  before : Has (texts (take l.name-index l.names)) l.seen.keys;
}
