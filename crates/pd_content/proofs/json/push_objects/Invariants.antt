use Rattle.std.proofs.Common.{◌≡◌, ◌++◌}
use Rattle.pd_content.specs.Members.{objects_json}
use Rattle.pd_content.proofs.json.push_objects.Given as goal

abbrev pub invariant-loop-index : goal.invariant-loop-index
invariant-loop-index l = l.text.items ≡ l.initial.text.items ++ objects_json l.packet l.index
