use Rattle.std.proofs.Common.{◌≡◌, ◌++◌, take}
use Rattle.std.specs.List.{flat_map}
use Rattle.pd_save.specs.EditLines.{cable_line}
use Rattle.pd_save.proofs.edit_lines.push_cables.Given as goal

abbrev pub invariant-loop-cable : goal.invariant-loop-cable
invariant-loop-cable l = l.text.items ≡ l.initial.text.items ++ flat_map cable_line (take l.cable-index l.cables)
