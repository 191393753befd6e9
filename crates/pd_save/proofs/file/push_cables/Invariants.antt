use Rattle.std.proofs.Common.{◌≡◌, ◌++◌, take}
use Rattle.std.specs.List.{flat_map}
use Rattle.pd_save.specs.Tables.{cable_table}
use Rattle.pd_save.proofs.file.push_cables.Given as goal

abbrev pub invariant-loop-cable : goal.invariant-loop-cable
invariant-loop-cable l = l.text.items ≡ l.initial.text.items ++ flat_map cable_table (take l.cable-index l.cables)
