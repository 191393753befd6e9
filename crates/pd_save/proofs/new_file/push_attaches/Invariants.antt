use Rattle.std.proofs.Common.{◌≡◌, ◌++◌, take}
use Rattle.std.specs.List.{flat_map}
use Rattle.pd_save.specs.NewFile.{new_attach}
use Rattle.pd_save.proofs.new_file.push_attaches.Given as goal

abbrev pub invariant-loop-number : goal.invariant-loop-number
invariant-loop-number l = l.text.items ≡ l.initial.text.items ++ flat_map new_attach (take l.number-index l.numbers)
