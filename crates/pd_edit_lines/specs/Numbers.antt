-- The numbers that refused lines are shown by: this product's own.
use Rattle.std.specs.Prelude.{ℕ}
use Rattle.pd_edit_lines.specs.declared.fault.EditFault.{EditFault}
use Rattle.pd_edit_lines.specs.declared.fault.EditFault.TheVariants.{Syntax, IdTaken, NoSuchId, NoSuchPort, NoSuchName, InUse, Range}
use Rattle.pd_edit_lines.specs.declared.fault.EditFault.TheVariants.{Supplies, Floors, Limit, Memory}

abbrev pub number_of : EditFault → ℕ
number_of Syntax = 20
number_of IdTaken = 21
number_of NoSuchId = 22
number_of NoSuchPort = 23
number_of NoSuchName = 24
number_of InUse = 25
number_of Range = 26
number_of Supplies = 27
number_of Floors = 28
number_of Limit = 29
number_of Memory = 30
