use Rattle.std.proofs.Common.{◌≡◌, ◌++◌, take}
use Rattle.std.specs.List.{flat_map}
use Rattle.pd_save.specs.Tables.{port_table}
use Rattle.pd_save.proofs.file.push_ports.Given as goal

abbrev pub invariant-loop-port : goal.invariant-loop-port
invariant-loop-port l = l.text.items ≡ l.initial.text.items ++ flat_map port_table (take l.port-index l.ports)
