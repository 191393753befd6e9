use Rattle.std.proofs.Common.{◌≡◌, ◌++◌}
use Rattle.std.specs.List.{flat_map, range_with_len}
use Rattle.pd_noise.specs.Reports.{port_rows}
use Rattle.pd_noise.proofs.report.push_all_ports.Given as goal

abbrev pub invariant-loop-port : goal.invariant-loop-port
invariant-loop-port l = l.text.items ≡ l.fn.text.items ++ flat_map (port_rows l.noisies) (range_with_len 0 l.port)
