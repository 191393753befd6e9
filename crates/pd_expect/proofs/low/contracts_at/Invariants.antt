use Rattle.std.proofs.Common.{◌≡◌, ◌*◌, ◌≤◌}
use Rattle.std.specs.Prelude.{map, sum}
use Rattle.std.specs.List.{range_with_len}
use Rattle.pd_report.specs.Margins.{power_on, up_to}
use Rattle.pd_expect.proofs.low.contracts_at.Given as goal

abbrev pub invariant-loop-port : goal.invariant-loop-port
invariant-loop-port g l = record {
  total_is : l.total ≡ sum (map (power_on (up_to l.at (g.T.Runner.entries l.run))) (range_with_len 1 l.port));
  small : l.total ≤ l.port * 18446744073709551616;
}
