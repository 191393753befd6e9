-- Going along a run: what is known of a port's contract after one more entry.
use Rattle.std.specs.Prelude.{ℕ, ◌==◌, ◌&&◌, nat_le, Option, if◌then◌else◌}
use Rattle.pd_objects.specs.declared.contract.Contract.{Contract}
use Rattle.pd_port.specs.declared.entry.Entry.{Entry}
use Rattle.pd_sweep.specs.Summaries.{left_by}

-- an entry of the port up to a time may change its contract
abbrev pub stands_after : ℕ → ℕ → Option Contract → ℕ × Entry → Option Contract
stands_after port at stood move = if move.0 == port && nat_le move.1.at at then left_by stood move.1.contract else stood
