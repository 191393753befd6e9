use Rattle.std.proofs.Common.{◌≡◌, ◌++◌}
use Rattle.std.specs.Prelude.{replicate}
use Rattle.pd_sweep.proofs.lose.push_row.Given as goal

abbrev pub invariant-loop : goal.invariant-loop
invariant-loop l = l.events.items ≡ l.fn.events.items ++ replicate l.counter l.event
