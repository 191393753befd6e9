use Rattle.std.proofs.Common.{◌≡◌}
use Rattle.pd_watch.specs.Watch.{all_at_rest}
use Rattle.pd_watch.proofs.watches.at_rest.Given as goal

abbrev pub invariant-loop : goal.invariant-loop
invariant-loop l = l.watches.items ≡ all_at_rest l.counter
