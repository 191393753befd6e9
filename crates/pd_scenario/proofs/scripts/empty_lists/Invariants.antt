use Rattle.std.proofs.Common.{◌≡◌, [], map, replicate}
use Rattle.pd_scenario.proofs.scripts.empty_lists.Given as goal

abbrev pub invariant-loop : goal.invariant-loop
invariant-loop l = map (λ s. s.items) l.lists.items ≡ replicate l.counter []
