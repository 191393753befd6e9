use Rattle.std.proofs.Common.{◌≡◌, ◌++◌}
use Rattle.std.specs.List.{flat_map, range_with_len}
use Rattle.pd_vary.specs.Tellings.{where_name}
use Rattle.pd_vary.proofs.tell.push_where_names.Given as goal

abbrev pub invariant-loop-i : goal.invariant-loop-i
invariant-loop-i l = l.text.items ≡ l.initial.text.items ++ flat_map where_name (range_with_len 1 l.i)
