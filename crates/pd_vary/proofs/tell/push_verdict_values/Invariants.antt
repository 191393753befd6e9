use Rattle.std.proofs.Common.{◌≡◌, ◌++◌, take}
use Rattle.std.specs.List.{flat_map}
use Rattle.pd_vary.specs.Tellings.{verdict_value}
use Rattle.pd_vary.proofs.tell.push_verdict_values.Given as goal

abbrev pub invariant-loop-verdict : goal.invariant-loop-verdict
invariant-loop-verdict l = l.text.items ≡ l.initial.text.items ++ flat_map verdict_value (take l.verdict-index l.verdicts)
