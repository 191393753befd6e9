use Rattle.std.proofs.Common.{◌≡◌, ◌++◌, take}
use Rattle.std.specs.List.{flat_map}
use Rattle.pd_chart.specs.Chart.{step_text}
use Rattle.pd_chart.proofs.chart.push_steps.Given as goal

abbrev pub invariant-loop-level : goal.invariant-loop-level
invariant-loop-level l = l.text.items ≡ l.fn.text.items ++ flat_map (step_text l.frame l.top l.curve) (take l.level-index l.levels)
