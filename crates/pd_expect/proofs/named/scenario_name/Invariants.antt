use Rattle.std.proofs.Common.{◌≡◌, length}
use Rattle.std.specs.Str.Lines.{lines}
use Rattle.pd_expect.specs.Named.{scenario_name, script_lines}
use Rattle.pd_expect.proofs.named.scenario_name.Given as goal

abbrev pub invariant-loop-line : goal.invariant-loop-line
invariant-loop-line l = scenario_name (script_lines l.script) ≡ scenario_name (lines l.rest)

abbrev pub decreases-loop-line : goal.decreases-loop-line
decreases-loop-line l = length l.rest
