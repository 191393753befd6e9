use Rattle.std.proofs.Common.{◌≡◌, ◌++◌, drop}
use Rattle.pd_noise.specs.EditScripts.{edit_lines}
use Rattle.pd_noise.proofs.edits.push_lines.Given as goal

abbrev pub invariant-loop-target : goal.invariant-loop-target
invariant-loop-target g l =
    l.fn.text.items ++ edit_lines g.row.N l.fn.scenario l.targets
    ≡ l.text.items ++ edit_lines g.row.N l.scenario (drop l.target-index l.targets)
