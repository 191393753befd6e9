use Rattle.std.proofs.Common.{◌≡◌, [], length}
use Rattle.pd_edit_lines.specs.Words.{words}
use Rattle.pd_edit_lines.specs.Grammar.{with_supplies}
use Rattle.pd_edit_lines.proofs.setting_lines.supplies_of.Given as goal

abbrev pub invariant-loop-rest : goal.invariant-loop-rest
invariant-loop-rest l = with_supplies l.supplies.items (words l.rest) ≡ with_supplies [] (words l.line)

abbrev pub decreases-loop-rest : goal.decreases-loop-rest
decreases-loop-rest l = length (words l.rest)
