use Rattle.std.proofs.Common.{◌≡◌, length}
use Rattle.pd_edit_lines.specs.Words.{words}
use Rattle.pd_edit_lines.proofs.words.without_spaces.Given as goal

abbrev pub invariant-loop-rest : goal.invariant-loop-rest
invariant-loop-rest l = words l.rest ≡ words l.line

abbrev pub decreases-loop-rest : goal.decreases-loop-rest
decreases-loop-rest l = length l.rest
