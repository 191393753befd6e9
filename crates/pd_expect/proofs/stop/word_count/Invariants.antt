use Rattle.std.proofs.Common.{◌≡◌, ◌+◌, length}
use Rattle.pd_edit_lines.specs.Words.{words}
use Rattle.pd_expect.proofs.stop.word_count.Given as goal

abbrev pub invariant-loop-others : goal.invariant-loop-others
invariant-loop-others l = l.count + length (words l.rest) ≡ length (words l.line)

abbrev pub decreases-loop-others : goal.decreases-loop-others
decreases-loop-others l = length (words l.rest)
