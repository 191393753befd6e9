use Rattle.std.proofs.Common.{◌≡◌, length}
use Rattle.pd_edit_lines.specs.Words.{words}
use Rattle.pd_expect.specs.Stops.{stop_from}
use Rattle.pd_expect.specs.declared.rows.Begun.TheVariants.{Start}
use Rattle.pd_expect.proofs.stop.stop_of.Given as goal

abbrev pub invariant-loop-word : goal.invariant-loop-word
invariant-loop-word l = stop_from l.begun (words l.rest) ≡ stop_from Start (words l.line)

abbrev pub decreases-loop-word : goal.decreases-loop-word
decreases-loop-word l = length (words l.rest)
