use Rattle.std.proofs.Common.{◌≡◌, length}
use Rattle.pd_log.specs.Parts.{parts}
use Rattle.pd_log.specs.Sniffed.{last_behind, last_of}
use Rattle.pd_log.proofs.sniffed.last_of.Given as goal

abbrev pub invariant-loop-part : goal.invariant-loop-part
invariant-loop-part l = last_behind l.last (parts l.line) ≡ last_of (parts l.initial.line)

abbrev pub decreases-loop-part : goal.decreases-loop-part
decreases-loop-part l = length (parts l.line)
