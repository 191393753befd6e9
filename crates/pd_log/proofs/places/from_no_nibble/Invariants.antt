use Rattle.std.proofs.Common.{◌≡◌, ◌≤◌, length}
use Rattle.pd_log.specs.Places.{from_no_nibble}
use Rattle.pd_log.proofs.places.from_no_nibble.Given as goal

abbrev pub invariant-loop-first : goal.invariant-loop-first
invariant-loop-first l = (from_no_nibble l.rest ≡ from_no_nibble l.initial.rest) × (length l.rest ≤ length l.initial.rest)

abbrev pub decreases-loop-first : goal.decreases-loop-first
decreases-loop-first l = length l.rest
