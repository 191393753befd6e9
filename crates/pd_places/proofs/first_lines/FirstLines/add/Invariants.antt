use Rattle.std.proofs.Common.{◌≡◌, drop}
use Rattle.pd_places.specs.FirstLines.{added}
use Rattle.pd_places.proofs.first_lines.FirstLines.add.Given as goal

abbrev pub invariant-loop-byte : goal.invariant-loop-byte
invariant-loop-byte l = added l.initial.self l.more ≡ added l.self (drop l.byte-index l.more)
