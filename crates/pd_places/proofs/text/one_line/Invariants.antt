use Rattle.std.proofs.Common.{◌≡◌, take}
use Rattle.pd_places.specs.Places.{one_line}
use Rattle.pd_places.proofs.text.one_line.Given as goal

abbrev pub invariant-loop-byte : goal.invariant-loop-byte
invariant-loop-byte l = l.line.items ≡ one_line (take l.byte-index l.name)
