use Rattle.std.proofs.Common.{◌≡◌, ◌++◌, map, take}
use Rattle.pd_hints.specs.Slips.{shown}
use Rattle.pd_hints.proofs.slip.push_shown.Given as goal

abbrev pub invariant-loop-byte : goal.invariant-loop-byte
invariant-loop-byte l = l.text.items ≡ l.initial.text.items ++ map shown (take l.byte-index l.word)
