use Rattle.std.proofs.Common.{◌≡◌, ◌++◌, take}
use Rattle.pd_text.specs.Strings.{escaped}
use Rattle.pd_text.proofs.string.push_escaped.Given as goal

abbrev pub invariant-loop-byte : goal.invariant-loop-byte
invariant-loop-byte l = l.text.items ≡ l.initial.text.items ++ escaped (take l.byte-index l.words)
