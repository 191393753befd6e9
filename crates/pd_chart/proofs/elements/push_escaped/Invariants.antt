use Rattle.std.proofs.Common.{◌≡◌, ◌++◌, take}
use Rattle.pd_chart.specs.Elements.{escaped}
use Rattle.pd_chart.proofs.elements.push_escaped.Given as goal

abbrev pub invariant-loop-byte : goal.invariant-loop-byte
invariant-loop-byte l = l.text.items ≡ l.fn.text.items ++ escaped (take l.byte-index l.words)
