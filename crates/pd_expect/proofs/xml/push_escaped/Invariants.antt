use Rattle.std.proofs.Common.{◌≡◌, ◌++◌, take}
use Rattle.std.specs.List.{flat_map}
use Rattle.pd_expect.specs.Xml.{shown_byte}
use Rattle.pd_expect.proofs.xml.push_escaped.Given as goal

abbrev pub invariant-loop-byte : goal.invariant-loop-byte
invariant-loop-byte l = l.text.items ≡ l.initial.text.items ++ flat_map (shown_byte l.is_whole) (take l.byte-index l.words)
