use Rattle.std.proofs.Common.{◌≡◌, ◌++◌, take}
use Rattle.pd_text.specs.Strings.{ascii}
use Rattle.pd_text.proofs.string.push_ascii.Given as goal

abbrev pub invariant-loop-byte : goal.invariant-loop-byte
invariant-loop-byte l = l.text.items ≡ l.initial.text.items ++ ascii (take l.byte-index l.words)
