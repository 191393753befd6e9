use Rattle.std.proofs.Common.{◌≡◌, ◌++◌, take}
use Rattle.pd_text.specs.Pages.{unclosed}
use Rattle.pd_text.proofs.page.push_unclosed.Given as goal

abbrev pub invariant-loop-byte : goal.invariant-loop-byte
invariant-loop-byte l = l.text.items ≡ l.initial.text.items ++ unclosed (take l.byte-index l.json)
