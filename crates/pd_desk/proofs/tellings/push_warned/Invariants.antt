use Rattle.std.proofs.Common.{◌≡◌, ◌++◌, take}
use Rattle.pd_desk.specs.Tellings.{warned_text}
use Rattle.pd_desk.proofs.tellings.push_warned.Given as goal

abbrev pub invariant-loop-warning : goal.invariant-loop-warning
invariant-loop-warning l = l.text.items ≡ l.initial.text.items ++ warned_text (take l.warning-index l.warnings)
