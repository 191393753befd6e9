use Rattle.std.proofs.Common.{◌≡◌, ◌++◌, take}
use Rattle.pd_explain_text.specs.Warnings.{warnings_text}
use Rattle.pd_explain_text.proofs.warnings.push_lines.Given as goal

abbrev pub invariant-loop-warning : goal.invariant-loop-warning
invariant-loop-warning l = l.text.items ≡ l.fn.text.items ++ warnings_text l.file l.edits l.made (take l.warning-index l.warnings)
