use Rattle.std.proofs.Common.{◌≡◌, ◌++◌, take}
use Rattle.std.specs.List.{flat_map}
use Rattle.pd_device.specs.Text.{code_text}
use Rattle.pd_tell.proofs.starts.push_codes.Given as goal

abbrev pub invariant-loop-code : goal.invariant-loop-code
invariant-loop-code l = l.text.items ≡ l.initial.text.items ++ flat_map code_text (take l.code-index l.codes)
