use Rattle.std.proofs.Common.{◌≡◌, ◌+◌, ◌*◌, ◌++◌, length, take}
use Rattle.std.specs.List.{flat_map}
use Rattle.pd_device.specs.Text.{code_text}
use Rattle.pd_device.proofs.text.Text.push_codes.Given as goal

abbrev pub invariant-loop-code : goal.invariant-loop-code
invariant-loop-code g l = record {
  bytes : l.self ≡ l.initial.self ++ flat_map code_text (take l.code-index l.codes);
  grows : length l.self ≡ length l.initial.self + 3 * l.code-index;
}
