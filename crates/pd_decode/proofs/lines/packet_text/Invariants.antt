use Rattle.std.proofs.Common.{◌≡◌, ◌+◌, ◌*◌, ◌++◌, length, take}
use Rattle.std.specs.List.{flat_map}
use Rattle.pd_decode.specs.Lines.{object_line}
use Rattle.pd_decode.proofs.lines.packet_text.Given as goal

abbrev pub invariant-loop-object : goal.invariant-loop-object
invariant-loop-object l = record {
  bytes : l.text ≡ l.initial.text ++ flat_map object_line (take l.object-index l.objects);
  grows : length l.text ≡ length l.initial.text + 16 * l.object-index;
}
