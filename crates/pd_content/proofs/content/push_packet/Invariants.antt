use Rattle.std.proofs.Common.{◌≡◌, ◌++◌}
use Rattle.pd_content.specs.Texts.{objects_text}
use Rattle.pd_content.proofs.content.push_packet.Given as goal

abbrev pub invariant-loop-index : goal.invariant-loop-index
invariant-loop-index l = l.text.items ≡ l.initial.text.items ++ objects_text l.packet l.index
