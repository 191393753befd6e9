use Rattle.std.proofs.Common.{codes}
use Rattle.pd_sweep.specs.PacketTexts.{then_object}
use Rattle.pd_sweep.proofs.TrialLemmas.{joined_three}
use Rattle.pd_sweep.proofs.packet_texts.push_then_object.Goals as goal

pub returns : goal.returns
unfolding then_object
returns c =
    joined_three _ _ _ _ (codes "{\"kind\":\"packet\"") _ (codes "}") c.in_ok-extend_from_slice.ensures.items
    c.in_ok-push_packet_members.ensures c.in_ok-extend_from_slice-2.ensures.items
