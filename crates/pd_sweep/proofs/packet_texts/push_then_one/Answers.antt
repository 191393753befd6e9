use Rattle.std.proofs.Common.{codes}
use Rattle.pd_sweep.specs.PacketTexts.{then_object, then_one}
use Rattle.pd_sweep.proofs.TrialLemmas.{joined_three}
use Rattle.pd_sweep.proofs.packet_texts.push_then_one.Goals as goal

pub returns : goal.returns
unfolding then_one
returns c =
    joined_three _ _ _ _ (codes ",\"then\":[") (then_object c.args.second.now) (codes "]") c.in_ok-extend_from_slice.ensures.items
    c.in_ok-push_then_object.ensures c.in_ok-extend_from_slice-2.ensures.items
