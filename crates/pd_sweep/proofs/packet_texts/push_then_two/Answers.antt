use Rattle.std.proofs.Common.{codes}
use Rattle.pd_sweep.specs.PacketTexts.{then_object, then_two}
use Rattle.pd_sweep.proofs.TrialLemmas.{joined_five}
use Rattle.pd_sweep.proofs.packet_texts.push_then_two.Goals as goal

pub returns : goal.returns
unfolding then_two
returns c =
    joined_five _ _ _ _ _ _ (codes ",\"then\":[") (then_object c.args.second.now) (codes ",") (then_object c.args.third.now) (codes "]")
    c.in_ok-extend_from_slice.ensures.items c.in_ok-push_then_object.ensures c.in_ok-extend_from_slice-2.ensures.items
    c.in_ok-push_then_object-2.ensures c.in_ok-extend_from_slice-3.ensures.items
