use Rattle.pd_log.specs.Lines.{either_text}
use Rattle.pd_log.proofs.Joined.{three}
use Rattle.pd_log.proofs.line.push_either.Goals as goal

pub returns : goal.returns
unfolding either_text
returns c =
    three _ _ _ _ _ _ _ c.in_ok-push_packet_line.ensures c.in_ok-extend_from_slice.ensures.items c.in_ok-push_packet_line-2.ensures
