use Rattle.std.proofs.Common.{append_assoc}
use Rattle.pd_log.specs.Names.{packet_object}
use Rattle.pd_log.proofs.BehindName.{behind_packet_members}
use Rattle.pd_log.proofs.names.push_packet_object.Goals as goal

pub returns : goal.returns
unfolding packet_object
returns c =
    let rest = behind_packet_members c.args.told.now.packet in
    let told = c.in_ok-push_packet_members.ensures in
    let head = c.in_ok-push_bench_member_head.ensures in
    let cut = c.split_at.ensures.back in
    let new = c.in_ok-push_member_head.ensures in
    rw (c.in_ok-extend_from_slice.ensures.items, new, cut, c.as_slice.ensures.value, c.as_slice-2.ensures.value, told, head)
    (rw (c.new-head.ensures.items, c.new-members.ensures.items)
    (rw (c.channel.ensures, c.header.ensures, c.header-2.ensures, rest) (simp append_assoc)))
