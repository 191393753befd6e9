use Rattle.std.proofs.Common.{append_assoc}
use Rattle.pd_log.specs.Names.{header_object}
use Rattle.pd_log.proofs.BehindName.{behind_header_members}
use Rattle.pd_log.proofs.names.push_header_object.Goals as goal

pub returns : goal.returns
unfolding header_object
returns c =
    let rest = behind_header_members c.channel_of-channel.result c.args.header in
    let told = c.in_ok-push_header_members.ensures in
    let head = c.in_ok-push_bench_member_head.ensures in
    let cut = c.split_at.ensures.back in
    let new = c.in_ok-push_member_head.ensures in
    rw (c.in_ok-extend_from_slice.ensures.items, new, cut, c.as_slice.ensures.value, c.as_slice-2.ensures.value, told, head)
    (rw (c.new-head.ensures.items, c.new-told.ensures.items)
    (rw (rest, c.channel_of-channel.ensures) (simp append_assoc)))
