use Rattle.std.proofs.Common.{append_assoc}
use Rattle.pd_log.specs.Names.{header_line}
use Rattle.pd_log.proofs.BehindName.{behind_header}
use Rattle.pd_log.proofs.names.push_header_line.Goals as goal

pub returns : goal.returns
unfolding header_line
returns c =
    let rest = behind_header c.channel_of-channel.result c.args.header in
    let told = c.in_ok-push_header.ensures in
    let head = c.in_ok-push_bench_head.ensures in
    let cut = c.split_at.ensures.back in
    let new = c.in_ok-push_head.ensures in
    rw (c.in_ok-extend_from_slice.ensures.items, new, cut, c.as_slice.ensures.value, c.as_slice-2.ensures.value, told, head)
    (rw (c.new-head.ensures.items, c.new-told.ensures.items)
    (rw (rest, c.channel_of-channel.ensures) (simp append_assoc)))
