use Rattle.std.proofs.Common.{append_assoc}
use Rattle.pd_log.specs.Names.{packet_line}
use Rattle.pd_log.proofs.BehindName.{behind_packet}
use Rattle.pd_log.proofs.names.push_packet_line.Goals as goal

pub returns : goal.returns
unfolding packet_line
returns c =
    let rest = behind_packet c.args.told.now.packet in
    let told = c.in_ok-push_packet.ensures in
    let head = c.in_ok-push_bench_head.ensures in
    let cut = c.split_at.ensures.back in
    let new = c.in_ok-push_head.ensures in
    rw (c.in_ok-extend_from_slice.ensures.items, new, cut, c.as_slice.ensures.value, c.as_slice-2.ensures.value, told, head)
    (rw (c.new-head.ensures.items, c.new-words.ensures.items)
    (rw (c.channel.ensures, c.header.ensures, c.header-2.ensures, rest) (simp append_assoc)))
