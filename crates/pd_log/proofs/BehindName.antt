-- What pd_content tells of a header and of a packet: a head with the bench's name of the message, and what stands behind it.
use Rattle.std.proofs.Common.{◌≡◌, ◌≤◌, ℕ, List, ◌++◌, append_assoc, length, drop, arith, refl}
use Rattle.std.proofs.lemmas.List.{drop_at, length-append}
use Rattle.pd_symbols.specs.declared.channel.Channel.{Channel}
use Rattle.pd_packet.specs.Contents.{Contents}
use Rattle.pd_content.specs.Texts.{header_text, packet_text}
use Rattle.pd_content.specs.Members.{header_members, packet_members}
use Rattle.pd_log.specs.Names.{bench_head, bench_member_head, header_behind, header_members_behind, packet_behind, packet_members_behind}

cut : (head rest whole : List ℕ) → whole ≡ head ++ rest → drop (length head) whole ≡ rest
cut head rest whole is = rw is (drop_at head rest (length head) refl)

long : (head rest whole : List ℕ) → whole ≡ head ++ rest → length head ≤ length whole
long head rest whole is = let sum = length-append head rest in rw is (omega arith)

of_header : (channel : Channel) (header : ℕ) → header_text channel header ≡ bench_head channel header ++ header_behind channel header
unfolding header_text bench_head header_behind
of_header channel header = simp append_assoc

of_packet : (p : Contents) → packet_text p ≡ bench_head p.channel p.header ++ packet_behind p
unfolding packet_text header_text bench_head packet_behind
of_packet p = simp append_assoc

of_header_members : (channel : Channel) (header : ℕ)
    → header_members channel header ≡ bench_member_head channel header ++ header_members_behind channel header
unfolding header_members bench_member_head header_members_behind
of_header_members channel header = simp append_assoc

of_packet_members : (p : Contents) → packet_members p ≡ bench_member_head p.channel p.header ++ packet_members_behind p
unfolding packet_members packet_members_behind
of_packet_members p = rw (of_header_members p.channel p.header) (simp append_assoc)

pub behind_header : (channel : Channel) (header : ℕ)
    → drop (length (bench_head channel header)) (header_text channel header) ≡ header_behind channel header
behind_header channel header = cut _ _ _ (of_header channel header)

pub long_header : (channel : Channel) (header : ℕ) → length (bench_head channel header) ≤ length (header_text channel header)
long_header channel header = long _ _ _ (of_header channel header)

pub behind_packet : (p : Contents) → drop (length (bench_head p.channel p.header)) (packet_text p) ≡ packet_behind p
behind_packet p = cut _ _ _ (of_packet p)

pub long_packet : (p : Contents) → length (bench_head p.channel p.header) ≤ length (packet_text p)
long_packet p = long _ _ _ (of_packet p)

pub behind_header_members : (channel : Channel) (header : ℕ)
    → drop (length (bench_member_head channel header)) (header_members channel header) ≡ header_members_behind channel header
behind_header_members channel header = cut _ _ _ (of_header_members channel header)

pub long_header_members : (channel : Channel) (header : ℕ)
    → length (bench_member_head channel header) ≤ length (header_members channel header)
long_header_members channel header = long _ _ _ (of_header_members channel header)

pub behind_packet_members : (p : Contents)
    → drop (length (bench_member_head p.channel p.header)) (packet_members p) ≡ packet_members_behind p
behind_packet_members p = cut _ _ _ (of_packet_members p)

pub long_packet_members : (p : Contents) → length (bench_member_head p.channel p.header) ≤ length (packet_members p)
long_packet_members p = long _ _ _ (of_packet_members p)
