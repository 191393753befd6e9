use Rattle.std.proofs.Common.{◌≡◌, ◌++◌, List, ℕ, append_assoc}
use Rattle.pd_content.specs.Members.{packet_members}
use Rattle.pd_content.proofs.json.push_packet_members.Goals as goal

joined : (t header middle objects last t1 t2 t3 t4 : List ℕ) → t1 ≡ t ++ header → t2 ≡ t1 ++ middle → t3 ≡ t2 ++ objects →
    t4 ≡ t3 ++ last → t4 ≡ t ++ (header ++ (middle ++ (objects ++ last)))
joined t header middle objects last t1 t2 t3 t4 e f g h = rw (h, g, f, e) (simp append_assoc)

pub returns : goal.returns
unfolding packet_members
returns c =
    joined _ _ _ _ _ _ _ _ _ (rw (c.channel.ensures, c.header.ensures) at c.in_ok-push_header_members.ensures)
    c.in_ok-extend_from_slice.ensures.items c.in_ok-push_objects.ensures c.in_ok-push.ensures.items
