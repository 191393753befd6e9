-- A packet, and packets that are lost in one run, as text.
use Rattle.std.specs.Prelude.{ℕ, List, [], ◌∷◌, ◌++◌, codes, decimal}
use Rattle.pd_symbols.specs.declared.channel.Channel.{Channel}
use Rattle.pd_symbols.specs.declared.channel.Channel.TheVariants.{Sop, SopPrime}
use Rattle.pd_header.specs.Header.{id_of}
use Rattle.pd_header.specs.Kinds.{kind_of_header, name_of}
use Rattle.pd_device.specs.Text.{right}
use Rattle.pd_tell.specs.Members.{number_member, text_member}
use Rattle.pd_tell.specs.Words.{side_words}
use Rattle.pd_sweep.specs.Names.{set_name}
use Rattle.pd_sweep.specs.Sets.{first_of}
use Rattle.pd_sweep.specs.declared.packets.Target.{Target}
use Rattle.pd_sweep.specs.declared.sets.Packets.{Packets}
use Rattle.pd_sweep.specs.declared.sets.Packets.TheVariants.{One, Two, Three}

-- ---- words

-- the ordered set
abbrev pub set_words : Channel → List ℕ
set_words Sop = codes " SOP "
set_words SopPrime = codes " SOP' "

-- the ordered set of a message, its name and its ID
abbrev pub message_words : Channel → ℕ → List ℕ
message_words channel header = set_words channel ++ (name_of (kind_of_header header) ++ (32 ∷ decimal (id_of header)))

-- what stands behind a packet's time: its port, who sends it, and the message
abbrev pub sender_words : Target → List ℕ
sender_words t = codes " port " ++ (decimal t.port ++ (32 ∷ (side_words t.side ++ message_words t.channel t.header)))

-- a packet where a line begins, and within one
unfoldable pub packet_words : Target → List ℕ
packet_words t = right t.at ++ sender_words t

unfoldable pub packet_name : Target → List ℕ
packet_name t = decimal t.at ++ sender_words t

-- one that is lost too
abbrev pub then_words : Target → List ℕ
then_words t = codes " and " ++ packet_name t

abbrev pub later_words : Packets → List ℕ
later_words (One a) = []
later_words (Two a b) = then_words b
later_words (Three a b c) = then_words b ++ then_words c

-- all of them
abbrev pub packets_words : Packets → List ℕ
packets_words ps = packet_words (first_of ps) ++ later_words ps

abbrev pub packets_name : Packets → List ℕ
packets_name ps = packet_name (first_of ps) ++ later_words ps

-- ---- members of an object

-- a packet's ordered set, the message's name and its ID
abbrev pub message_members : Channel → ℕ → List ℕ
message_members channel header =
    text_member (codes "set") (set_name channel)
    ++ (text_member (codes "message") (name_of (kind_of_header header)) ++ number_member (codes "id") (id_of header))

-- its time, its port, who sends it, and the message
abbrev pub packet_members : Target → List ℕ
packet_members t =
    number_member (codes "at_us") t.at ++ (number_member (codes "port") t.port ++ (text_member (codes "side") (side_words t.side)
    ++ message_members t.channel t.header))

-- one that is lost too
unfoldable pub then_object : Target → List ℕ
then_object t = codes "{\"kind\":\"packet\"" ++ (packet_members t ++ codes "}")

unfoldable pub then_one : Target → List ℕ
then_one b = codes ",\"then\":[" ++ (then_object b ++ codes "]")

unfoldable pub then_two : Target → Target → List ℕ
then_two b c = codes ",\"then\":[" ++ (then_object b ++ (codes "," ++ (then_object c ++ codes "]")))

abbrev pub later_member : Packets → List ℕ
later_member (One a) = []
later_member (Two a b) = then_one b
later_member (Three a b c) = then_two b c

abbrev pub packets_members : Packets → List ℕ
packets_members ps = packet_members (first_of ps) ++ later_member ps

-- ---- a value: those that are lost too

abbrev pub later_value : Packets → List ℕ
later_value (One a) = codes ","
later_value (Two a b) = codes "," ++ packet_name b
later_value (Three a b c) = codes "," ++ (packet_name b ++ then_words c)
