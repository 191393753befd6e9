-- What a line of a log says, as a line of text: this product's own form.
use Rattle.std.specs.Prelude.{ℕ, List, [], ◌∷◌, ◌++◌, codes, decimal, Option, Some, None}
use Rattle.pd_header.specs.Header.{count_of}
use Rattle.pd_packet.specs.declared.fault.PacketFault.{PacketFault}
use Rattle.pd_packet.specs.declared.fault.PacketFault.TheVariants as fault
use Rattle.pd_packet.specs.Reading.{number_of}
use Rattle.pd_log.specs.declared.mark.Mark.{Mark}
use Rattle.pd_log.specs.declared.mark.Mark.TheVariants.{Whole, Lost, Damaged}
use Rattle.pd_log.specs.declared.answer.Answer.{Answer}
use Rattle.pd_log.specs.declared.answer.LogPacket.{LogPacket}
use Rattle.pd_log.specs.declared.sets.PacketSet.{PacketSet}
use Rattle.pd_log.specs.declared.answer.Answer.TheVariants.{Nothing, Packet, Supplies, Bytes, Either, Fault, HardReset}
use Rattle.pd_log.specs.declared.answer.Answer.TheVariants.{CableReset, Header, Miscounted, Spoiled, Unknown}
use Rattle.pd_log.specs.Names.{header_line, packet_line}

abbrev pub mark_text : Mark → List ℕ
mark_text Whole = []
mark_text Lost = codes " lost"
mark_text Damaged = codes " damaged"

abbrev pub fault_words : PacketFault → List ℕ
fault_words fault.Set = codes "the first four codes are no ordered set of a packet"
fault_words fault.Code = codes "the code stands for no nibble"
fault_words fault.Length = codes "the codes are not as many as the header tells"
fault_words fault.Eop = codes "the last code is not EOP"
fault_words fault.Check = codes "the CRC is another"

-- a fault, by its number and the place of the code at which it shows
unfoldable pub fault_text : PacketFault → ℕ → List ℕ
fault_text fault at =
    codes "fault " ++ (decimal (number_of fault) ++ (codes " at code " ++ (decimal at ++ (codes ": " ++ fault_words fault))))

unfoldable pub told_text : ℕ → List ℕ
told_text header = codes ", told by the header " ++ decimal (count_of header)

-- a header that tells of other objects than there are
unfoldable pub counts_text : PacketSet → ℕ → ℕ → List ℕ
counts_text set header there = header_line set header ++ (codes " | objects there " ++ (decimal there ++ told_text header))

-- a packet whose supplies are a kernel's words
unfoldable pub supplies_text : LogPacket → List ℕ
supplies_text p = packet_line p ++ codes " (as the log's words tell it)"

-- a packet that was read as bytes
unfoldable pub bytes_text : LogPacket → List ℕ
bytes_text p = packet_line p ++ codes " (as bytes, low first)"

-- a packet of words, and that of the bytes
unfoldable pub either_text : LogPacket → LogPacket → List ℕ
either_text p q = packet_line p ++ (codes "; or as bytes, low first: " ++ packet_line q)

unfoldable pub said : Answer → List ℕ
said Nothing = []
said (Packet p mark) = packet_line p ++ mark_text mark
said (Supplies p) = supplies_text p
said (Bytes p) = bytes_text p
said (Either p q) = either_text p q
said (Fault fault at mark) = fault_text fault at ++ mark_text mark
said (HardReset mark) = codes "Hard Reset" ++ mark_text mark
said (CableReset mark) = codes "Cable Reset" ++ mark_text mark
said (Header set header) = counts_text set header 0
said (Miscounted set header there) = counts_text set header there
said Spoiled = codes "the packet before is damaged"
said Unknown = codes "unknown form"

-- a log's own time
unfoldable pub time_text : Option (List ℕ) → List ℕ
time_text None = []
time_text (Some time) = 91 ∷ (time ++ codes "] ")

-- the log's own line behind its number, on a line of its own
unfoldable pub shown_line : ℕ → Option (List ℕ) → List ℕ
shown_line n None = []
shown_line n (Some line) = decimal n ++ (codes "> " ++ (line ++ 10 ∷ []))

-- behind the number of the line, and the log's own time
unfoldable pub told_line : ℕ → Option (List ℕ) → Answer → List ℕ
told_line n time answer = decimal n ++ (codes ": " ++ (time_text time ++ (said answer ++ 10 ∷ [])))

-- behind the log's own line, where that is shown; a line that says nothing has none
unfoldable pub line_text : ℕ → Option (List ℕ) → Option (List ℕ) → Answer → List ℕ
line_text n time line Nothing = []
line_text n time line answer = shown_line n line ++ told_line n time answer
