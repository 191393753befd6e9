-- What is said of the codes that a user gives: this product's own lines.
use Rattle.std.specs.Prelude.{ℕ, List, Ok, Err}
use Rattle.pd_packet.specs.Reading.{Reads}
use Rattle.pd_decode.specs.declared.decoded.Decoded.{Decoded}
use Rattle.pd_decode.specs.declared.decoded.Decoded.TheVariants.{Packet, Fault, Refused}
use Rattle.pd_decode.specs.Argument.{Gives}
use Rattle.pd_decode.specs.Lines.{packet_text, fault_line, refused_line}

-- what a text comes to: what reading its codes answers, or that it gives none
abbrev pub Decodes : List ℕ → Decoded → Type 0
Decodes text (Packet packet) = (given : List ℕ) × Gives text given × Reads given (Ok packet)
Decodes text (Fault fault) = (given : List ℕ) × Gives text given × Reads given (Err fault)
Decodes text Refused = (given : List ℕ) → ¬ Gives text given

-- what is printed
abbrev pub decoded_text : Decoded → List ℕ
decoded_text (Packet packet) = packet_text packet
decoded_text (Fault fault) = fault_line fault
decoded_text Refused = refused_line

-- the status of the program
abbrev pub status_of : Decoded → ℕ
status_of (Packet packet) = 0
status_of (Fault fault) = 1
status_of Refused = 1
