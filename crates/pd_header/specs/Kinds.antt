-- The messages (USB Power Delivery 3.0, sections 6.3 and 6.4): the table of what is fixed of each kind, and the kind that a
-- header tells. What a message becomes where it is heard, and what sends it, stands in pd_line, specs/Told.antt.
use Rattle.std.specs.Prelude.{ℕ, Bool, true, false, ◌==◌, List, [], ◌∷◌, ◌++◌, find, unwrap_or, if◌then◌else◌, codes, decimal}
use Rattle.pd_header.specs.declared.kind.Kind.{Kind}
use Rattle.pd_header.specs.declared.kind.Kind.TheVariants.{GoodCrc, Accept, Reject, PsRdy, GetSourceCap, GetSinkCap, Wait}
use Rattle.pd_header.specs.declared.kind.Kind.TheVariants.{SoftReset, NotSupported, SourceCapabilities, Request, SinkCapabilities}
use Rattle.pd_header.specs.declared.kind.Kind.TheVariants.{VendorDefined, Other}
use Rattle.pd_header.specs.declared.side.Side.{Side}
use Rattle.pd_header.specs.declared.side.Side.TheVariants.{Source, Sink, Plug}
use Rattle.pd_header.specs.Header.{count_of, type_of}

-- what is fixed of a kind of message: its type in the header, the name that is shown, and which sides of the bench send it
pub record MessageRow : Type 0 where
  pub number : ℕ
  pub name : List ℕ
  pub senders : List Side

abbrev row : ℕ → List ℕ → List Side → MessageRow
row number name senders = record { number = number; name = name; senders = senders }

-- the table: first the control messages, which have no objects, then the data messages, which have one at the least
abbrev pub message_row : Kind → MessageRow
message_row GoodCrc = row 1 (codes "GoodCRC") (Source ∷ Sink ∷ Plug ∷ [])  -- answers each message but GoodCRC
message_row Accept = row 3 (codes "Accept") (Source ∷ Sink ∷ [])  -- answers Request and Soft_Reset
message_row Reject = row 4 (codes "Reject") (Source ∷ [])  -- answers Request
message_row PsRdy = row 6 (codes "PS_RDY") (Source ∷ [])  -- comes after Accept, when the power is as agreed
message_row GetSourceCap = row 7 (codes "Get_Source_Cap") (Sink ∷ [])  -- asks for Source_Capabilities
message_row GetSinkCap = row 8 (codes "Get_Sink_Cap") (Source ∷ [])  -- asks for Sink_Capabilities
message_row Wait = row 12 (codes "Wait") (Source ∷ [])  -- answers Request
message_row SoftReset = row 13 (codes "Soft_Reset") (Source ∷ Sink ∷ [])  -- asks for Accept
message_row NotSupported = row 16 (codes "Not_Supported") []
message_row SourceCapabilities = row 1 (codes "Source_Capabilities") (Source ∷ [])  -- answers Get_Source_Cap, asks for Request
message_row Request = row 2 (codes "Request") (Sink ∷ [])  -- answers Source_Capabilities, asks for Accept, Reject or Wait
message_row SinkCapabilities = row 4 (codes "Sink_Capabilities") (Sink ∷ [])  -- answers Get_Sink_Cap
message_row VendorDefined = row 15 (codes "Vendor_Defined") (Source ∷ Plug ∷ [])  -- Discover Identity and its answer
message_row (Other number) = row number (codes "Type" ++ decimal number) []

abbrev pub number_of : Kind → ℕ
number_of kind = (message_row kind).number

abbrev pub name_of : Kind → List ℕ
name_of kind = (message_row kind).name

abbrev pub control_messages : List Kind
control_messages = GoodCrc ∷ Accept ∷ Reject ∷ PsRdy ∷ GetSourceCap ∷ GetSinkCap ∷ Wait ∷ SoftReset ∷ NotSupported ∷ []

abbrev pub data_messages : List Kind
data_messages = SourceCapabilities ∷ Request ∷ SinkCapabilities ∷ VendorDefined ∷ []

-- the kinds of messages with so many objects
abbrev pub kinds_for : ℕ → List Kind
kinds_for count = if count == 0 then control_messages else data_messages

-- the kind of a message of this type with so many objects
unfoldable pub kind_of : ℕ → ℕ → Kind
kind_of number count = unwrap_or (find (λ kind. number_of kind == number) (kinds_for count)) (Other number)

abbrev pub kind_of_header : ℕ → Kind
kind_of_header header = kind_of (type_of header) (count_of header)

abbrev pub is_soft_reset : Kind → Bool
is_soft_reset SoftReset = true
is_soft_reset _ = false
