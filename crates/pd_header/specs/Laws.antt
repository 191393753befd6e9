-- Headers and words are one to one, and so are the kinds of messages and their numbers.
use Rattle.std.specs.Prelude.{◌≡◌, ℕ, ◌^◌, ◌<◌}
use Rattle.std.specs.List.{AllByRecursion}
use Rattle.pd_header.specs.Header.{HeaderData, IsHeader, packed, unpacked}
use Rattle.pd_header.specs.Kinds.{number_of, kinds_for, kind_of}

abbrev pub UnpackedPacked : Type 0
UnpackedPacked = (h : HeaderData) → IsHeader h → unpacked (packed h) ≡ h

abbrev pub PackedUnpacked : Type 0
PackedUnpacked = (w : ℕ) → w < 2 ^ 16 → packed (unpacked w) ≡ w

-- the number of a message in the table tells it again: of a control message without objects, of a data message with objects
abbrev pub KindsComeBack : Type 0
KindsComeBack = (count : ℕ) → AllByRecursion (λ kind. kind_of (number_of kind) count ≡ kind) (kinds_for count)

-- the kind that a number tells has that number, whatever the count of objects
abbrev pub NumbersComeBack : Type 0
NumbersComeBack = (number count : ℕ) → number_of (kind_of number count) ≡ number
