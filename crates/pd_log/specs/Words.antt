-- The header and the objects that the parts of a line give, as numbers in hexadecimal.
use Rattle.std.specs.Prelude.{ℕ, ◌+◌, ◌-◌, ◌*◌, ◌&&◌, ◌||◌, ◌==◌, nat_le, Bool, List, [], ◌∷◌, ◌++◌, length, fold, take, drop}
use Rattle.std.specs.Prelude.{Option, Some, None, option_map, unwrap_or, bytes_eq, codes, if◌then◌else◌}
use Rattle.std.specs.List.{list_all}
use Rattle.std.specs.Char.{is_ascii_hexdigit}
use Rattle.pd_header.specs.Header.{count_of}
use Rattle.pd_log.specs.Codes.{or_else, without_0x}
use Rattle.pd_log.specs.declared.words.ObjectPart.{ObjectPart}
use Rattle.pd_log.specs.declared.words.ObjectPart.TheVariants.{Index, Object}
use Rattle.pd_log.specs.declared.sets.PacketSet.{PacketSet}
use Rattle.pd_log.specs.declared.sets.PacketSet.TheVariants.{Sop}
use Rattle.pd_log.specs.Parts.{Parts, ◌>>=◌, next}
use Rattle.pd_log.specs.Plain.{plain}
use Rattle.pd_log.specs.Sets.{named}

-- the value of a hexadecimal digit of either case
abbrev pub value_of : ℕ → ℕ
value_of c = if nat_le c 57 then c - 48 else if nat_le c 70 then c - 55 else c - 87

-- the number of hexadecimal digits
abbrev pub number_of : List ℕ → Option ℕ
number_of digits = if list_all is_ascii_hexdigit digits then Some (fold (λ n c. 16 * n + value_of c) 0 digits) else None

-- a header in four digits
abbrev pub four_of : List ℕ → Option ℕ
four_of digits = if length digits == 4 then number_of digits else None

-- a header in one to four digits
abbrev pub short_of : List ℕ → Option ℕ
short_of digits = if nat_le 1 (length digits) && nat_le (length digits) 4 then number_of digits else None

-- an object in eight digits
abbrev pub object_of : List ℕ → Option ℕ
object_of part = if length (without_0x part) == 8 then number_of (without_0x part) else None

-- a header in four digits, and behind a slash the count of objects that it tells
abbrev pub counted_of : List ℕ → Option ℕ
counted_of part = do
  header ← four_of (take 4 part)
  if bytes_eq (drop 4 part) (47 ∷ (48 + count_of header) ∷ []) then Some header else None

-- what stands before a header in the log of an embedded controller, or of Zephyr
abbrev pub is_sent_or_received : List ℕ → Bool
is_sent_or_received word =
    bytes_eq word (codes "RECV") || (bytes_eq word (codes "SEND") || (bytes_eq word (codes "RX") || bytes_eq word (codes "TX")))

-- the header that a part gives behind such a word, or behind header:, which a kernel writes
abbrev pub announced_of : List ℕ → List ℕ → Option ℕ
announced_of word part =
    if bytes_eq word (codes "header:") then short_of (without_0x part)
    else if is_sent_or_received word then or_else (four_of (without_0x part)) (counted_of part)
    else None

-- an index in brackets, and what stands right behind it, as [0]0001912C: Zephyr and embedded controllers number objects so, and a kernel
-- counts its contracts
abbrev pub behind_index : List ℕ → Option (List ℕ)
behind_index (a ∷ b ∷ c ∷ rest) = if a == 91 && c == 93 then Some rest else None
behind_index _ = None

-- the header behind a word, and what stands behind it
abbrev pub announced_at : List ℕ → Parts → Option (ℕ × Parts)
announced_at word ps = do
  found ← next ps
  header ← announced_of word found.0
  Some (header, found.1)

-- the first header that a word announces
abbrev pub announced_in : Parts → Option (ℕ × Parts)
announced_in [] = None
announced_in (p ∷ ps) = or_else (announced_at p ps) (announced_in ps)

-- the header that a line begins with, and what stands behind it
abbrev pub plain_at : Parts → Option (ℕ × Parts)
plain_at ps = do
  found ← next ps
  header ← four_of (without_0x found.0)
  Some (header, found.1)

abbrev pub header_at : Parts → Option (ℕ × Parts)
header_at ps = or_else (announced_in ps) (plain_at ps)

-- what a part gives of the objects: an index alone none, and else one, behind an index or not
abbrev pub given_in : List ℕ → Option ObjectPart
given_in part = by_index part (behind_index part)
  where
    by_index : List ℕ → Option (List ℕ) → Option ObjectPart
    by_index part (Some []) = Some Index
    by_index part (Some (c ∷ cs)) = option_map (λ object. Object object) (object_of (c ∷ cs))
    by_index part None = option_map (λ object. Object object) (object_of part)

abbrev pub objects_given : ObjectPart → List ℕ
objects_given Index = []
objects_given (Object object) = object ∷ []

-- the objects of the parts
abbrev pub objects_in : Parts → Option (List ℕ)
objects_in [] = Some []
objects_in (p ∷ ps) = do
  given ← given_in p
  others ← objects_in ps
  Some (objects_given given ++ others)

-- the header and the objects of a line, as many as there are
abbrev pub given_words : Parts → Option (ℕ × List ℕ)
given_words ps = do
  header ← header_at ps
  objects ← objects_in header.1
  Some (header.0, objects)

-- the set that a line of words names, by the first part that names one; else its packet is between the ports
abbrev pub set_told : Parts → PacketSet
set_told [] = Sop
set_told (p ∷ ps) = unwrap_or (named (plain p)) (set_told ps)

-- objects before others
abbrev pub with_objects : List ℕ → Option (List ℕ) → Option (List ℕ)
with_objects read others = option_map (λ more. read ++ more) others
