-- What becomes of a packet's codes on the line, and what a side that hears makes of those that are left.
use Rattle.std.specs.Prelude.{◌≡◌, ◌↔◌, ℕ, ◌+◌, ◌-◌, ◌%◌, Bool, true, false, List, length, take, slice_index, slice_set, bit_xor}
use Rattle.std.specs.Prelude.{if◌then◌else◌, Option, Some, None}
use Rattle.std.specs.Option.{option_and_then}
use Rattle.std.specs.Str.{bytes_eq}
use Rattle.pd_symbols.specs.declared.channel.Channel.{Channel}
use Rattle.pd_symbols.specs.declared.channel.Channel.TheVariants as channels
use Rattle.pd_symbols.specs.Sets.{set_codes, channel_set}
use Rattle.pd_packet.specs.declared.fate.Fate.{Fate}
use Rattle.pd_packet.specs.declared.fate.Fate.TheVariants.{Undisturbed, Lost, Damaged}
use Rattle.pd_packet.specs.Contents.{Contents}
use Rattle.pd_packet.specs.Damage.{DamageData}
use Rattle.pd_packet.specs.Reading.{header_of, objects_of}
use Rattle.pd_packet.specs.Spelling.{Spells, spelling}

-- the channel whose ordered set the codes begin with; any, where they begin with none
abbrev pub channel_in : List ℕ → Channel
channel_in s = if bytes_eq (take 4 s) (set_codes (channel_set channels.Sop)) then channels.Sop else channels.SopPrime

-- what the codes give by their places
unfoldable pub contents_in : List ℕ → Contents
contents_in s = record { channel = channel_in s; header = header_of s; objects = objects_of s }

-- the packet that the codes spell, or nothing
unfoldable pub received : List ℕ → Option Contents
received s = if bytes_eq s (spelling (contents_in s)) then Some (contents_in s) else None

-- That packet is the one with these codes.
abbrev pub ReceivedIsSpelled : Type 0
ReceivedIsSpelled = (s : List ℕ) (p : Contents) → (received s ≡ Some p) ↔ Spells s p

-- the place of n codes that is hit: the ones after the first four are counted round
unfoldable pub place_hit : ℕ → DamageData → ℕ
place_hit n d = 4 + d.place % (n - 4)

-- the code there has the mask's bits turned
abbrev pub hit : DamageData → List ℕ → ℕ → List ℕ
hit d s place = slice_set s place (bit_xor (slice_index s place) d.mask)

unfoldable pub damaged : DamageData → List ℕ → List ℕ
damaged d s = hit d s (place_hit (length s) d)

-- the codes that are left of those that were sent
abbrev pub left : Fate → List ℕ → Option (List ℕ)
left Undisturbed s = Some s
left Lost s = None
left (Damaged d) s = Some (damaged d s)

-- the codes of a packet as a listing shows them: changed where it is damaged, and all of them where it is lost
abbrev pub shown : Contents → Fate → List ℕ
shown p Undisturbed = spelling p
shown p Lost = spelling p
shown p (Damaged d) = damaged d (spelling p)

-- the packet that a side that hears gets of one that was sent
unfoldable pub heard : Contents → Fate → Option Contents
heard p fate = option_and_then received (left fate (spelling p))

abbrev pub kept : Bool → Contents → Option Contents
kept true p = Some p
kept false p = None

-- What a side hears, whatever became of it on the line, is the packet of the codes that were sent.
abbrev pub HeardIsSent : Type 0
HeardIsSent = (p q : Contents) (fate : Fate) → heard p fate ≡ Some q → Spells (spelling p) q
