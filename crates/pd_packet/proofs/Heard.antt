-- An undisturbed packet arrives, and a disturbed one reaches nobody.
use Rattle.std.proofs.Common.{◌≡◌, ℕ, ◌<◌, ◌≤◌, Bool, true, false, List, length, take, get_or, Option, Some, None, if◌then◌else◌}
use Rattle.std.proofs.Common.{refl, sym, ap, subst, ◌∙◌, arith}
use Rattle.std.specs.Prelude.{bit_xor}
use Rattle.std.specs.Str.{bytes_eq}
use Rattle.std.specs.Int.Bits.{xor_assoc, xor_self, xor_zero_l}
use Rattle.std.proofs.lemmas.Slice.Eq.{bytes_eq-Decides}
use Rattle.pd_symbols.specs.declared.channel.Channel.{Channel}
use Rattle.pd_symbols.specs.declared.channel.Channel.TheVariants as channels
use Rattle.pd_symbols.specs.Sets.{set_codes, channel_set}
use Rattle.pd_symbols.specs.Codes.{code_of}
use Rattle.pd_packet.specs.declared.fate.Fate.TheVariants.{Undisturbed, Lost, Damaged}
use Rattle.pd_packet.specs.Contents.{Contents, IsPacket}
use Rattle.pd_packet.specs.Damage.{DamageData, IsDamage}
use Rattle.pd_packet.specs.Hearing.{contents_in, received, ReceivedIsSpelled, place_hit, damaged, heard}
use Rattle.pd_packet.specs.Spelling.{Spells, spelling}
use Rattle.pd_packet.proofs.OneCode.{one_code}
use Rattle.pd_packet.proofs.Spelled.{counted, header_fits, header_is, objects_are, objects_of_fit, same_contents, set_is, length_spelling}

channel_found : (front : List ℕ) (c : Channel) → front ≡ set_codes (channel_set c)
    → ◌≡◌ {A = Channel} (if bytes_eq front (set_codes (channel_set channels.Sop)) then channels.Sop else channels.SopPrime) c
unfolding code_of
channel_found front channels.Sop e =
    ap (λ (xs : List ℕ). if bytes_eq xs (set_codes (channel_set channels.Sop)) then channels.Sop else channels.SopPrime) e
channel_found front channels.SopPrime e =
    ap (λ (xs : List ℕ). if bytes_eq xs (set_codes (channel_set channels.Sop)) then channels.Sop else channels.SopPrime) e

contents_are : (s : List ℕ) (p : Contents) → Spells s p → contents_in s ≡ p
unfolding contents_in
contents_are s p h =
    same_contents (contents_in s) p (channel_found (take 4 s) p.channel (set_is s p h)) (header_is s p h) (objects_are s p h)

is_packet : (s : List ℕ) → IsPacket (contents_in s)
unfolding contents_in
is_packet s = record { header_fits = header_fits s; objects_fit = objects_of_fit s; counted = counted s }

-- the test's answer
tested : (s : List ℕ) (b : Bool) → bytes_eq s (spelling (contents_in s)) ≡ b → received s ≡ if b then Some (contents_in s) else None
unfolding received
tested s b e = ap (λ (t : Bool). if t then Some (contents_in s) else None) e

some_is : (x p : Contents) → ◌≡◌ {A = Option Contents} (Some x) (Some p) → x ≡ p
some_is x p e = cc

to_spelled : (s : List ℕ) (p : Contents) (b : Bool) → bytes_eq s (spelling (contents_in s)) ≡ b → received s ≡ Some p → Spells s p
to_spelled s p true e r =
    let same : contents_in s ≡ p = some_is (contents_in s) p (sym (tested s true e) ∙ r) in
    subst (λ (q : Contents). Spells s q) same (record {
      is_packet = is_packet s;
      codes = (bytes_eq-Decides s (spelling (contents_in s))).0 e;
    })
to_spelled s p false e r = let none : ◌≡◌ {A = Option Contents} None (Some p) = sym (tested s false e) ∙ r in cc

from_spelled : (s : List ℕ) (p : Contents) → Spells s p → received s ≡ Some p
from_spelled s p h =
    let same = contents_are s p h in
    let codes : s ≡ spelling (contents_in s) = h.codes ∙ ap spelling (sym same) in
    tested s true ((bytes_eq-Decides s (spelling (contents_in s))).1 codes) ∙ ap (λ (q : Contents). Some q) same

pub received_is_spelled : ReceivedIsSpelled
received_is_spelled s p = (to_spelled s p (bytes_eq s (spelling (contents_in s))) refl, from_spelled s p)

-- what is none of the packets is not received
nothing : (s : List ℕ) (o : Option Contents) → received s ≡ o → ((q : Contents) → ¬ Spells s q) → o ≡ None
nothing s None e none = refl
nothing s (Some q) e none = absurd (none q ((received_is_spelled s q).0 e))

own_codes : (p : Contents) → IsPacket p → Spells (spelling p) p
own_codes p h = record { is_packet = h; codes = refl }

pub undisturbed : (p : Contents) → IsPacket p → heard p Undisturbed ≡ Some p
unfolding heard
undisturbed p h = (received_is_spelled (spelling p) p).1 (own_codes p h)

pub lost : (p : Contents) → heard p Lost ≡ None
unfolding heard
lost p = refl

-- a mask other than 0 changes every code
turned : (c m : ℕ) → 1 ≤ m → bit_xor c m ≡ c → ⊥
turned c m some e =
    let none : m ≡ 0 = sym (xor_zero_l m) ∙ ap (λ (z : ℕ). bit_xor z m) (sym (xor_self c)) ∙ xor_assoc c c m
    ∙ ap (λ (x : ℕ). bit_xor c x) e ∙ xor_self c in
    absurd (omega arith)

within : (n : ℕ) (d : DamageData) → 5 ≤ n → place_hit n d < n
unfolding place_hit
within n d long = omega arith

pub disturbed : (p : Contents) (d : DamageData) → IsPacket p → IsDamage d → heard p (Damaged d) ≡ None
unfolding heard damaged
disturbed p d h is_damage =
    let s = spelling p in
    let place = place_hit (length s) d in
    let code = bit_xor (get_or s place 0) d.mask in
    let long : 5 ≤ length s = omega (arith, length_spelling s p (own_codes p h)) in
    nothing (damaged d s) (received (damaged d s)) refl
    (λ q g. turned (get_or s place 0) d.mask is_damage.some_bit (one_code s p q place code (own_codes p h) (within (length s) d long) g))
