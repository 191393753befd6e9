-- The table of rows, beginning by beginning, is the grammar of lines, for the forms that have no words in quotation marks.
use Rattle.std.proofs.Common.{◌≡◌, ℕ, Bool, true, false, ◌&&◌, if◌then◌else◌, List, [], ◌∷◌, codes, refl, sym, ap, subst, ◌∙◌, arith}
use Rattle.std.proofs.Common.{Option, None, Some, option_map, is_some, unwrap_or}
use Rattle.std.specs.Prelude.{bytes_eq, find}
use Rattle.std.specs.Option.{option_and_then}
use Rattle.std.proofs.lemmas.Bool.Decides.{nat_tests}
use Rattle.pd_header.specs.declared.side.Side.{Side}
use Rattle.pd_edit_lines.specs.Words.{next, number, ◌>>=◌}
use Rattle.pd_units.specs.Quantities.{number_in}
use Rattle.pd_units.specs.declared.unit.Unit.{Unit}
use Rattle.pd_units.specs.declared.unit.Unit.TheVariants.{Microseconds, Millivolts, Milliamperes}
use Rattle.pd_expect.specs.Lines.{Words, after_word, alone, any_span, contract_of, from_time, from_with, is_comment, kind_at, kind_named}
use Rattle.pd_expect.specs.Lines.{at_time, lost_of, no_contract_of, optional_power, optional_span, packet_of, period_at, power_at}
use Rattle.pd_expect.specs.Lines.{margin_in, margin_of, margin_over, quantity_at, side_named, span_of, to_time, with_unit_of}
use Rattle.pd_expect.specs.Slots.{fits}
use Rattle.pd_expect.specs.Stops.{next_begun, stop_from}
use Rattle.pd_expect.specs.Table.{may_end, rows, ◌⇒◌}
use Rattle.pd_expect.specs.TableLaw.{TableIsGrammar, ends_well}
use Rattle.pd_expect.specs.declared.lines.Expectation.{Expectation}
use Rattle.pd_expect.specs.declared.lines.Expectation.TheVariants as expect
use Rattle.pd_expect.specs.declared.lines.Period.{Period}
use Rattle.pd_expect.specs.declared.lines.Wanted.TheVariants as wanted
use Rattle.pd_expect.specs.declared.rows.Begun.{Begun}
use Rattle.pd_expect.specs.declared.rows.Begun.TheVariants as begun
use Rattle.pd_expect.specs.declared.rows.Row.{Row}
use Rattle.pd_expect.specs.declared.slot.Slot.{Slot}
use Rattle.pd_expect.specs.declared.slot.Slot.TheVariants as slot
use Rattle.pd_expect.specs.declared.span.Span.{Span}

-- ---- one word of the table

-- a line goes on from a beginning to its end by the table
accepts : Begun → Words → Bool
accepts b ws = ends_well (stop_from b ws)

go : Begun → Option Begun → List ℕ → Words → Bool
go b None w ws = may_end b && is_comment w
go b (Some to) w ws = accepts to ws

at_end : (b : Begun) → accepts b [] ≡ may_end b && true
unfolding accepts
at_end b = refl

moves : (b : Begun) (w : List ℕ) (ws : Words) → accepts b (w ∷ ws) ≡ go b (next_begun b w) w ws
unfolding accepts go
moves b w ws = by_begun (next_begun b w) where
  by_begun : (o : Option Begun) → ends_well (unwrap_or (option_map (λ to. stop_from to ws) o) (b, w ∷ ws)) ≡ go b o w ws
  by_begun None = refl
  by_begun (Some to) = refl

-- the beginning that some rows lead to
abbrev led : List Row → List ℕ → Option Begun
led rs w = option_map (λ (row : Row). row.to) (find (λ (row : Row). fits row.slot w) rs)

by_fit : (x : Bool) (s : Slot) (t : Begun) (rest : Option Row) (b : Begun) (w : List ℕ) (ws : Words)
    → go b (option_map (λ (row : Row). row.to) (if x then Some (s ⇒ t) else rest)) w ws
    ≡ (if x then accepts t ws else go b (option_map (λ (row : Row). row.to) rest) w ws)
unfolding go
by_fit true s t rest b w ws = refl
by_fit false s t rest b w ws = refl

first : (b : Begun) (s : Slot) (t : Begun) (rest : List Row) (w : List ℕ) (ws : Words) → rows b ≡ (s ⇒ t) ∷ rest
    → accepts b (w ∷ ws) ≡ (if fits s w then accepts t ws else go b (led rest w) w ws)
first b s t rest w ws e =
    moves b w ws ∙ ap (λ (rs : List Row). go b (led rs w) w ws) e
    ∙ by_fit (fits s w) s t (find (λ (row : Row). fits row.slot w) rest) b w ws

none_left : (b : Begun) (w : List ℕ) (ws : Words) → go b None w ws ≡ may_end b && is_comment w
unfolding go
none_left b w ws = refl

-- a beginning behind which one row stands, and where a line may not end
only : (b : Begun) (s : Slot) (t : Begun) (w : List ℕ) (ws : Words) → rows b ≡ (s ⇒ t) ∷ [] → may_end b ≡ false
    → accepts b (w ∷ ws) ≡ (if fits s w then accepts t ws else false)
only b s t w ws e open_ended =
    first b s t [] w ws e
    ∙ ap (λ x. if fits s w then accepts t ws else x) (none_left b w ws ∙ ap (λ x. x && is_comment w) open_ended)

empty : (b : Begun) → may_end b ≡ false → accepts b [] ≡ false
empty b open_ended = at_end b ∙ ap (λ x. x && true) open_ended

same_go : (b b' : Begun) → may_end b ≡ may_end b' → (o : Option Begun) (w : List ℕ) (ws : Words) → go b o w ws ≡ go b' o w ws
unfolding go
same_go b b' m None w ws = ap (λ x. x && is_comment w) m
same_go b b' m (Some to) w ws = refl

-- a beginning with one row more than another
skips : (b b' : Begun) (s : Slot) (t : Begun) (rest : List Row) → rows b ≡ (s ⇒ t) ∷ rest → rows b' ≡ rest → may_end b ≡ may_end b'
    → (w : List ℕ) (ws : Words) → accepts b (w ∷ ws) ≡ (if fits s w then accepts t ws else accepts b' (w ∷ ws))
skips b b' s t rest e e' m w ws =
    first b s t rest w ws e
    ∙ ap (λ x. if fits s w then accepts t ws else x)
    (same_go b b' m (led rest w) w ws ∙ ap (λ (rs : List Row). go b' (led rs w) w ws) (sym e') ∙ sym (moves b' w ws))

skips_end : (b b' : Begun) → may_end b ≡ may_end b' → accepts b [] ≡ accepts b' []
skips_end b b' m = at_end b ∙ ap (λ x. x && true) m ∙ sym (at_end b')

-- ---- a word of a form, and a word that stands for itself

-- the first word of a form, and what stands behind it
abbrev at : {A : Type 0} → (List ℕ → Option A) → Words → Option (A × Words)
at p ws = do
  w ← next ws
  a ← p w.0
  Some (a, w.1)

step : {A B : Type 0} (b : Begun) (s : Slot) (t : Begun) → rows b ≡ (s ⇒ t) ∷ [] → may_end b ≡ false → (p : List ℕ → Option A)
    → ((w : List ℕ) → fits s w ≡ is_some (p w)) → (k : A × Words → Option B)
    → ((a : A) (ws : Words) → accepts t ws ≡ is_some (k (a, ws))) → (ws : Words) → accepts b ws ≡ is_some (option_and_then k (at p ws))
step b s t e o p f k h [] = empty b o
step {A = A} b s t e o p f k h (w ∷ ws) = only b s t w ws e o ∙ ap (λ x. if x then accepts t ws else false) (f w) ∙ taken (p w) where
  taken : (q : Option A) → (if is_some q then accepts t ws else false)
      ≡ is_some (option_and_then k (option_and_then (λ a. Some (a, ws)) q))
  taken None = refl
  taken (Some a) = h a ws

-- where what is read goes into something else
step_to : {A C B : Type 0} (b : Begun) (s : Slot) (t : Begun) → rows b ≡ (s ⇒ t) ∷ [] → may_end b ≡ false → (p : List ℕ → Option A)
    → ((w : List ℕ) → fits s w ≡ is_some (p w)) → (g : A → C) → (k : C × Words → Option B)
    → ((c : C) (ws : Words) → accepts t ws ≡ is_some (k (c, ws))) → (ws : Words)
    → accepts b ws ≡ is_some (option_and_then k (option_and_then (λ (x : A × Words). Some (g x.0, x.1)) (at p ws)))
step_to b s t e o p f g k h [] = empty b o
step_to {A = A} b s t e o p f g k h (w ∷ ws) = only b s t w ws e o ∙ ap (λ x. if x then accepts t ws else false) (f w) ∙ taken (p w) where
  taken : (q : Option A) → (if is_some q then accepts t ws else false)
      ≡ is_some (option_and_then k (option_and_then (λ (x : A × Words). Some (g x.0, x.1)) (option_and_then (λ a. Some (a, ws)) q)))
  taken None = refl
  taken (Some a) = h (g a) ws

-- where the word is taken first
step_in : {A B : Type 0} (b : Begun) (s : Slot) (t : Begun) → rows b ≡ (s ⇒ t) ∷ [] → may_end b ≡ false → (p : List ℕ → Option A)
    → ((w : List ℕ) → fits s w ≡ is_some (p w)) → (k : A × Words → Option B)
    → ((a : A) (ws : Words) → accepts t ws ≡ is_some (k (a, ws))) → (ws : Words)
    → accepts b ws ≡ is_some (option_and_then (λ (w : List ℕ × Words). option_and_then (λ a. k (a, w.1)) (p w.0)) (next ws))
step_in b s t e o p f k h [] = empty b o
step_in {A = A} b s t e o p f k h (w ∷ ws) = only b s t w ws e o ∙ ap (λ x. if x then accepts t ws else false) (f w) ∙ taken (p w) where
  taken : (q : Option A) → (if is_some q then accepts t ws else false) ≡ is_some (option_and_then (λ a. k (a, ws)) q)
  taken None = refl
  taken (Some a) = h a ws

word : {B : Type 0} (b : Begun) (s : Slot) (t : Begun) → rows b ≡ (s ⇒ t) ∷ [] → may_end b ≡ false → (text : List ℕ)
    → ((w : List ℕ) → fits s w ≡ bytes_eq w text) → (k : Words → Option B) → ((ws : Words) → accepts t ws ≡ is_some (k ws))
    → (ws : Words) → accepts b ws ≡ is_some (option_and_then k (after_word text ws))
word b s t e o text f k h [] = empty b o
word b s t e o text f k h (w ∷ ws) =
    only b s t w ws e o ∙ ap (λ x. if x then accepts t ws else false) (f w) ∙ taken (bytes_eq w text) where
      taken : (x : Bool) → (if x then accepts t ws else false) ≡ is_some (option_and_then k (if x then Some ws else None))
      taken true = h ws
      taken false = refl

if_some : {A : Type 0} (a : A) (x : Bool) → true && x ≡ is_some (if x then Some a else None)
if_some a true = refl
if_some a false = refl

whole : {A : Type 0} (a : A) (ws : Words) → accepts begun.Whole ws ≡ is_some (alone a ws)
whole a [] = at_end begun.Whole
whole a (w ∷ ws) = moves begun.Whole w ws ∙ none_left begun.Whole w ws ∙ if_some a (is_comment w)

-- ---- packets

packet_to : (f : ℕ → Expectation) (ws : Words) → accepts begun.LastTime ws
    ≡ is_some (option_and_then (λ (to : ℕ × Words). alone (f to.0) to.1) (quantity_at Microseconds ws))
packet_to f ws =
    step begun.LastTime slot.Time begun.Whole refl refl (number_in Microseconds) (λ w. refl) (λ to. alone (f to.0) to.1)
    (λ a ws. whole (f a) ws) ws

packet_named : (port : ℕ) (side : Side) (ws : Words) → accepts begun.PacketName ws ≡ is_some (do
  kind ← kind_at ws
  between ← after_word (codes "between") kind.1
  from ← quantity_at Microseconds between
  to ← quantity_at Microseconds from.1
  alone (expect.Packet port side kind.0 from.0 to.0) to.1)
packet_named port side ws =
    step begun.PacketName slot.Name begun.Between refl refl kind_named (λ w. refl) _
    (λ kind ws. word begun.Between slot.Between begun.FirstTime refl refl (codes "between") (λ w. refl) _
    (λ ws. step begun.FirstTime slot.Time begun.LastTime refl refl (number_in Microseconds) (λ w. refl) _
    (λ from ws. packet_to (λ to. expect.Packet port side kind from to) ws) ws) ws) ws

packet : (ws : Words) → accepts begun.PacketPort ws ≡ is_some (packet_of ws)
packet ws =
    step begun.PacketPort slot.Port begun.PacketSide refl refl number (λ w. refl) _
    (λ port ws. step_in begun.PacketSide slot.Side begun.PacketName refl refl side_named (λ w. refl)
    (λ (x : Side × Words). do
      kind ← kind_at x.1
      between ← after_word (codes "between") kind.1
      from ← quantity_at Microseconds between
      to ← quantity_at Microseconds from.1
      alone (expect.Packet port x.0 kind.0 from.0 to.0) to.1)
    (λ side ws. packet_named port side ws) ws) ws

lost : (ws : Words) → accepts begun.LostNth ws ≡ is_some (lost_of ws)
lost ws =
    step begun.LostNth slot.Nth begun.LostName refl refl number (λ w. refl) _
    (λ nth ws. step begun.LostName slot.Name begun.LostOf refl refl kind_named (λ w. refl) _
    (λ kind ws. word begun.LostOf slot.Of begun.LostOn refl refl (codes "of") (λ w. refl) _
    (λ ws. word begun.LostOn slot.OnPort begun.LastPort refl refl (codes "port") (λ w. refl) _
    (λ ws. step begun.LastPort slot.Port begun.Whole refl refl number (λ w. refl) _
    (λ port ws. whole (record { nth = nth; kind = kind; port = port }) ws) ws) ws) ws) ws) ws

-- ---- TIME

-- where `to` may stand, or what stands behind TIME
abbrev turned : Begun → Begun → Option Words → Words → Bool
turned to behind None ws = accepts behind ws
turned to behind (Some rest) ws = accepts to rest

until : (b to behind : Begun) (rest : List Row) → rows b ≡ (slot.To ⇒ to) ∷ rest → rows behind ≡ rest → may_end b ≡ may_end behind
    → (ws : Words) → accepts b ws ≡ turned to behind (after_word (codes "to") ws) ws
until b to behind rest e e' m [] = skips_end b behind m
until b to behind rest e e' m (w ∷ ws) = skips b behind slot.To to rest e e' m w ws ∙ taken (bytes_eq w (codes "to")) where
  taken : (x : Bool) → (if x then accepts to ws else accepts behind (w ∷ ws)) ≡ turned to behind (if x then Some ws else None) (w ∷ ws)
  taken true = refl
  taken false = refl

when : (b to from : Begun) (w : List ℕ) (ws : Words) → rows b ≡ (slot.At ⇒ to) ∷ ((slot.From ⇒ from) ∷ ((slot.To ⇒ to) ∷ []))
    → may_end b ≡ false
    → accepts b (w ∷ ws) ≡ (if bytes_eq w (codes "at") then accepts to ws
    else if bytes_eq w (codes "from") then accepts from ws
    else if bytes_eq w (codes "to") then accepts to ws else false)
when b to from w ws e o =
    first b slot.At to ((slot.From ⇒ from) ∷ ((slot.To ⇒ to) ∷ [])) w ws e
    ∙ ap (λ x. if bytes_eq w (codes "at") then accepts to ws else x)
    (by_fit (bytes_eq w (codes "from")) slot.From from (find (λ (row : Row). fits row.slot w) ((slot.To ⇒ to) ∷ [])) b w ws
    ∙ ap (λ x. if bytes_eq w (codes "from") then accepts from ws else x)
    (by_fit (bytes_eq w (codes "to")) slot.To to None b w ws
    ∙ ap (λ x. if bytes_eq w (codes "to") then accepts to ws else x) (none_left b w ws ∙ ap (λ x. x && is_comment w) o)))

from_ends : {B : Type 0} (to from later behind : Begun) → rows to ≡ (slot.Time ⇒ behind) ∷ [] → may_end to ≡ false
    → rows from ≡ (slot.Time ⇒ later) ∷ [] → may_end from ≡ false
    → ((ws : Words) → accepts later ws ≡ turned to behind (after_word (codes "to") ws) ws)
    → (k : Period × Words → Option B) → ((q : Period) (ws : Words) → accepts behind ws ≡ is_some (k (q, ws)))
    → (ws : Words) → accepts from ws ≡ is_some (option_and_then k (from_time ws))
from_ends to from later behind et ot ef o u k h [] = empty from o
from_ends to from later behind et ot ef o u k h (w ∷ ws) =
    only from slot.Time later w ws ef o ∙ taken (number_in Microseconds w) where
      turn : (n : ℕ) (q : Option Words) → turned to behind q ws ≡ is_some (option_and_then k (from_with n ws q))
      turn n None = h (record { from = n; to = None }) ws
      turn n (Some rest) =
          step_to to slot.Time behind et ot (number_in Microseconds) (λ w. refl) (λ m. record { from = n; to = Some m }) k h rest

      taken : (q : Option ℕ) → (if is_some q then accepts later ws else false)
          ≡ is_some (option_and_then k (option_and_then (λ (x : ℕ × Words). from_with x.0 x.1 (after_word (codes "to") x.1))
          (option_and_then (λ n. Some (n, ws)) q)))
      taken None = refl
      taken (Some n) = u ws ∙ turn n (after_word (codes "to") ws)

period : {B : Type 0} (b to from later behind : Begun) → rows b ≡ (slot.At ⇒ to) ∷ ((slot.From ⇒ from) ∷ ((slot.To ⇒ to) ∷ []))
    → may_end b ≡ false → rows to ≡ (slot.Time ⇒ behind) ∷ [] → may_end to ≡ false
    → rows from ≡ (slot.Time ⇒ later) ∷ [] → may_end from ≡ false
    → ((ws : Words) → accepts later ws ≡ turned to behind (after_word (codes "to") ws) ws)
    → (k : Period × Words → Option B) → ((q : Period) (ws : Words) → accepts behind ws ≡ is_some (k (q, ws)))
    → (ws : Words) → accepts b ws ≡ is_some (option_and_then k (period_at ws))
period b to from later behind e o et ot ef of u k h [] = empty b o
period b to from later behind e o et ot ef of u k h (w ∷ ws) =
    when b to from w ws e o ∙ taken (bytes_eq w (codes "at")) (bytes_eq w (codes "from")) (bytes_eq w (codes "to")) where
      taken : (x y z : Bool)
          → (if x then accepts to ws else if y then accepts from ws else if z then accepts to ws else false)
          ≡ is_some (option_and_then k (if x then at_time ws else if y then from_time ws else if z then to_time 0 ws else None))
      taken true y z =
          step_to to slot.Time behind et ot (number_in Microseconds) (λ w. refl) (λ m. record { from = m; to = Some m }) k h ws
      taken false true z = from_ends to from later behind et ot ef of u k h ws
      taken false false true =
          step_to to slot.Time behind et ot (number_in Microseconds) (λ w. refl) (λ m. record { from = 0; to = Some m }) k h ws
      taken false false false = refl

-- ---- contracts

watts : (f : ℕ → Expectation) (ws : Words)
    → accepts begun.PowerLeast ws
    ≡ is_some (option_and_then (λ (power : ℕ × Words). alone (f power.0) power.1)
    (option_and_then power_at (after_word (codes "at_least") ws)))
watts f [] = empty begun.PowerLeast refl
watts f (w ∷ ws) =
    only begun.PowerLeast slot.AtLeast begun.LastWatts w ws refl refl ∙ taken (bytes_eq w (codes "at_least")) where
      taken : (x : Bool) → (if x then accepts begun.LastWatts ws else false)
          ≡ is_some (option_and_then (λ (power : ℕ × Words). alone (f power.0) power.1)
          (option_and_then power_at (if x then Some ws else None)))
      taken true =
          step begun.LastWatts slot.Watts begun.Whole refl refl (λ w. with_unit_of w (number w)) (λ w. refl)
          (λ power. alone (f power.0) power.1) (λ a ws. whole (f a) ws) ws
      taken false = refl

power : (f : ℕ → Expectation) (ws : Words) → accepts begun.SuchPower ws
    ≡ is_some (option_and_then (λ (power : ℕ × Words). alone (f power.0) power.1) (optional_power ws))
power f [] = at_end begun.SuchPower
power f (w ∷ ws) =
    skips begun.SuchPower begun.Whole slot.Power begun.PowerLeast [] refl refl refl w ws ∙ taken (bytes_eq w (codes "power")) where
      taken : (x : Bool) → (if x then accepts begun.PowerLeast ws else accepts begun.Whole (w ∷ ws))
          ≡ is_some (option_and_then (λ (power : ℕ × Words). alone (f power.0) power.1)
          (if x then option_and_then power_at (after_word (codes "at_least") ws) else Some (0, w ∷ ws)))
      taken true = watts f ws
      taken false = whole (f 0) (w ∷ ws)

span : {B : Type 0} (b b' : Begun) (s : Slot) (t : Begun) (r : Slot) (rest : List Row) (text : List ℕ) (unit : Unit)
    → rows b ≡ (s ⇒ t) ∷ rest → rows b' ≡ rest → may_end b ≡ may_end b' → ((w : List ℕ) → fits s w ≡ bytes_eq w text)
    → rows t ≡ (r ⇒ b') ∷ [] → may_end t ≡ false → ((w : List ℕ) → fits r w ≡ is_some (span_of unit w))
    → (k : Span × Words → Option B) → ((a : Span) (ws : Words) → accepts b' ws ≡ is_some (k (a, ws)))
    → (ws : Words) → accepts b ws ≡ is_some (option_and_then k (optional_span text unit ws))
span b b' s t r rest text unit e e' m f et ot fr k h [] = skips_end b b' m ∙ h any_span []
span b b' s t r rest text unit e e' m f et ot fr k h (w ∷ ws) =
    skips b b' s t rest e e' m w ws ∙ ap (λ x. if x then accepts t ws else accepts b' (w ∷ ws)) (f w) ∙ taken (bytes_eq w text) where
      taken : (x : Bool) → (if x then accepts t ws else accepts b' (w ∷ ws))
          ≡ is_some (option_and_then k (if x then at (span_of unit) ws else Some (any_span, w ∷ ws)))
      taken true = step t r b' et ot (span_of unit) fr k h ws
      taken false = h any_span (w ∷ ws)

such : (f : Span → Span → ℕ → Expectation) (ws : Words) → accepts begun.SuchContract ws ≡ is_some (do
  voltage ← optional_span (codes "voltage") Millivolts ws
  current ← optional_span (codes "current") Milliamperes voltage.1
  power ← optional_power current.1
  alone (f voltage.0 current.0 power.0) power.1)
such f ws =
    span begun.SuchContract begun.SuchCurrent slot.Voltage begun.Volts slot.Volts (rows begun.SuchCurrent) (codes "voltage") Millivolts
    refl refl refl (λ w. refl) refl refl (λ w. refl) _
    (λ voltage ws. span begun.SuchCurrent begun.SuchPower slot.Current begun.Amperes slot.Amperes (rows begun.SuchPower) (codes "current")
    Milliamperes refl refl refl (λ w. refl) refl refl (λ w. refl) _
    (λ current ws. power (f voltage current) ws) ws) ws

contract : (ws : Words) → accepts begun.ContractPort ws ≡ is_some (contract_of ws)
contract ws =
    step begun.ContractPort slot.Port begun.ContractWhen refl refl number (λ w. refl) _
    (λ port ws. period begun.ContractWhen begun.ContractTo begun.ContractFrom begun.ContractUntil begun.SuchContract
    refl refl refl refl refl refl
    (until begun.ContractUntil begun.ContractTo begun.SuchContract (rows begun.SuchContract) refl refl refl) _
    (λ q ws. such (λ voltage current least. expect.Contract port q (wanted.Such voltage current least)) ws) ws) ws

no_contract : (ws : Words) → accepts begun.NoContractPort ws ≡ is_some (no_contract_of ws)
no_contract ws =
    step begun.NoContractPort slot.Port begun.When refl refl number (λ w. refl) _
    (λ port ws. period begun.When begun.LastTime begun.LastFrom begun.LastUntil begun.Whole refl refl refl refl refl refl
    (until begun.LastUntil begun.LastTime begun.Whole [] refl refl refl) _
    (λ q ws. whole (expect.Contract port q wanted.Nothing) ws) ws) ws

-- ---- margins

-- a comment begins with none of the words of TIME
comment : (w : List ℕ) → is_comment w ≡ true → led (rows begun.AnyTime) w ≡ None
comment [] e = absurd (cc)
comment (c ∷ cs) e =
    let hash : 35 ≡ c = grind (arith, nat_tests) in subst (λ d. led (rows begun.AnyTime) (d ∷ cs) ≡ None) hash refl

margin_over_time : (least : ℕ) (ws : Words) → accepts begun.When ws ≡ is_some (margin_over least ws)
margin_over_time least ws =
    period begun.When begun.LastTime begun.LastFrom begun.LastUntil begun.Whole refl refl refl refl refl refl
    (until begun.LastUntil begun.LastTime begun.Whole [] refl refl refl) _ (λ q ws. whole (expect.MarginOver q least) ws) ws

no_comment : (w : List ℕ) (ws : Words) → is_comment w ≡ false → (o : Option Begun)
    → go begun.AnyTime o w ws ≡ go begun.When o w ws
unfolding go
no_comment w ws e None = ap (λ x. true && x) e
no_comment w ws e (Some to) = refl

margin_of_time : (least : ℕ) (ws : Words) → accepts begun.AnyTime ws ≡ is_some (margin_in least ws)
margin_of_time least [] = at_end begun.AnyTime
margin_of_time least (w ∷ ws) = by_comment (is_comment w) refl where
  by_comment : (x : Bool) → is_comment w ≡ x
      → accepts begun.AnyTime (w ∷ ws) ≡ is_some (if x then Some (expect.Margin least) else margin_over least (w ∷ ws))
  by_comment true e =
      moves begun.AnyTime w ws ∙ ap (λ o. go begun.AnyTime o w ws) (comment w e) ∙ none_left begun.AnyTime w ws
      ∙ ap (λ x. true && x) e
  by_comment false e =
      moves begun.AnyTime w ws ∙ no_comment w ws e (next_begun begun.AnyTime w) ∙ sym (moves begun.When w ws)
      ∙ margin_over_time least (w ∷ ws)

margin : (ws : Words) → accepts begun.MarginLeast ws ≡ is_some (margin_of ws)
margin ws =
    word begun.MarginLeast slot.AtLeast begun.MarginWatts refl refl (codes "at_least") (λ w. refl) _
    (λ ws. step begun.MarginWatts slot.Watts begun.AnyTime refl refl (λ w. with_unit_of w (number w)) (λ w. refl) _
    (λ least ws. margin_of_time least ws) ws) ws

pub table_is_grammar : TableIsGrammar
unfolding accepts
table_is_grammar ws = (contract ws, (no_contract ws, (margin ws, (packet ws, lost ws))))
