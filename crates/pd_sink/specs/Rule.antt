-- What a sink asks of an offer: this product's own rule.
use Rattle.std.specs.Prelude.{◌≡◌, ◌⊎◌, ℕ, ◌+◌, ◌*◌, ◌%◌, ◌<◌, ◌≤◌, min, Bool, true, false, ◌==◌, ◌&&◌, nat_lt, nat_le, if◌then◌else◌, List}
use Rattle.std.specs.Prelude.{[], ◌∷◌, Contains, All, length, slice_index, Option, Some, None}
use Rattle.std.specs.Int.{div_ceil}
use Rattle.pd_symbols.specs.Words.{field}
use Rattle.pd_setup.specs.declared.sink.SinkMode.{SinkMode}
use Rattle.pd_setup.specs.declared.sink.SinkMode.TheVariants as mode
use Rattle.pd_sink.specs.declared.rule.Offered.{Offered}
use Rattle.pd_sink.specs.declared.rule.Asked.{Asked}
use Rattle.pd_setup.specs.Sinks.{SinkData}

-- What a sink needs of a voltage in mV for a demand in mW: the least multiple of 10 mA whose power, in microwatts, is at
-- least the demand.
pub record IsNeed (mv demand_mw need : ℕ) : Type 0 where
  pub steps : need % 10 ≡ 0
  pub enough : demand_mw * 1000 ≤ mv * need
  pub least : (other : ℕ) → other % 10 ≡ 0 → demand_mw * 1000 ≤ mv * other → need ≤ other

abbrev pub need_of : ℕ → ℕ → ℕ
need_of mv demand_mw = div_ceil (demand_mw * 1000) (mv * 10) * 10

-- An object of an offer is accepted where it is a fixed supply (bits 31 and 30 are 00) of at most the sink's greatest
-- voltage. No sink accepts 0 V, which has no power at any current; no source offers it.
abbrev pub is_accepted : SinkData → ℕ → Bool
is_accepted sink w =
    (field w 31 30 == 0) && (nat_lt 0 (field w 19 10 * 50) && nat_le (field w 19 10 * 50) sink.max_mv)

-- the supply of an object at a position: its voltage in mV, and its current in mA
abbrev pub supply_at : ℕ → ℕ → Offered
supply_at position w = record { position = position; mv = field w 19 10 * 50; ma = field w 9 0 * 10 }

-- the supplies of an offer that a sink accepts, from a position on
abbrev pub accepted_from : SinkData → ℕ → List ℕ → List Offered
accepted_from sink position [] = []
accepted_from sink position (w ∷ ws) =
    if is_accepted sink w
    then supply_at position w ∷ accepted_from sink (position + 1) ws
    else accepted_from sink (position + 1) ws

-- the supplies of an offer that a sink accepts; positions are from 1
abbrev pub accepted : SinkData → List ℕ → List Offered
accepted sink offer = accepted_from sink 1 offer

-- what an accepted supply is: that of an accepted object, at its position
pub record IsAcceptedOf (sink : SinkData) (offer : List ℕ) (o : Offered) : Type 0 where
  pub place : ℕ
  pub within : place < length offer
  pub object_accepted : is_accepted sink (slice_index offer place) ≡ true
  pub supply : o ≡ supply_at (place + 1) (slice_index offer place)

-- a supply at a position of an offer, of a voltage above 0, and of a current that an object can state
pub record IsOffered (o : Offered) : Type 0 where
  pub position_from_one : 1 ≤ o.position
  pub position_fits : o.position ≤ 7
  pub has_voltage : 0 < o.mv
  pub current_fits : o.ma ≤ 10230

-- the offered power in microwatts
abbrev pub power_of : Offered → ℕ
power_of o = o.mv * o.ma

-- a supply that is offered at what is needed
pub record Fits (demand_mw : ℕ) (o : Offered) : Type 0 where
  pub offered : IsOffered o
  pub enough : need_of o.mv demand_mw ≤ o.ma

-- the fitting supply: of those whose offered current is at least what is needed, the one of highest voltage
pub record IsFitting (demand_mw : ℕ) (supplies : List Offered) (o : Offered) : Type 0 where
  pub offered : Contains supplies o
  pub enough : need_of o.mv demand_mw ≤ o.ma
  pub highest : All (λ (other : Offered). need_of other.mv demand_mw ≤ other.ma → other.mv ≤ o.mv) supplies

-- the greatest supply: the one of greatest power, and of several the one of lowest voltage
pub record IsGreatest (supplies : List Offered) (o : Offered) : Type 0 where
  pub offered : Contains supplies o
  pub greatest : All (λ (other : Offered). power_of other ≤ power_of o) supplies
  pub lowest : All (λ (other : Offered). power_of other ≡ power_of o → o.mv ≤ other.mv) supplies

-- the greatest current that an object states, in mA
abbrev pub greatest_ma : ℕ
greatest_ma = 10230

-- What is asked in mA where what is offered falls short of what is needed: what is offered. A greedy sink asks for what
-- it needs, as far as an object can state it.
abbrev pub short_ma : SinkMode → ℕ → ℕ → ℕ
short_ma mode.Greedy needed offered = min needed greatest_ma
short_ma _ needed offered = offered

abbrev pub mismatch_ma : SinkData → Offered → ℕ
mismatch_ma sink o = short_ma sink.mode (need_of o.mv sink.demand_mw) o.ma

-- what can be asked: a position of an offer, and a current that an object can state
pub record IsAsked (a : Asked) : Type 0 where
  pub position_from_one : 1 ≤ a.position
  pub position_fits : a.position ≤ 7
  pub current_fits : a.ma ≤ greatest_ma

-- where a supply fits, the fitting one is asked for, at what is needed
pub record AsksTheFitting (sink : SinkData) (supplies : List Offered) (a : Asked) : Type 0 where
  pub supply : Offered
  pub fitting : IsFitting sink.demand_mw supplies supply
  pub position : a.position ≡ supply.position
  pub current : IsNeed supply.mv sink.demand_mw a.ma
  pub no_mismatch : a.mismatch ≡ false

-- where none fits, the greatest one is asked for, with a mismatch
pub record AsksTheGreatest (sink : SinkData) (supplies : List Offered) (a : Asked) : Type 0 where
  pub supply : Offered
  pub none_fits : All (λ (other : Offered). other.ma < need_of other.mv sink.demand_mw) supplies
  pub greatest : IsGreatest supplies supply
  pub position : a.position ≡ supply.position
  pub current : a.ma ≡ mismatch_ma sink supply
  pub mismatch : a.mismatch ≡ true

-- the rule of what a sink asks of the supplies that it accepts
abbrev pub Asks : SinkData → List Offered → Option Asked → Type 0
Asks sink supplies None = supplies ≡ []
Asks sink supplies (Some a) = AsksTheFitting sink supplies a ⊎ AsksTheGreatest sink supplies a
