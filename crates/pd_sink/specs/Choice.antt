-- How the sink's choice is computed, one supply of the offer after the other. That it is what the rule asks is the law
-- `SinksAskByTheRule`.
use Rattle.std.specs.Prelude.{ℕ, Bool, true, false, ◌==◌, ◌&&◌, ◌||◌, nat_lt, nat_le, if◌then◌else◌, List, [], ◌∷◌, Option, Some, None}
use Rattle.pd_sink.specs.declared.rule.Offered.{Offered}
use Rattle.pd_sink.specs.declared.rule.Asked.{Asked}
use Rattle.pd_setup.specs.Sinks.{SinkData}
use Rattle.pd_sink.specs.Rule.{need_of, power_of, accepted, mismatch_ma}

-- whether a supply is offered at a current that is at least what is needed of its voltage
abbrev pub is_enough : ℕ → Offered → Bool
is_enough demand_mw o = nat_le (need_of o.mv demand_mw) o.ma

-- the one of higher voltage of what was found so far and one more
abbrev pub higher_of : Option Offered → Offered → Option Offered
higher_of None o = Some o
higher_of (Some best) o = if nat_lt best.mv o.mv then Some o else Some best

-- the fitting one of what was found so far and of some supplies
abbrev pub fitting_from : ℕ → Option Offered → List Offered → Option Offered
fitting_from demand_mw best [] = best
fitting_from demand_mw best (o ∷ os) = fitting_from demand_mw (if is_enough demand_mw o then higher_of best o else best) os

-- whether a supply has more power than another, or the same at a lower voltage
abbrev pub is_greater : Offered → Offered → Bool
is_greater best o = nat_lt (power_of best) (power_of o) || ((power_of best == power_of o) && nat_lt o.mv best.mv)

-- the greater one of what was found so far and one more
abbrev pub greater_of : Option Offered → Offered → Option Offered
greater_of None o = Some o
greater_of (Some best) o = if is_greater best o then Some o else Some best

-- the greatest one of what was found so far and of some supplies
abbrev pub greatest_from : Option Offered → List Offered → Option Offered
greatest_from best [] = best
greatest_from best (o ∷ os) = greatest_from (greater_of best o) os

-- What is asked of the fitting supply, or else of the greatest one. Where there is neither, the offer has nothing that
-- the sink accepts, and nothing is asked; no offer of a source is so, since it begins with 5 V.
abbrev pub chosen : SinkData → Option Offered → Option Offered → Option Asked
chosen sink (Some o) greatest = Some (record { position = o.position; ma = need_of o.mv sink.demand_mw; mismatch = false })
chosen sink None (Some o) = Some (record { position = o.position; ma = mismatch_ma sink o; mismatch = true })
chosen sink None None = None

-- what a sink asks of an offer
unfoldable pub asked_of : SinkData → List ℕ → Option Asked
asked_of sink offer =
    chosen sink (fitting_from sink.demand_mw None (accepted sink offer)) (greatest_from None (accepted sink offer))
