-- One step of the source's policy engine, and what is read of it.
use Rattle.std.specs.Prelude.{ℕ, ◌*◌, max, fold, Bool, true, false, not, ◌&&◌, if◌then◌else◌, List, [], ◌∷◌, Option, Some, None, unwrap_or}
use Rattle.pd_timers.specs.declared.Timer.TheVariants as timer
use Rattle.pd_timers.specs.Deadlines.{stopped}
use Rattle.pd_objects.specs.Supply.{SupplyData}
use Rattle.pd_objects.specs.declared.contract.Contract.{Contract}
use Rattle.pd_objects.specs.declared.query.Answer.{Answer}
use Rattle.pd_objects.specs.declared.query.Query.{Query}
use Rattle.pd_objects.specs.declared.query.Query.TheVariants as query
use Rattle.pd_source.specs.declared.kinds.State.{State}
use Rattle.pd_source.specs.declared.kinds.State.TheVariants as state
use Rattle.pd_source.specs.declared.kinds.Heard.{Heard}
use Rattle.pd_source.specs.declared.kinds.Revision.{Revision}
use Rattle.pd_source.specs.declared.kinds.Revision.TheVariants as revision
use Rattle.pd_source.specs.declared.kinds.Stimulus.{Stimulus}
use Rattle.pd_source.specs.declared.kinds.Stimulus.TheVariants as stimulus
use Rattle.pd_source.specs.declared.kinds.Act.{Act}
use Rattle.pd_source.specs.declared.kinds.Deed.{Deed}
use Rattle.pd_source.specs.declared.kinds.Deed.TheVariants as deed
use Rattle.pd_source.specs.Record.{SourceSettings, SourceRecord, cable_current}
use Rattle.pd_source.specs.Request.{power_of, contract_power}
use Rattle.pd_source.specs.Table.{Row, Ended, holds, among, match_one, heard_of, is_request_valid, row_of, deeds_of_row}
use Rattle.pd_source.specs.Table.{differs_from, asks_offer}
use Rattle.pd_source.specs.Acts.{limit_from, all_after, all_wants}

-- before the row is taken, a timer that falls due has ended, and Sent has set the mark
abbrev pub before_row : Stimulus → SourceRecord → SourceRecord
before_row (stimulus.Sent m) r = record r { sent = true }
before_row (stimulus.Ended t) r = record r { deadlines = stopped r.deadlines t }
before_row _ r = r

-- the row that is taken, and what it does
abbrev pub row_at : SourceSettings → Stimulus → Option Answer → SourceRecord → Row
row_at s x a r = row_of (holds s a r) r.state (heard_of x)

abbrev pub deeds_at : SourceSettings → Stimulus → Option Answer → SourceRecord → List Deed
deeds_at s x a r = deeds_of_row (holds s a r) (row_at s x a r)

-- the engine after a step
unfoldable pub stepped : SourceSettings → ℕ → Stimulus → Option Answer → SourceRecord → SourceRecord
stepped s now x a r = all_after s (deeds_at s x a (before_row x r)) now x a (before_row x r)

-- what a step wants of the port, in order
unfoldable pub acts_of : SourceSettings → ℕ → Stimulus → Option Answer → SourceRecord → List Act
acts_of s now x a r = all_wants s (deeds_at s x a (before_row x r)) now x a (before_row x r)

-- which currents may be offered on the supplies through a cable of this limit
abbrev pub offer_query : SourceSettings → Option ℕ → Query
offer_query s limit = query.Offer (record { items = s.supplies }) (unwrap_or limit cable_current)

-- the power in microwatts of a request, 0 where there is none
abbrev pub requested : SourceSettings → Option ℕ → ℕ
requested s None = 0
requested s (Some object) = power_of s.supplies object

-- whether the power of the kept request fits, where it is valid
abbrev pub fit_query : SourceSettings → SourceRecord → Option Query
fit_query s r = if is_request_valid r then Some (query.Fits (requested s r.kept_request)) else None

-- whether an offer is among a row's acts
abbrev pub makes_offer : List Deed → Bool
makes_offer [] = false
makes_offer (deed.Draft ∷ ds) = true
makes_offer (d ∷ ds) = makes_offer ds

-- the limit after a row's acts
abbrev pub limit_after : List Deed → Stimulus → Option ℕ → Option ℕ
limit_after [] x limit = limit
limit_after (deed.LimitFromAnswer ∷ ds) x limit = limit_after ds x (limit_from x limit)
limit_after (deed.CableLimit ∷ ds) x limit = limit_after ds x (Some cable_current)
limit_after (d ∷ ds) x limit = limit_after ds x limit

-- which currents may be offered, where the row makes an offer: under the limit as it is then
abbrev pub row_query : SourceSettings → Stimulus → SourceRecord → Option Query
row_query s x r =
    if asks_offer (row_at s x None r).next then Some (offer_query s (limit_after (deeds_at s x None r) x r.limit)) else None

-- whether OfferPoll falls due in Ready or Wait_New_Capabilities
abbrev pub polls : State → Heard → Bool
polls s h = among s (state.Ready ∷ state.WaitNewCapabilities ∷ []) && match_one h (Ended timer.OfferPoll ∷ [])

-- whether a step finds the offer as it was delivered: OfferPoll falls due there, and the answer is no other offer
abbrev pub finds_alike : Stimulus → Option Answer → SourceRecord → Bool
finds_alike x a r = polls r.state (heard_of x) && not (differs_from r.delivered_offer a)

-- whether Delay falls due in Negotiate_Capability
abbrev pub decides : State → Heard → Bool
decides s h = among s (state.NegotiateCapability ∷ []) && match_one h (Ended timer.Delay ∷ [])

-- What the engine asks before a step: for an offer on each OfferPoll in Ready or Wait_New_Capabilities, whether the kept
-- request fits on Delay in Negotiate_Capability, and for an offer on each row that makes one.
unfoldable pub query_of : SourceSettings → Stimulus → SourceRecord → Option Query
query_of s x r =
    if polls r.state (heard_of x) then Some (offer_query s r.limit)
    else (if decides r.state (heard_of x) then fit_query s r else row_query s x (before_row x r))

-- whether messages reach the engine
abbrev pub hears_in : SourceRecord → Bool
hears_in r = hears r.state where
  hears : State → Bool
  hears state.Off = false
  hears state.Disabled = false
  hears _ = true

-- whether the engine is in Ready
abbrev pub is_ready : SourceRecord → Bool
is_ready r = ready r.state where
  ready : State → Bool
  ready state.Ready = true
  ready _ = false

-- the revision bits of what the source sends on SOP: 01 for Revision 2.0, 10 for Revision 3.0
abbrev pub revision_bits : SourceRecord → ℕ
revision_bits r = bits r.revision where
  bits : Revision → ℕ
  bits revision.Revision2 = 1
  bits revision.Revision3 = 2

-- the powers in microwatts of an offer's currents
abbrev pub powers : List SupplyData → List ℕ → List ℕ
powers (supply ∷ supplies) (ma ∷ currents) = supply.mv * ma ∷ powers supplies currents
powers _ _ = []

-- the power in microwatts of the contract, 0 where there is none
abbrev pub contracted : Option Contract → ℕ
contracted None = 0
contracted (Some c) = contract_power c

-- What the port holds of the shared budget, in microwatts: the greatest of its floor, its contract's power, an accepted
-- request's power and the powers in the offer that is being made.
unfoldable pub hold_of : SourceSettings → ℕ → SourceRecord → ℕ
hold_of s floor r = fold max floor (contracted r.contract ∷ requested s r.accepted_request ∷ powers s.supplies r.draft_offer)
