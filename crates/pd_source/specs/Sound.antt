-- What holds of the source's record at each step: the cable's limit, what is offered, and what is agreed on.
use Rattle.std.specs.Prelude.{◌≡◌, ◌≤◌, ◌⊎◌, ℕ, ◌-◌, Bool, true, false, List, [], ◌∷◌, Option, Some, None, unwrap_or, option_map, slice_get}
use Rattle.std.specs.Option.{option_map_or}
use Rattle.pd_objects.specs.Supply.{SupplyData}
use Rattle.pd_objects.specs.declared.contract.Contract.{Contract}
use Rattle.pd_objects.specs.declared.query.Answer.{Answer}
use Rattle.pd_objects.specs.declared.query.Answer.TheVariants as answer
use Rattle.pd_objects.specs.declared.query.Query.{Query}
use Rattle.pd_objects.specs.declared.query.Query.TheVariants as query
use Rattle.pd_identity.specs.Identity.{limit_of}
use Rattle.pd_source.specs.declared.kinds.State.{State}
use Rattle.pd_source.specs.declared.kinds.State.TheVariants as state
use Rattle.pd_source.specs.declared.kinds.Stimulus.{Stimulus}
use Rattle.pd_source.specs.declared.kinds.Stimulus.TheVariants as stimulus
use Rattle.pd_source.specs.Record.{SourceSettings, SourceRecord, cable_current}
use Rattle.pd_source.specs.Request.{is_valid, voltage_at, contract_of}
use Rattle.pd_source.specs.Table.{among, is_request_valid, says_fits}

-- a limit is unknown, 3,000 mA or 5,000 mA
abbrev pub IsLimit : Option ℕ → Type 0
IsLimit limit = (limit ≡ None) ⊎ ((limit ≡ Some cable_current) ⊎ (limit ≡ Some 5000))

-- a current for each supply, none above the configured one nor above the limit
abbrev pub AreOffered : ℕ → List SupplyData → List ℕ → Type 0
AreOffered limit [] [] = Unit {0}
AreOffered limit (supply ∷ supplies) (ma ∷ currents) = (ma ≤ supply.ma) × (ma ≤ limit) × AreOffered limit supplies currents
AreOffered limit _ _ = ⊥

-- no offer, or such a one
abbrev pub IsOffer : ℕ → List SupplyData → List ℕ → Type 0
IsOffer limit supplies offer = (offer ≡ []) ⊎ AreOffered limit supplies offer

-- the greatest current in mA that is configured at a position, from 1
abbrev pub current_at : List SupplyData → ℕ → ℕ
current_at supplies position = option_map_or (λ (supply : SupplyData). supply.ma) (slice_get supplies (position - 1)) 0

-- A contract is of a supply of the port at its voltage, and asks for no more than was offered; what was offered is neither
-- above the configured current nor above the limit.
pub record IsContract (limit : ℕ) (supplies : List SupplyData) (c : Contract) : Type 0 where
  pub voltage : c.mv ≡ voltage_at supplies c.position
  pub requested : c.ma ≤ c.offered_ma
  pub configured : c.offered_ma ≤ current_at supplies c.position
  pub limited : c.offered_ma ≤ limit

-- the limit as it counts: of a cable of which no more is known, 3,000 mA
abbrev pub limit_in : SourceRecord → ℕ
limit_in r = unwrap_or r.limit cable_current

-- nothing is offered, accepted or agreed on
pub record HasNothing (r : SourceRecord) : Type 0 where
  pub draft : r.draft_offer ≡ []
  pub delivered : r.delivered_offer ≡ []
  pub accepted : r.accepted_request ≡ None
  pub contract : r.contract ≡ None

-- the states before the first offer after an attach or a hard reset
abbrev pub is_early : State → Bool
is_early s = among s (state.Off ∷ state.Startup ∷ state.VdmIdentityRequest ∷ state.HardReset ∷ state.HardResetReceived
    ∷ state.TransitionToDefault ∷ [])

abbrev pub is_transition : State → Bool
is_transition s = among s (state.TransitionSupply ∷ [])

-- what holds of the record at each step
pub record IsSound (s : SourceSettings) (r : SourceRecord) : Type 0 where
  pub limit : IsLimit r.limit
  pub draft : IsOffer (limit_in r) s.supplies r.draft_offer
  pub delivered : IsOffer (limit_in r) s.supplies r.delivered_offer
  pub accepted : (object : ℕ) → r.accepted_request ≡ Some object → is_valid r.delivered_offer object ≡ true
  pub contract : (c : Contract) → r.contract ≡ Some c → IsContract (limit_in r) s.supplies c
  pub accepted_in_transition : is_transition r.state ≡ false → r.accepted_request ≡ None
  pub nothing_early : is_early r.state ≡ true → HasNothing r

-- the answers to a query: to none, none; to an offer, such a one; to a power, whether it fits
abbrev pub IsAnswer : SourceSettings → Option Query → Option Answer → Type 0
IsAnswer s None a = a ≡ None
IsAnswer s (Some (query.Offer supplies limit_ma)) a =
    (currents : List ℕ) × AreOffered limit_ma s.supplies currents × (a ≡ Some (answer.Offer (record { items = currents })))
IsAnswer s (Some (query.Fits power)) a = (fits : Bool) × (a ≡ Some (answer.Fits fits))
IsAnswer s (Some (query.Keep power)) a = (stays : Bool) × (a ≡ Some (answer.Fits stays))

-- whether a limit is the one that a plug's answer tells
abbrev pub IsOfAnswer : Stimulus → Option ℕ → Type 0
IsOfAnswer (stimulus.Identity objects) limit = limit ≡ Some (limit_of objects.items)
IsOfAnswer _ limit = ⊥

-- What a step may do to the contract: it stays, falls, or is made of the accepted request and the delivered offer.
abbrev pub IsMade : SourceSettings → SourceRecord → Option Contract → Type 0
IsMade s r new =
    (new ≡ r.contract)
    ⊎ ((new ≡ None) ⊎ (new ≡ option_map (contract_of s.supplies r.delivered_offer) r.accepted_request))

-- What a step may do to the accepted request: it stays, falls, or is the kept request, which is valid and fits.
abbrev pub IsTaken : Option Answer → SourceRecord → Option ℕ → Type 0
IsTaken a r new =
    (new ≡ r.accepted_request)
    ⊎ ((new ≡ None) ⊎ ((new ≡ r.kept_request) × (is_request_valid r ≡ true) × (says_fits a ≡ true)))

-- What a step may do to the delivered offer: it stays, falls, or is the draft; the last not in Transition_Supply.
abbrev pub IsSettled : SourceRecord → List ℕ → Type 0
IsSettled r new =
    (new ≡ r.delivered_offer) ⊎ ((new ≡ []) ⊎ ((new ≡ r.draft_offer) × (is_transition r.state ≡ false)))
