-- What is told of the moves of a port: of an offer what bounds it, and then what comes of it.
use Rattle.std.specs.Prelude.{ℕ, ◌+◌, Bool, true, false, if◌then◌else◌, List, [], ◌∷◌, ◌++◌, map, Option, Some, None}
use Rattle.pd_objects.specs.Supply.{SupplyData}
use Rattle.pd_objects.specs.declared.query.Query.{Query}
use Rattle.pd_objects.specs.declared.query.Query.TheVariants as query
use Rattle.pd_objects.specs.declared.query.Answer.{Answer}
use Rattle.pd_objects.specs.declared.query.Answer.TheVariants as answer
use Rattle.pd_source.specs.declared.kinds.State.{State}
use Rattle.pd_source.specs.declared.kinds.State.TheVariants as state
use Rattle.pd_line.specs.declared.notes.Fault.{Fault}
use Rattle.pd_line.specs.declared.notes.Fault.TheVariants as fault
use Rattle.pd_port.specs.declared.entry.ContractChange.{ContractChange}
use Rattle.pd_port.specs.declared.entry.Entry.{Entry}
use Rattle.pd_why.specs.declared.fact.Fact.{Fact}
use Rattle.pd_why.specs.declared.fact.Fact.TheVariants as fact
use Rattle.pd_why.specs.declared.holder.Holder.{Holder}
use Rattle.pd_why.specs.declared.known.Known.{Known}
use Rattle.pd_why.specs.declared.look.Look.{Look}
use Rattle.pd_why.specs.declared.look.Share.{Share}
use Rattle.pd_why.specs.Bounds.{bounds_of}
use Rattle.pd_why.specs.Cables.{how_known}
use Rattle.pd_why.specs.Known.{pulls_out}
use Rattle.pd_why.specs.Requests.{started_facts}

-- what another port holds
abbrev pub hold_fact : Holder → Fact
hold_fact h = fact.Hold h.port h.hold h.maker

-- what bounds the supplies of an offer, from a position on
abbrev pub supply_facts : ℕ → ℕ → ℕ → List SupplyData → List ℕ → List Fact
supply_facts free limit position [] currents = []
supply_facts free limit position (s ∷ more) [] = []
supply_facts free limit position (s ∷ more) (ma ∷ others) =
    fact.Supply position (bounds_of free limit s ma) ∷ supply_facts free limit (position + 1) more others

-- how the budget is shared, and what is free to the port
abbrev pub share_facts : Look → Share → List Fact
share_facts look share =
    fact.Offer look.entry.at look.port share.budget ∷ (map hold_fact share.others.items
    ++ fact.Free look.port share.free look.floor ∷ [])

-- what bounds an offer: the budget, the other ports' holds, what is free, the cable, and of each supply its bounds
abbrev pub offer_facts : Look → Known → List SupplyData → ℕ → List ℕ → Share → List Fact
offer_facts look known supplies limit currents share =
    share_facts look share
    ++ (fact.Cable limit (how_known look.tries known.cable) look.tries ∷ supply_facts share.free limit 1 supplies currents)

-- whether the power of a request fits, and what is free
abbrev pub fits_facts : ℕ → Option Query → Option Answer → Option Share → List Fact
fits_facts at (Some (query.Fits power)) (Some (answer.Fits fits)) (Some share) = fact.Fits at power fits share.free ∷ []
fits_facts at q a share = []

-- what went wrong in a negotiation; what a request tells itself, and events that did nothing, are left out
abbrev pub wrong_facts : ℕ → List Fault → List Fact
wrong_facts at [] = []
wrong_facts at (fault.Ignored id ∷ faults) = wrong_facts at faults
wrong_facts at (fault.Mismatch ∷ faults) = wrong_facts at faults
wrong_facts at (fault.CableUnread ∷ faults) = wrong_facts at faults
wrong_facts at (f ∷ faults) = fact.Wrong at f ∷ wrong_facts at faults

abbrev pub contract_facts : ℕ → Option ContractChange → List Fact
contract_facts at None = []
contract_facts at (Some change) = fact.Contract at change ∷ []

abbrev pub detach_facts : Entry → List Fact
detach_facts e = if pulls_out e then fact.Detached e.at ∷ [] else []

-- what comes of an offer: whether a request fits, what goes wrong, what becomes of the contract, whether the cable is pulled out, and
-- what the sink asks for
abbrev pub later_facts : Look → Known → List Fact
later_facts look known =
    fits_facts look.entry.at look.entry.query look.answer look.share ++ (wrong_facts look.entry.at look.entry.faults.items
    ++ (contract_facts look.entry.at look.entry.contract ++ (detach_facts look.entry
    ++ started_facts look.entry.at look.again known.wish look.entry.start)))

-- a move makes an offer where its source goes to the state that sends one, with currents of the shared budget
abbrev pub offers_in : State → Bool
offers_in state.SendCapabilities = true
offers_in s = false
