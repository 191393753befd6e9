-- What holds of each port's source in a run, and so of its contract.
use Rattle.std.specs.Prelude.{◌≡◌, ◌≢◌, ◌≤◌, ℕ, ◌-◌, true, List, ◌∷◌, ◌++◌, All, Some, None, slice_get}
use Rattle.pd_identity.specs.Identity.{rated}
use Rattle.pd_identity.specs.declared.Cable.{Cable}
use Rattle.pd_objects.specs.declared.contract.Contract.{Contract}
use Rattle.pd_source.specs.declared.kinds.State.TheVariants as state
use Rattle.pd_source.specs.Request.{voltage_at, contract_of}
use Rattle.pd_source.specs.Sound.{IsContract, limit_in}
use Rattle.pd_source.specs.Table.{is_request_valid, says_fits}
use Rattle.pd_port.specs.Sound.{IsSoundPort}
use Rattle.pd_scenario.specs.Plan.{Plan, settings_of}
use Rattle.pd_run.specs.Run.{Move, Run, standing, after}

-- after these moves each port's source is sound
abbrev pub AreSound : Plan → List Move → Type 0
AreSound plan moves = (p : ℕ) → IsSoundPort (settings_of plan p) (standing plan moves p).state

-- after these moves each contract is of one of its port's supplies, at its voltage, and for no more than was offered; what was
-- offered is neither above the configured current nor above the limit that the source knows of its cable
abbrev pub AreContracts : Plan → List Move → Type 0
AreContracts plan moves =
    (p : ℕ) (c : Contract) → (standing plan moves p).state.source.contract ≡ Some c →
    IsContract (limit_in (standing plan moves p).state.source) (settings_of plan p).supplies c

-- a move accepts a request: before it none was accepted, the request was kept and valid in the offer that was delivered by
-- then, and it fits
pub record Accepts (plan : Plan) (m : Move) (object : ℕ) : Type 0 where
  pub none_before : m.before.source.accepted_request ≡ None
  pub kept : m.before.source.kept_request ≡ Some object
  pub valid : is_request_valid m.before.source ≡ true
  pub fits : says_fits m.answer ≡ true
  pub accepted : (after plan m).source.accepted_request ≡ Some object

-- a move makes a contract of the request that is accepted before it: it leads to Ready, and the request is accepted no more
pub record Makes (plan : Plan) (m : Move) (object : ℕ) (c : Contract) : Type 0 where
  pub accepted : m.before.source.accepted_request ≡ Some object
  pub ready : (after plan m).source.state ≡ state.Ready
  pub contract : (after plan m).source.contract ≡ Some c
  pub used : (after plan m).source.accepted_request ≡ None

-- a move leaves a contract in force and makes none: where a request is accepted before it, it doesn't lead to Ready
pub record LeavesInForce (plan : Plan) (m : Move) (c : Contract) : Type 0 where
  pub contract : (after plan m).source.contract ≡ Some c
  pub none_made : (object : ℕ) → m.before.source.accepted_request ≡ Some object → (after plan m).source.state ≢ state.Ready

-- after each of these moves that is of the port, the request is accepted
abbrev pub StaysAccepted : Plan → ℕ → ℕ → List Move → Type 0
StaysAccepted plan p object moves = All (λ m. m.port ≡ p → (after plan m).source.accepted_request ≡ Some object) moves

-- each of these moves that is of the port leaves the contract in force and makes none
abbrev pub StaysInForce : Plan → ℕ → Contract → List Move → Type 0
StaysInForce plan p c moves = All (λ m. m.port ≡ p → LeavesInForce plan m c) moves

-- A contract is of its offer. One of these moves is of its port and accepted the request that the contract is of; the
-- request stayed accepted up to a move that made the contract, which has been in force since, and none was made after it. In
-- the record before the move that accepted, the delivered offer has at the contract's position the offered current; the
-- voltage is that of the supply there, and the contract's current is at most the offered one.
pub record IsOfOffer (plan : Plan) (moves : List Move) (p : ℕ) (c : Contract) : Type 0 where
  pub earlier : List Move
  pub move : Move
  pub between : List Move
  pub making : Move
  pub since : List Move
  pub among : moves ≡ earlier ++ move ∷ (between ++ making ∷ since)
  pub on_port : move.port ≡ p
  pub object : ℕ
  pub accepts : Accepts plan move object
  pub accepted : StaysAccepted plan p object between
  pub made_on_port : making.port ≡ p
  pub makes : Makes plan making object c
  pub in_force : StaysInForce plan p c since
  pub is_of : c ≡ contract_of (settings_of plan p).supplies move.before.source.delivered_offer object
  pub offered : slice_get move.before.source.delivered_offer (c.position - 1) ≡ Some c.offered_ma
  pub voltage : c.mv ≡ voltage_at (settings_of plan p).supplies c.position
  pub within : c.ma ≤ c.offered_ma

-- after these moves each contract is of its offer
abbrev pub ContractsAreWithinOffers : Plan → List Move → Type 0
ContractsAreWithinOffers plan moves =
    (p : ℕ) (c : Contract) → (standing plan moves p).state.source.contract ≡ Some c → IsOfOffer plan moves p c

-- after these moves a cable is attached wherever there is a contract, and the contract's current is at most what it is rated at
abbrev pub ContractsAreRated : Plan → List Move → Type 0
ContractsAreRated plan moves =
    (p : ℕ) (c : Contract) → (standing plan moves p).state.source.contract ≡ Some c →
    (cable : Cable) × ((standing plan moves p).state.cable ≡ Some cable) × (c.ma ≤ rated cable)

-- So it is at each place of a run.
pub record StaysSound (plan : Plan) (moves : List Move) : Type 0 where
  pub sources : (done rest : List Move) → moves ≡ done ++ rest → AreSound plan done
  pub contracts : (done rest : List Move) → moves ≡ done ++ rest → AreContracts plan done
  pub offers : (done rest : List Move) → moves ≡ done ++ rest → ContractsAreWithinOffers plan done
  pub rated : (done rest : List Move) → moves ≡ done ++ rest → ContractsAreRated plan done

abbrev pub RunsAreSound : Type 0
RunsAreSound = (plan : Plan) (moves : List Move) → Run plan moves → StaysSound plan moves
