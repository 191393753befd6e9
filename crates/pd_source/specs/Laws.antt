-- Laws of the source's policy engine.
use Rattle.std.specs.Prelude.{◌≡◌, ℕ, ◌≤◌, ◌*◌, ◌%◌, max, Bool, true, false, if◌then◌else◌, Option, Some, None, ◌⊎◌}
use Rattle.arrayvec.specs.ArrayVec.{ArrayVec}
use Rattle.pd_symbols.specs.Words.{field}
use Rattle.pd_timers.specs.Deadlines.{SetsLater}
use Rattle.pd_timers.specs.Table.{are_numbered_from}
use Rattle.pd_objects.specs.declared.query.Answer.{Answer}
use Rattle.pd_objects.specs.declared.query.Query.TheVariants as query
use Rattle.pd_objects.specs.Answers.{IsAllowed}
use Rattle.pd_objects.specs.Supply.{SupplyData, IsSupply}
use Rattle.pd_source.specs.declared.kinds.State.TheVariants as state
use Rattle.pd_source.specs.declared.kinds.Stimulus.{Stimulus}
use Rattle.pd_source.specs.declared.kinds.Stimulus.TheVariants as stimulus
use Rattle.pd_source.specs.Record.{SourceSettings, SourceRecord, off, cable_current}
use Rattle.pd_source.specs.Table.{table}
use Rattle.pd_source.specs.Acts.{object_of}
use Rattle.pd_source.specs.Sound.{IsSound, IsAnswer, IsOfAnswer, limit_in, IsMade, IsTaken, IsSettled}
use Rattle.pd_source.specs.Step.{before_row, stepped, acts_of, query_of, hold_of}

-- each row's number is its place in the table, from 1
abbrev pub RowsAreNumbered : Type 0
RowsAreNumbered = are_numbered_from 1 table ≡ true

-- after a step, each deadline that runs ran before it, and wasn't the one that fell due, or is later than the step
abbrev pub StepsSetLater : Type 0
StepsSetLater =
    (s : SourceSettings) (now : ℕ) (x : Stimulus) (a : Option Answer) (r : SourceRecord) →
    SetsLater now (before_row x r).deadlines (stepped s now x a r).deadlines

-- where the engine asks nothing, no answer matters
abbrev pub StepsReadOnlyTheirAnswer : Type 0
StepsReadOnlyTheirAnswer =
    (s : SourceSettings) (now : ℕ) (x : Stimulus) (a b : Option Answer) (r : SourceRecord) →
    query_of s x r ≡ None →
    (stepped s now x a r ≡ stepped s now x b r) × (acts_of s now x a r ≡ acts_of s now x b r)

-- a hold is at least the floor
abbrev pub HoldsKeepTheFloor : Type 0
HoldsKeepTheFloor = (s : SourceSettings) (floor : ℕ) (r : SourceRecord) → floor ≤ hold_of s floor r

-- a detached port holds its floor
abbrev pub HoldsOfDetachedAreFloors : Type 0
HoldsOfDetachedAreFloors = (s : SourceSettings) (floor : ℕ) → hold_of s floor (off s) ≡ floor

-- after a step with an answer that so much free power allows, a hold is no more than is free, or than it was
abbrev pub HoldsStayAllowed : Type 0
HoldsStayAllowed =
    (s : SourceSettings) (floor free now : ℕ) (x : Stimulus) (a : Option Answer) (r : SourceRecord) →
    IsAllowed free (query_of s x r) a → hold_of s floor (stepped s now x a r) ≤ max free (hold_of s floor r)

-- an offer is asked for under the limit that the step leaves
abbrev pub OffersAskUnderTheLimit : Type 0
OffersAskUnderTheLimit =
    (s : SourceSettings) (now : ℕ) (x : Stimulus) (a : Option Answer) (r : SourceRecord) (supplies : ArrayVec SupplyData) (limit : ℕ) →
    query_of s x r ≡ Some (query.Offer supplies limit) → limit_in (stepped s now x a r) ≡ limit

-- a limit is the one before, or that of each cable, or the one that a plug's answer tells
abbrev pub LimitsAreOfAnswers : Type 0
LimitsAreOfAnswers =
    (s : SourceSettings) (now : ℕ) (x : Stimulus) (a : Option Answer) (r : SourceRecord) →
    ((stepped s now x a r).limit ≡ r.limit)
    ⊎ (((stepped s now x a r).limit ≡ Some cable_current) ⊎ IsOfAnswer x (stepped s now x a r).limit)

abbrev pub is_attach : Stimulus → Bool
is_attach stimulus.Attach = true
is_attach x = false

-- a source that is off stays off until a sink is attached
abbrev pub OffStaysOff : Type 0
OffStaysOff =
    (s : SourceSettings) (now : ℕ) (x : Stimulus) (a : Option Answer) (r : SourceRecord) →
    is_attach x ≡ false → r.state ≡ state.Off → (stepped s now x a r).state ≡ state.Off

-- What holds of the record at each step: from the start, and after each step with an answer to what was asked.
abbrev pub TheStartIsSound : Type 0
TheStartIsSound = (s : SourceSettings) → IsSound s (off s)

abbrev pub StepsStaySound : Type 0
StepsStaySound =
    (s : SourceSettings) (now : ℕ) (x : Stimulus) (a : Option Answer) (r : SourceRecord) →
    IsSound s r → IsAnswer s (query_of s x r) a → IsSound s (stepped s now x a r)

-- what becomes of the contract, of the accepted request and of the delivered offer in a step
abbrev pub ContractsAreMade : Type 0
ContractsAreMade =
    (s : SourceSettings) (now : ℕ) (x : Stimulus) (a : Option Answer) (r : SourceRecord) → IsMade s r (stepped s now x a r).contract

abbrev pub RequestsAreTaken : Type 0
RequestsAreTaken =
    (s : SourceSettings) (now : ℕ) (x : Stimulus) (a : Option Answer) (r : SourceRecord) →
    IsTaken a r (stepped s now x a r).accepted_request

abbrev pub OffersAreSettled : Type 0
OffersAreSettled =
    (s : SourceSettings) (now : ℕ) (x : Stimulus) (a : Option Answer) (r : SourceRecord) →
    IsSettled r (stepped s now x a r).delivered_offer

-- in a step in which a request is accepted the delivered offer stays
abbrev pub AcceptingKeepsTheOffer : Type 0
AcceptingKeepsTheOffer =
    (s : SourceSettings) (now : ℕ) (x : Stimulus) (a : Option Answer) (r : SourceRecord) →
    ((stepped s now x a r).delivered_offer ≡ r.delivered_offer)
    ⊎ (((stepped s now x a r).accepted_request ≡ r.accepted_request) ⊎ ((stepped s now x a r).accepted_request ≡ None))

-- An object of Source_Capabilities offers a supply at a current in mA: a fixed supply, of its voltage and this current.
-- Bit 27 tells whether the power is unconstrained; no other flag is set, and there is no peak current.
pub record Offers (w : ℕ) (unconstrained : Bool) (supply : SupplyData) (ma : ℕ) : Type 0 where
  pub fixed : field w 31 30 ≡ 0
  pub no_dual_role_no_suspend : field w 29 28 ≡ 0
  pub unconstrained_power : field w 27 27 ≡ (if unconstrained then 1 else 0)
  pub no_other_flag : field w 26 22 ≡ 0
  pub no_peak_current : field w 21 20 ≡ 0
  pub voltage : field w 19 10 * 50 ≡ supply.mv
  pub current : field w 9 0 * 10 ≡ ma

-- what is sent for a supply offers it, at each current up to its greatest, in steps of 10 mA
abbrev pub ObjectsOfferTheirSupplies : Type 0
ObjectsOfferTheirSupplies =
    (unconstrained : Bool) (supply : SupplyData) (ma : ℕ) →
    IsSupply supply → ma ≤ supply.ma → ma % 10 ≡ 0 → Offers (object_of unconstrained supply ma) unconstrained supply ma
