-- What is told of a charger holds in each run of each of its plans.
use Rattle.std.specs.Prelude.{◌≡◌, ◌⊎◌, ◌<◌, ◌≤◌, ℕ, true, List, [], ◌∷◌, ◌++◌, Some}
use Rattle.pd_header.specs.Kinds.{kind_of_header}
use Rattle.pd_header.specs.declared.kind.Kind.TheVariants.{SourceCapabilities}
use Rattle.pd_header.specs.declared.side.Side.TheVariants.{Source}
use Rattle.pd_packet.specs.Contents.{Contents}
use Rattle.pd_packet.specs.declared.fate.Fate.{Fate}
use Rattle.pd_objects.specs.Supply.{SupplyData}
use Rattle.pd_source.specs.Sound.{limit_in}
use Rattle.pd_line.specs.declared.notes.Start.TheVariants.{Packet}
use Rattle.pd_port.specs.Happens.{is_budget}
use Rattle.pd_port.specs.Port.{hold}
use Rattle.pd_ledger.specs.Account.{free_of}
use Rattle.pd_ledger.specs.Offer.{offered}
use Rattle.pd_scenario.specs.Plan.{Plan, IsPlan, count, settings_of}
use Rattle.pd_scenario.specs.Plans.{plan_of}
use Rattle.pd_scenario.specs.Scenarios.{ScenarioData}
use Rattle.pd_run.specs.Run.{Move, Run, account_after, after, standing}
use Rattle.pd_run.specs.Sheds.{Sheds}
use Rattle.pd_why.specs.Laws.{IsOfLastOffer, IsSentAgain, offer_in}
use Rattle.pd_guarantee.specs.Charger.{Charger, IsOf, IsSameCharger, charger_of}
use Rattle.pd_guarantee.specs.Bounds.{five_amperes, free_at_least, free_at_most, greatest_hold, kept_up_to, three_amperes}

-- ---- which scenarios

-- the plan of each scenario of the same charger is one of the charger's, its own among them
abbrev pub PlansAreOfTheCharger : Type 0
PlansAreOfTheCharger = (s other : ScenarioData) → IsSameCharger s other → IsOf (charger_of s) (plan_of other)

-- P holds at each place of each run of each plan of the charger: of the plan and the moves before that place
abbrev pub InRunsOf : Charger → (Plan → List Move → Type 0) → Type 0
InRunsOf c P = (plan : Plan) (moves done rest : List Move) → IsOf c plan → Run plan moves → moves ≡ done ++ rest → P plan done

-- ---- what ports hold, and what is free

-- no port ever holds more than its greatest hold
abbrev pub HoldsAreBounded : Type 0
HoldsAreBounded = (c : Charger) → InRunsOf c (λ plan done. (p : ℕ)
    → hold (settings_of plan p) (standing plan done p).state ≤ greatest_hold (settings_of plan p))

-- a number is one from another to a third
pub record IsBetween (least most n : ℕ) : Type 0 where
  pub no_less : least ≤ n
  pub no_more : n ≤ most

-- at each time what is free to a port is between the least and the most that is told, whatever the other ports do
abbrev pub FreePowerIsBounded : Type 0
FreePowerIsBounded = (c : Charger) → InRunsOf c (λ plan done. (p at : ℕ) → p < count plan → at ≤ plan.end
    → IsBetween (free_at_least c p) (free_at_most c p) (free_of (account_after plan done at) p))

-- ---- offers

-- each current in mA is one from what its supply is offered at where so little power is free, under a limit, to what it is offered at
-- where so much is
abbrev pub AreBetween : ℕ → ℕ → ℕ → List SupplyData → List ℕ → Type 0
AreBetween least most limit [] [] = Unit {0}
AreBetween least most limit (s ∷ ss) (ma ∷ mas) =
    IsBetween (offered least limit s) (offered most limit s) ma × AreBetween least most limit ss mas
AreBetween least most limit _ _ = ⊥

-- Currents are offered in a move within what is told of its port: under the limit that its source knows of the cable then, which is that
-- of a cable of 5 A or of another.
pub record IsBounded (c : Charger) (plan : Plan) (m : Move) (currents : List ℕ) : Type 0 where
  pub limit : (limit_in (after plan m).source ≡ five_amperes) ⊎ (limit_in (after plan m).source ≡ three_amperes)
  pub between : AreBetween (free_at_least c m.port) (free_at_most c m.port) (limit_in (after plan m).source)
      (settings_of plan m.port).supplies currents

-- so it is of each offer that a port makes
abbrev pub OffersAreBounded : Type 0
OffersAreBounded = (c : Charger) (plan : Plan) (moves past rest : List Move) (m : Move) → IsOf c plan → Run plan moves
    → moves ≡ past ++ m ∷ rest → (currents : List ℕ) → offer_in plan m ≡ Some currents → IsBounded c plan m currents

-- the objects of Source_Capabilities are of the last offer of their port, which is within what is told
pub record AreBoundedObjects (c : Charger) (plan : Plan) (moves : List Move) (p : ℕ) (objects : List ℕ) : Type 0 where
  pub of : IsOfLastOffer plan moves p objects
  pub bounded : IsBounded c plan of.last.offering of.currents

-- So are those of each Source_Capabilities on the line, but for one that was there before and is sent again.
abbrev pub CapabilitiesAreBounded : Type 0
CapabilitiesAreBounded = (c : Charger) (plan : Plan) (moves past rest : List Move) (m : Move) → IsOf c plan → Run plan moves
    → moves ≡ past ++ m ∷ rest → (packet : Contents) (fate : Fate) → m.entry.start ≡ Some (Packet Source packet fate)
    → kind_of_header packet.header ≡ SourceCapabilities
    → IsSentAgain Source m.due.what m.before packet ⊎ AreBoundedObjects c plan (past ++ m ∷ []) m.port packet.objects

-- ---- changes of the budget

-- in this move a port isn't shed, and its source stays as it is, with its contract and its offers
pub record IsKept (plan : Plan) (m : Move) : Type 0 where
  pub not_shed : Sheds m → ⊥
  pub source : (after plan m).source ≡ m.before.source

-- no change of the budget takes from a port what it holds, up to what is told
abbrev pub HoldsAreKept : Type 0
HoldsAreKept = (n : ℕ) (c : Charger) (plan : Plan) (moves past rest : List Move) (m : Move) → IsPlan n plan → IsOf c plan
    → Run plan moves → moves ≡ past ++ m ∷ rest → is_budget m.due.what ≡ true
    → hold (settings_of plan m.port) m.before ≤ kept_up_to c m.port → IsKept plan m
