-- A trial as a JSON object, and the summary of all: the keys of a shown run, with a number's unit at the end of its key.
use Rattle.std.specs.Prelude.{ℕ, ◌+◌, nat_lt, Bool, List, [], ◌∷◌, ◌++◌, codes, decimal, if◌then◌else◌, Option, Some, None, is_some}
use Rattle.pd_objects.specs.declared.contract.Contract.{Contract}
use Rattle.pd_tell.specs.Members.{number_member, text_member}
use Rattle.pd_sweep.specs.PacketTexts.{packets_members}
use Rattle.pd_sweep.specs.Words.{are_same, extent_of, is_same, listed, makes_difference}
use Rattle.pd_sweep.specs.declared.effect.Effect.{Effect}
use Rattle.pd_sweep.specs.declared.findings.Findings.{Findings}
use Rattle.pd_sweep.specs.declared.makers.Makers.{Makers}
use Rattle.pd_sweep.specs.declared.measure.Extent.TheVariants.{Until}
use Rattle.pd_sweep.specs.declared.measure.Measure.{Measure}
use Rattle.pd_sweep.specs.declared.summary.Mishaps.{Mishaps}
use Rattle.pd_sweep.specs.declared.trial.Outcome.{Outcome}
use Rattle.pd_sweep.specs.declared.trial.Outcome.TheVariants.{Ran, Missed, Disturbed}
use Rattle.pd_sweep.specs.declared.trial.Trial.{Trial}
use Rattle.pd_sweep.specs.Names.{signed_text, truth}

-- ---- members, each behind a comma

-- whether something holds, behind its key
unfoldable pub flag_member : List ℕ → Bool → List ℕ
flag_member key b = codes ",\"" ++ (key ++ (codes "\":" ++ truth b))

-- how much more a number is than it was, behind its key
unfoldable pub signed_member : List ℕ → ℕ → ℕ → List ℕ
signed_member key old new = codes ",\"" ++ (key ++ (codes "\":" ++ signed_text old new))

-- ---- contracts at the end

abbrev pub contract_object : Contract → List ℕ
contract_object c =
    codes "{\"position\":" ++ (decimal c.position ++ (number_member (codes "voltage_mv") c.mv
    ++ (number_member (codes "current_ma") c.ma ++ codes "}")))

abbrev pub contract_json : Option Contract → List ℕ
contract_json None = codes "null"
contract_json (Some c) = contract_object c

-- the contract of a port, and that without the loss
unfoldable pub change_object : ℕ → Option Contract → Option Contract → List ℕ
change_object port old new =
    codes "{\"port\":" ++ (decimal port ++ (codes ",\"contract\":" ++ (contract_json new ++ (codes ",\"was\":"
    ++ (contract_json old ++ codes "}")))))

-- those of the ports that have another contract, from one port on: the first behind some words, and each further one behind a comma
unfoldable pub change_objects : List ℕ → ℕ → List (Option Contract) → List (Option Contract) → List ℕ
change_objects lead port [] news = []
change_objects lead port (old ∷ olds) [] = []
change_objects lead port (old ∷ olds) (new ∷ news) =
    if is_same old new then change_objects lead (port + 1) olds news
    else lead ++ (change_object port old new ++ change_objects (codes ",") (port + 1) olds news)

unfoldable pub changes_member : List (Option Contract) → List (Option Contract) → List ℕ
changes_member olds news = codes ",\"contracts\":[" ++ (change_objects [] 1 olds news ++ codes "]")

-- ---- the time over which contracts are others

-- a port whose contract ever is another
unfoldable pub port_object : ℕ → Measure → List ℕ
port_object port m =
    codes "{\"port\":" ++ (decimal port ++ (number_member (codes "less_power_us") m.less
    ++ (number_member (codes "more_power_us") m.more ++ (number_member (codes "differs_until_us") (extent_of Until m) ++ codes "}"))))

-- these ports, from one on: the first behind some words, and each further one behind a comma
unfoldable pub port_objects : List ℕ → ℕ → List Measure → List ℕ
port_objects lead port [] = []
port_objects lead port (m ∷ ms) =
    if is_some m.until then lead ++ (port_object port m ++ port_objects (codes ",") (port + 1) ms)
    else port_objects lead (port + 1) ms

unfoldable pub measures_member : List Measure → List ℕ
measures_member measures = codes ",\"ports\":[" ++ (port_objects [] 1 measures ++ codes "]")

-- ---- the run in which a packet is lost beside the one in which it isn't

abbrev pub mishaps_members : Mishaps → Mishaps → List ℕ
mishaps_members old new =
    signed_member (codes "faults") old.faults new.faults ++ signed_member (codes "hard_resets") old.hard_resets new.hard_resets

abbrev pub contracts_members : List (Option Contract) → List (Option Contract) → List ℕ
contracts_members olds news = flag_member (codes "same_contracts") (are_same olds news) ++ changes_member olds news

-- the ports whose contracts are made at an instant
unfoldable pub ports_member : Makers → List ℕ
ports_member m = codes ",\"lower_ports\":[" ++ (listed [] (codes ",") 1 m.ports ++ codes "]")

-- the first instant at which the least is left, and the ports whose contracts are made then
abbrev pub instant_members : ℕ → Makers → List ℕ
instant_members at makers = number_member (codes "lower_at_us") at ++ ports_member makers

-- where it is less than without the loss
abbrev pub lower_members : Findings → Findings → List ℕ
lower_members old new =
    if nat_lt new.margin.left old.margin.left then instant_members new.margin.at new.makers
    else codes ",\"lower_at_us\":null,\"lower_ports\":[]"

abbrev pub margin_members : Findings → Findings → List ℕ
margin_members old new = number_member (codes "least_margin_uw") new.margin.left ++ lower_members old new

abbrev pub findings_members : Findings → Findings → List ℕ
findings_members old new = mishaps_members old.summary.mishaps new.summary.mishaps ++ margin_members old new

abbrev pub run_members : Findings → Effect → List ℕ
run_members old effect =
    flag_member (codes "difference") (makes_difference old effect)
    ++ (contracts_members old.summary.standing.contracts effect.findings.summary.standing.contracts
    ++ (measures_member effect.measures ++ findings_members old effect.findings))

-- ---- what comes of losing a packet

abbrev pub hit_members : Findings → Effect → List ℕ
hit_members old effect = text_member (codes "outcome") (codes "hit") ++ run_members old effect

abbrev pub outcome_members : Findings → Outcome → List ℕ
outcome_members old (Ran effect) = hit_members old effect
outcome_members old Missed = text_member (codes "outcome") (codes "not_hit")
outcome_members old Disturbed = text_member (codes "outcome") (codes "disturbed")

-- an object, and the end of its line
unfoldable pub trial_object : Findings → Trial → List ℕ
trial_object old trial =
    codes "{\"kind\":\"packet\"" ++ (packets_members trial.packets ++ (outcome_members old trial.outcome ++ codes "}\n"))
