-- A trial as comma-separated values. What stands in quotation marks has none in it.
use Rattle.std.specs.Prelude.{ℕ, ◌==◌, nat_lt, List, [], ◌∷◌, ◌++◌, codes, decimal, fold, max, if◌then◌else◌, Option}
use Rattle.pd_symbols.specs.declared.channel.Channel.{Channel}
use Rattle.pd_header.specs.Header.{id_of}
use Rattle.pd_header.specs.Kinds.{kind_of_header, name_of}
use Rattle.pd_objects.specs.declared.contract.Contract.{Contract}
use Rattle.pd_tell.specs.Words.{side_words}
use Rattle.pd_sweep.specs.PacketTexts.{later_value}
use Rattle.pd_sweep.specs.Sets.{first_of}
use Rattle.pd_sweep.specs.Words.{are_same, contracts_words, extent_of, listed, makes_difference, ports_words}
use Rattle.pd_sweep.specs.declared.effect.Effect.{Effect}
use Rattle.pd_sweep.specs.declared.findings.Findings.{Findings}
use Rattle.pd_sweep.specs.declared.makers.Makers.{Makers}
use Rattle.pd_sweep.specs.declared.packets.Target.{Target}
use Rattle.pd_sweep.specs.declared.measure.Extent.{Extent}
use Rattle.pd_sweep.specs.declared.measure.Extent.TheVariants.{Less, More, Until}
use Rattle.pd_sweep.specs.declared.measure.Measure.{Measure}
use Rattle.pd_sweep.specs.declared.summary.Mishaps.{Mishaps}
use Rattle.pd_sweep.specs.declared.trial.Outcome.{Outcome}
use Rattle.pd_sweep.specs.declared.trial.Outcome.TheVariants.{Ran, Missed, Disturbed}
use Rattle.pd_sweep.specs.declared.trial.Trial.{Trial}
use Rattle.pd_sweep.specs.Names.{set_name, signed_text, truth}

-- the names of the values
abbrev pub first_names : List ℕ
first_names = codes "at_us,port,side,set,message,id,outcome,difference,same_contracts,contracts,ports,less_power_us,more_power_us,"

abbrev pub last_names : List ℕ
last_names = codes "differs_until_us,faults,hard_resets,least_margin_uw,lower_at_us,lower_ports,then\n"

-- a packet: its time, its port, who sends it, the ordered set, the message's name and its ID
abbrev pub message_values : Channel → ℕ → List ℕ
message_values channel header =
    codes "," ++ (set_name channel ++ (codes "," ++ (name_of (kind_of_header header) ++ (codes "," ++ decimal (id_of header)))))

abbrev pub packet_values : Target → List ℕ
packet_values t =
    decimal t.at ++ (codes "," ++ (decimal t.port ++ (codes "," ++ (side_words t.side ++ message_values t.channel t.header))))

-- whether the contracts at the end are the same, and in words which are others
unfoldable pub contracts_values : List (Option Contract) → List (Option Contract) → List ℕ
contracts_values olds news =
    codes "," ++ (truth (are_same olds news) ++ (codes ",\"" ++ (contracts_words olds news ++ codes "\"")))

-- how much more a number is than it was
abbrev pub more_value : ℕ → ℕ → List ℕ
more_value old new = 44 ∷ signed_text old new

abbrev pub mishaps_values : Mishaps → Mishaps → List ℕ
mishaps_values old new = more_value old.faults new.faults ++ more_value old.hard_resets new.hard_resets

-- the most of one of the measures over all ports
abbrev pub most_of : Extent → List Measure → ℕ
most_of extent measures = fold (λ most m. max most (extent_of extent m)) 0 measures

-- the last instant until which a contract is another; without one there is none
abbrev pub until_value : ℕ → List ℕ
until_value until = if until == 0 then codes "," else 44 ∷ decimal until

-- the ports whose contracts ever are others, in words, and the most of each measure
unfoldable pub measures_values : List Measure → List ℕ
measures_values measures =
    codes ",\"" ++ (ports_words (codes "port ") (codes "; port ") 1 measures ++ (codes "\"," ++ (decimal (most_of Less measures)
    ++ (44 ∷ (decimal (most_of More measures) ++ until_value (most_of Until measures))))))

-- the first instant at which the least is left, and the ports whose contracts are made then, with a space between them
abbrev pub instant_values : ℕ → Makers → List ℕ
instant_values at m = codes "," ++ (decimal at ++ (codes "," ++ listed [] (codes " ") 1 m.ports))

-- where it is less than without the loss
abbrev pub lower_values : Findings → Findings → List ℕ
lower_values old new =
    if nat_lt new.margin.left old.margin.left then instant_values new.margin.at new.makers else codes ",,"

abbrev pub margin_values : Findings → Findings → List ℕ
margin_values old new = codes "," ++ (decimal new.margin.left ++ lower_values old new)

abbrev pub findings_values : Findings → Findings → List ℕ
findings_values old new = mishaps_values old.summary.mishaps new.summary.mishaps ++ margin_values old new

abbrev pub run_values : Findings → Effect → List ℕ
run_values old effect =
    codes "," ++ (truth (makes_difference old effect)
    ++ (contracts_values old.summary.standing.contracts effect.findings.summary.standing.contracts
    ++ (measures_values effect.measures ++ findings_values old effect.findings)))

-- what comes of losing a packet; without a run twelve values are empty
abbrev pub hit_values : Findings → Effect → List ℕ
hit_values old effect = codes ",hit" ++ run_values old effect

abbrev pub outcome_values : Findings → Outcome → List ℕ
outcome_values old (Ran effect) = hit_values old effect
outcome_values old Missed = codes ",not_hit,,,,,,,,,,,,"
outcome_values old Disturbed = codes ",disturbed,,,,,,,,,,,,"

-- a row: the first packet, what comes of it, and the packets that are lost too
unfoldable pub trial_row : Findings → Trial → List ℕ
trial_row old trial =
    packet_values (first_of trial.packets)
    ++ (outcome_values old trial.outcome ++ (later_value trial.packets ++ codes "\n"))
