-- A trial as a line of text: this product's own form, as docs/FORMATS.md has it under Sweep.
use Rattle.std.specs.Prelude.{ℕ, ◌+◌, ◌-◌, ◌==◌, ◌&&◌, nat_le, nat_lt, Bool, true, false, if◌then◌else◌, List, [], ◌∷◌, ◌++◌, codes}
use Rattle.std.specs.Prelude.{decimal, not, Option, Some, None, is_none, is_some}
use Rattle.std.specs.Option.{option_map_or}
use Rattle.pd_objects.specs.declared.contract.Contract.{Contract}
use Rattle.pd_edit_lines.specs.Numbers.{number_of}
use Rattle.pd_tell.specs.Words.{contract_words}
use Rattle.pd_sweep.specs.PacketTexts.{packets_words}
use Rattle.pd_sweep.specs.declared.effect.Effect.{Effect}
use Rattle.pd_sweep.specs.declared.findings.Findings.{Findings}
use Rattle.pd_sweep.specs.declared.makers.Makers.{Makers}
use Rattle.pd_sweep.specs.declared.measure.Extent.{Extent}
use Rattle.pd_sweep.specs.declared.measure.Extent.TheVariants.{Less, More, Until}
use Rattle.pd_sweep.specs.declared.measure.Measure.{Measure}
use Rattle.pd_sweep.specs.declared.summary.Mishaps.{Mishaps}
use Rattle.pd_sweep.specs.declared.trial.Outcome.{Outcome}
use Rattle.pd_sweep.specs.declared.trial.Outcome.TheVariants.{Ran, Missed, Disturbed}
use Rattle.pd_sweep.specs.declared.trial.Trial.{Trial}
use Rattle.pd_sweep.specs.declared.variant.Obstacle.{Obstacle}
use Rattle.pd_sweep.specs.declared.variant.Obstacle.TheVariants.{NoId, Refused}

-- ---- contracts

-- a contract, or none
abbrev pub standing_words : Option Contract → List ℕ
standing_words None = codes "no contract"
standing_words (Some c) = contract_words c

-- both are of one place of an offer, one voltage and one current, or none
abbrev pub is_same : Option Contract → Option Contract → Bool
is_same None None = true
is_same (Some a) (Some b) = a.position == b.position && a.mv == b.mv && a.ma == b.ma
is_same _ _ = false

-- the contract of a port in place of that without the loss, where it is another
abbrev pub instead_words : ℕ → Option Contract → Option Contract → List ℕ
instead_words port old new =
    if is_same old new then [] else codes " (port " ++ (decimal port ++ (codes ": " ++ (standing_words new ++ (codes ", was "
    ++ (standing_words old ++ codes ")")))))

-- those of all ports, from one on
unfoldable pub changes_from : ℕ → List (Option Contract) → List (Option Contract) → List ℕ
changes_from port [] news = []
changes_from port (old ∷ olds) [] = []
changes_from port (old ∷ olds) (new ∷ news) = instead_words port old new ++ changes_from (port + 1) olds news

-- whether the contracts of all ports are the same
abbrev pub are_same : List (Option Contract) → List (Option Contract) → Bool
are_same [] news = true
are_same (old ∷ olds) [] = true
are_same (old ∷ olds) (new ∷ news) = is_same old new && are_same olds news

-- no port's contract ever is another
abbrev pub are_steady : List Measure → Bool
are_steady [] = true
are_steady (m ∷ ms) = is_none m.until && are_steady ms

-- A contract is another at some instant, or at the end, or the least that is left of the budget is.
abbrev pub makes_difference : Findings → Effect → Bool
makes_difference old effect =
    not (are_steady effect.measures && are_same old.summary.standing.contracts effect.findings.summary.standing.contracts
    && old.margin.left == effect.findings.margin.left)

-- one of the three that are measured of a port
abbrev pub extent_of : Extent → Measure → ℕ
extent_of Less m = m.less
extent_of More m = m.more
extent_of Until m = option_map_or (λ t. t) m.until 0

abbrev pub others_words : List (Option Contract) → List (Option Contract) → List ℕ
others_words olds news = codes "other contracts" ++ changes_from 1 olds news

-- the contracts at the end beside those without the loss
abbrev pub contracts_words : List (Option Contract) → List (Option Contract) → List ℕ
contracts_words olds news = if are_same olds news then codes "same contracts" else others_words olds news

-- ---- numbers

-- how much more a number is than it was, or less
abbrev pub more_words : ℕ → ℕ → List ℕ
more_words old new = if nat_le old new then 43 ∷ decimal (new - old) else 45 ∷ decimal (old - new)

-- ---- lines

-- for how long something is so, where it ever is
abbrev pub time_words : List ℕ → ℕ → List ℕ
time_words words time = if time == 0 then [] else words ++ (decimal time ++ codes " us,")

-- for how long a port's power is less and for how long it is more, and until when its contract is another
abbrev pub measure_words : Measure → List ℕ
measure_words m =
    time_words (codes " less power for ") m.less ++ (time_words (codes " more power for ") m.more
    ++ (codes " differs until " ++ decimal (extent_of Until m)))

-- the ports whose contracts ever are others, from one on: the first behind some words, and each further one behind others
unfoldable pub ports_words : List ℕ → List ℕ → ℕ → List Measure → List ℕ
ports_words first next port [] = []
ports_words first next port (m ∷ ms) =
    if is_some m.until then first ++ (decimal port ++ (measure_words m ++ ports_words next next (port + 1) ms))
    else ports_words first next (port + 1) ms

-- how many more there are than there were, or less, where they aren't as many
abbrev pub others_counted : List ℕ → ℕ → ℕ → List ℕ
others_counted words old new = if old == new then [] else words ++ more_words old new

-- what stands before the Hard Resets: they are told behind the faults
abbrev pub resets_lead : ℕ → ℕ → List ℕ
resets_lead old new = if old == new then codes "; hard resets " else codes ", hard resets "

-- the faults and the Hard Resets, where they aren't as many
abbrev pub mishaps_words : Mishaps → Mishaps → List ℕ
mishaps_words old new =
    others_counted (codes "; faults ") old.faults new.faults
    ++ others_counted (resets_lead old.faults new.faults) old.hard_resets new.hard_resets

-- the ports that are marked, from one on: the first behind some words, and each further one behind others
unfoldable pub listed : List ℕ → List ℕ → ℕ → List Bool → List ℕ
listed first next port [] = []
listed first next port (true ∷ marks) = first ++ (decimal port ++ listed next next (port + 1) marks)
listed first next port (false ∷ marks) = listed first next (port + 1) marks

-- the ports whose contracts are made at an instant, if any are
abbrev pub makers_words : Makers → List ℕ
makers_words m = listed (codes " by port ") (codes " and port ") 1 m.ports

-- the first instant at which the least is left, and the ports whose contracts are made then
abbrev pub instant_words : ℕ → Makers → List ℕ
instant_words at makers = codes " at " ++ (decimal at ++ makers_words makers)

-- where it is less than without the loss
abbrev pub lower_words : Findings → Findings → List ℕ
lower_words old new = if nat_lt new.margin.left old.margin.left then instant_words new.margin.at new.makers else []

-- the least that is left of the budget at the end of an instant
abbrev pub margin_words : Findings → Findings → List ℕ
margin_words old new = codes "; least margin " ++ (decimal new.margin.left ++ lower_words old new)

-- the run in which a packet is lost beside the one in which it isn't
unfoldable pub effect_words : Findings → Effect → List ℕ
effect_words old effect =
    contracts_words old.summary.standing.contracts effect.findings.summary.standing.contracts
    ++ (ports_words (codes "; port ") (codes "; port ") 1 effect.measures
    ++ (mishaps_words old.summary.mishaps effect.findings.summary.mishaps ++ margin_words old effect.findings))

-- or that it makes no difference
abbrev pub quiet_words : Mishaps → Mishaps → List ℕ
quiet_words old new = codes "no difference" ++ mishaps_words old new

abbrev pub run_words : Findings → Effect → List ℕ
run_words old effect =
    if makes_difference old effect then effect_words old effect else quiet_words old.summary.mishaps effect.findings.summary.mishaps

-- why a packet can't be lost
abbrev pub obstacle_words : Obstacle → List ℕ
obstacle_words NoId = codes "no id is free"
obstacle_words (Refused fault) = codes "refused " ++ decimal (number_of fault)

abbrev pub outcome_words : Findings → Outcome → List ℕ
outcome_words old (Ran effect) = run_words old effect
outcome_words old Missed = codes "not hit"
outcome_words old Disturbed = codes "not tried: disturbed already"

-- a line
unfoldable pub trial_line : Findings → Trial → List ℕ
trial_line old trial = packets_words trial.packets ++ (codes ": " ++ (outcome_words old trial.outcome ++ codes "\n"))
