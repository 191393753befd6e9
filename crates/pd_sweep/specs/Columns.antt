-- The summary of a sweep as a JSON object.
use Rattle.std.specs.Prelude.{ℕ, ◌-◌, ◌==◌, if◌then◌else◌, List, [], ◌++◌, codes, decimal, Option, Some, None}
use Rattle.pd_tell.specs.Members.{number_member}
use Rattle.pd_sweep.specs.declared.tally.Lowest.{Lowest}
use Rattle.pd_sweep.specs.declared.tally.Tally.{Tally}
use Rattle.pd_sweep.specs.declared.tally.Worst.{Worst}
use Rattle.pd_sweep.specs.declared.tally.WorstOn.{WorstOn}
use Rattle.pd_sweep.specs.Objects.{instant_members}
use Rattle.pd_sweep.specs.PacketTexts.{packets_members}

-- how many sets of more than one packet were lost, where any was
abbrev pub sets_member : ℕ → List ℕ
sets_member sets = if sets == 0 then [] else number_member (codes "sets") sets

-- how many packets were lost alone, how many sets, how many of the runs differ, and how many end with other contracts
abbrev pub counts_members : Tally → List ℕ
counts_members tally =
    number_member (codes "packets") (tally.tried - tally.sets) ++ (sets_member tally.sets
    ++ (number_member (codes "different") tally.different ++ number_member (codes "other_contracts") tally.changed))

-- a column's worst: how much more there is, and the packet
abbrev pub worst_object : Worst → List ℕ
worst_object w = codes "{\"more\":" ++ (decimal w.by ++ (packets_members w.packets ++ codes "}"))

abbrev pub worst_json : Option Worst → List ℕ
worst_json None = codes "null"
worst_json (Some w) = worst_object w

unfoldable pub worst_member : List ℕ → Option Worst → List ℕ
worst_member key worst = codes ",\"" ++ (key ++ (codes "\":" ++ worst_json worst))

-- that of a measure of a port: how much it is, behind its key, the port, and the packet
abbrev pub worst_on_object : List ℕ → WorstOn → List ℕ
worst_on_object by w =
    codes "{\"" ++ (by ++ (codes "\":" ++ (decimal w.by ++ (number_member (codes "of_port") w.port
    ++ (packets_members w.packets ++ codes "}")))))

abbrev pub worst_on_json : List ℕ → Option WorstOn → List ℕ
worst_on_json by None = codes "null"
worst_on_json by (Some w) = worst_on_object by w

unfoldable pub worst_on_member : List ℕ → List ℕ → Option WorstOn → List ℕ
worst_on_member key by worst = codes ",\"" ++ (key ++ (codes "\":" ++ worst_on_json by worst))

abbrev pub columns_members : Tally → List ℕ
columns_members tally =
    worst_on_member (codes "longest_less_power") (codes "less_power_us") tally.less
    ++ (worst_on_member (codes "latest_difference") (codes "differs_until_us") tally.until
    ++ (worst_member (codes "most_faults") tally.faults ++ worst_member (codes "most_hard_resets") tally.hard_resets))

-- the least that a loss leaves, when, and by which ports
abbrev pub lowest_object : Lowest → List ℕ
lowest_object l =
    codes "{\"least_margin_uw\":" ++ (decimal l.margin.left ++ (instant_members l.margin.at l.makers
    ++ (packets_members l.packets ++ codes "}")))

abbrev pub lowest_json : Option Lowest → List ℕ
lowest_json None = codes "null"
lowest_json (Some l) = lowest_object l

unfoldable pub lowest_member : List ℕ → Option Lowest → List ℕ
lowest_member key lowest = codes ",\"" ++ (key ++ (codes "\":" ++ lowest_json lowest))

-- in how many runs less is left than so many milliwatts, where that is asked
abbrev pub less_members : ℕ → ℕ → List ℕ
less_members mw short = number_member (codes "reserve_mw") mw ++ number_member (codes "left_less") short

abbrev pub short_members : Option ℕ → ℕ → List ℕ
short_members None short = []
short_members (Some mw) short = less_members mw short

abbrev pub tally_members : Option ℕ → Tally → List ℕ
tally_members reserve tally =
    counts_members tally ++ (columns_members tally ++ (lowest_member (codes "least_margin") tally.margin
    ++ short_members reserve tally.short))

-- an object, and the end of its line
unfoldable pub tally_object : Option ℕ → Tally → List ℕ
tally_object reserve tally = codes "{\"kind\":\"summary\"" ++ (tally_members reserve tally ++ codes "}\n")
