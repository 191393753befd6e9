-- Where moves stand among the moves of a run.
use Rattle.std.specs.Prelude.{◌≡◌, ◌⊎◌, ℕ, ◌<◌}
use Rattle.pd_port.specs.declared.due.Due.{Due}
use Rattle.pd_port.specs.declared.due.What.{What}
use Rattle.pd_port.specs.declared.due.What.TheVariants as what
use Rattle.pd_scenario.specs.Plan.{number_of}
use Rattle.pd_keep.specs.declared.rank.Rank.{Rank}

-- the number of what falls due: that of an event, and one above all of those for what is no event
abbrev pub number_due : What → ℕ
number_due (what.Event e) = number_of e.happening
number_due _ = 4294967295

-- where a port's move for a due stands
abbrev pub rank_of : ℕ → Due → Rank
rank_of port d = record { time = d.time; port = port; number = number_due d.what }

-- by its time, then by its port, and then by that number
abbrev pub IsBefore : Rank → Rank → Type 0
IsBefore a b =
    (a.time < b.time) ⊎ ((a.time ≡ b.time) × ((a.port < b.port) ⊎ ((a.port ≡ b.port) × (a.number < b.number))))
