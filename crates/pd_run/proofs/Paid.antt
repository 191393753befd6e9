-- A run that is stepped whole is paid for.
use Rattle.std.proofs.Common.{◌≡◌, ℕ, List, length, Option, refl, ap, ◌∙◌}
use Rattle.std.proofs.lemmas.List.{length-map}
use Rattle.pd_port.specs.declared.entry.Entry.{Entry}
use Rattle.pd_port.specs.Meter.{raised}
use Rattle.pd_scenario.specs.Plan.{Plan}
use Rattle.pd_run.specs.Run.{shown}
use Rattle.pd_run.specs.Shown.{Shows}
use Rattle.pd_run.specs.Cost.{IsPaid, CostsAllMoves}

pub paid_whole : (old : Option Plan) (plan : Plan) (entries : List (ℕ × Entry)) (before after : ℕ) → Shows plan entries
    → after ≡ raised before (length entries) → IsPaid CostsAllMoves old plan before after
paid_whole old plan entries before after shows cost =
    let count : length entries ≡ length shows.moves = ap length shows.entries_are ∙ length-map shows.moves shown in
    (length shows.moves, (shows.moves, shows.safe.run, refl), cost ∙ ap (raised before) count)
