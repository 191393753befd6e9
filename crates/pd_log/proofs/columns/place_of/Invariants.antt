use Rattle.std.proofs.Common.{◌≡◌, ◌+◌, ◌≤◌, length}
use Rattle.std.specs.Prelude.{option_map}
use Rattle.std.specs.List.{position_from}
use Rattle.pd_log.specs.Cells.{cells, cells_behind}
use Rattle.pd_log.specs.Columns.{is_named, place_of}
use Rattle.pd_log.proofs.CellByCell.{size}
use Rattle.pd_log.proofs.columns.place_of.Given as goal

abbrev pub invariant-loop-behind : goal.invariant-loop-behind
invariant-loop-behind l =
    (position_from (is_named l.column) l.place (cells_behind l.separator (option_map (λ rest. rest.now) l.behind))
    ≡ place_of l.column (cells l.separator l.line))
    × (l.place + size (option_map (λ rest. rest.now) l.behind) ≤ length l.line + 1)

abbrev pub decreases-loop-behind : goal.decreases-loop-behind
decreases-loop-behind l = size (option_map (λ rest. rest.now) l.behind)
