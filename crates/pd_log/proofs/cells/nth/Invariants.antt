use Rattle.std.proofs.Common.{◌≡◌, ◌∷◌}
use Rattle.std.specs.Prelude.{option_map}
use Rattle.pd_log.specs.Cells.{cells, cells_behind, nth}
use Rattle.pd_log.proofs.cells.nth.Given as goal

abbrev pub invariant-loop-left : goal.invariant-loop-left
invariant-loop-left l =
    nth l.left (l.cell ∷ cells_behind l.separator (option_map (λ rest. rest.now) l.behind)) ≡ nth l.place (cells l.separator l.line)

abbrev pub decreases-loop-left : goal.decreases-loop-left
decreases-loop-left l = l.left
