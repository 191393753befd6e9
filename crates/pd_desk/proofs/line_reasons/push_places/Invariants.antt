use Rattle.std.proofs.Common.{◌≡◌, ◌++◌, take}
use Rattle.std.specs.List.{flat_map}
use Rattle.pd_explain.specs.declared.place.Reason.{Reason}
use Rattle.pd_explain.specs.Lines.{place_line}
use Rattle.pd_desk.proofs.line_reasons.push_places.Given as goal

abbrev pub invariant-loop-reason : goal.invariant-loop-reason
invariant-loop-reason g l =
    l.text.items
    ≡ l.initial.text.items ++ flat_map (λ (r : Reason). place_line l.front g.row.N l.scenario r.place) (take l.reason-index l.reasons)
