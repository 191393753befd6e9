use Rattle.std.proofs.Common.{◌≡◌, ◌++◌, ◌∙◌, List, ap, sym}
use Rattle.std.specs.Prelude.{true}
use Rattle.std.specs.List.{flat_map}
use Rattle.std.proofs.lemmas.List.{append-nil}
use Rattle.pd_chart.specs.Elements.{Element, element_text}
use Rattle.pd_draw.specs.Marks.{joins, start_figure, start_mark}
use Rattle.pd_draw.proofs.MarkLemmas.{joined_elements, joined_lane}
use Rattle.pd_draw.proofs.moves.push_started.Goals as goal

pub returns-then-joins-clause-text : goal.returns-then-joins-clause-text
returns-then-joins-clause-text c =
    let h : joins c.args.place c.args.lane.now (start_figure c.args.start.now) ≡ true =
    ap (joins c.args.place c.args.lane.now) (sym c.start_figure-figure.ensures) ∙ sym c.joins.ensures ∙ c.if-joins.true in
    sym (ap (λ (v : List Element). c.args.text.now.items ++ flat_map element_text v)
    (joined_elements c.args.place c.args.lane.now (start_mark c.args.by c.args.start.now) h) ∙ append-nil c.args.text.now.items)

pub returns-then-joins-clause-lane : goal.returns-then-joins-clause-lane
returns-then-joins-clause-lane c =
    let h : joins c.args.place c.args.lane.now (start_figure c.args.start.now) ≡ true =
    ap (joins c.args.place c.args.lane.now) (sym c.start_figure-figure.ensures) ∙ sym c.joins.ensures ∙ c.if-joins.true in
    sym (joined_lane c.args.place c.args.lane.now (start_mark c.args.by c.args.start.now) h)
