-- What holds of expectations.
use Rattle.std.specs.Prelude.{◌≡◌, ℕ, ◌<◌, ◌≤◌, true, List, MatchBool}
use Rattle.std.specs.List.{list_all}
use Rattle.pd_port.specs.declared.entry.Entry.{Entry}
use Rattle.pd_scenario.specs.Plan.{Plan}
use Rattle.pd_report.specs.LeastMargin.{margin_at}
use Rattle.pd_expect.specs.Sentences.{IsFound, is_met}
use Rattle.pd_expect.specs.Xml.{escaped, is_inner}
use Rattle.pd_expect.specs.declared.found.Found.{Found}
use Rattle.pd_expect.specs.declared.lines.Expectation.TheVariants as expect

-- An expectation of a margin is met exactly where at the end of each instant, up to the end, so much is left of the budget.
abbrev pub MarginsAreMet : Type 0
MarginsAreMet =
    (plan : Plan) (moves : List (ℕ × Entry)) (line : List ℕ) (least : ℕ) (what : Found) →
    IsFound plan moves line (expect.Margin least) what →
    MatchBool (is_met (expect.Margin least) what) ((t : ℕ) → t ≤ plan.end → least ≤ margin_at plan moves t)
    ((t : ℕ) × (t ≤ plan.end) × (margin_at plan moves t < least))

-- No text that is put into a report ends what it stands in: no byte of it begins or ends an element or an attribute.
abbrev pub TextsStayInside : Type 0
TextsStayInside = (text : List ℕ) → list_all is_inner (escaped text) ≡ true
