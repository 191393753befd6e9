use Rattle.std.proofs.Common.{◌≡◌, ◌∙◌, ℕ, List, Result, Ok, Err, sym, ap}
use Rattle.std.specs.List.{flat_map}
use Rattle.std.proofs.lemmas.Result.{on_ok_weaker}
use Rattle.pd_misfits.specs.Spots.{FileData}
use Rattle.toml.specs.View.{table_view}
use Rattle.pd_scenario_tables.specs.declared.fault.ScenarioFault.{ScenarioFault}
use Rattle.pd_scenario_tables.specs.Ports.{counted}
use Rattle.pd_scenario_text.specs.FileTables.{Tables, tables_of}
use Rattle.pd_places.specs.FirstLines.{added}
use Rattle.pd_places.specs.Places.{counted_text, other_text, refusal_text, top_refusals}
use Rattle.pd_places.proofs.FirstLines.{both_added}
use Rattle.pd_places.proofs.places.push_places.Goals as goal

-- where the ports can't be counted
not_counted : (text one two : List ℕ) (file : FileData) (d : Tables) (refusal : ScenarioFault) (r : Result ℕ ScenarioFault)
    → r ≡ Err refusal
    → one ≡ added text (refusal_text file refusal d) → two ≡ added one (flat_map (other_text file refusal d) top_refusals)
    → two ≡ added text (counted_text file d r)
not_counted text one two file d refusal r is first others =
    both_added text one two (refusal_text file refusal d) (flat_map (other_text file refusal d) top_refusals) first others
    ∙ ap (λ s. added text (counted_text file d s)) (sym is)

pub returns-in_ok-push_refusal-in-Err : goal.returns-in_ok-push_refusal-in-Err
returns-in_ok-push_refusal-in-Err c =
    on_ok_weaker c.push_others.result
    (λ h. not_counted c.args.told.now c.push_refusal.new.told c.push_others.new.told c.args.file.now
    (tables_of (table_view c.args.top.now)) c.in-Err.fault (counted (table_view c.args.top.now)) (sym c.counted.ensures
    ∙ c.in-Err.is) c.in_ok-push_refusal-in-Err.ensures h)
    c.push_others.ensures
