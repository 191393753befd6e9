use Rattle.std.proofs.Common.{◌++◌, codes}
use Rattle.std.proofs.lemmas.Result.{on_ok_weaker}
use Rattle.pd_scenario_text.specs.Names.{texts}
use Rattle.pd_places.specs.Same.{same_ids_text, same_names_text}
use Rattle.pd_places.proofs.FirstLines.{both_added}
use Rattle.pd_places.proofs.same.push_same_values.Goals as goal

pub returns : goal.returns
returns c =
    let spot = c.args.spot.now in
    let cables = same_names_text spot (codes "cable") (texts c.args.cables.now) in
    let sinks = same_names_text spot (codes "sink") (texts c.args.sinks.now) in
    let ids = same_ids_text spot c.args.ids.now in
    let told = c.push_same_names.new.told in
    let told' = c.push_same_names-2.new.told in
    on_ok_weaker c.push_same_ids.result
    (λ last. both_added c.args.told.now told c.push_same_ids.new.told cables (sinks ++ ids) c.in_ok-push_same_names.ensures
    (both_added told told' c.push_same_ids.new.told sinks ids c.in_ok-push_same_names-2.ensures last))
    c.push_same_ids.ensures
