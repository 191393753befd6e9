use Rattle.std.proofs.Common.{◌∙◌}
use Rattle.std.specs.List.{flat_map}
use Rattle.std.proofs.lemmas.List.{at_drop_all, at_drop_more}
use Rattle.toml.specs.View.{table_view}
use Rattle.pd_scenario_text.specs.FileTables.{tables_of}
use Rattle.pd_places.specs.FirstLines.{added}
use Rattle.pd_places.specs.Places.{other_text}
use Rattle.pd_places.proofs.FirstLines.{more_parts, no_bytes}
use Rattle.pd_places.proofs.places.push_others.Goals as goal

pub loop-other-preserved : goal.loop-other-preserved
loop-other-preserved c =
    more_parts (other_text c.args.file.now c.args.fault (tables_of (table_view c.args.top.now))) _ c.loop-other.told _ _ _
    (c.loop-other.invariant
    ∙ at_drop_more (λ xs. added c.loop-other.told (flat_map (other_text c.args.file.now c.args.fault (tables_of
    (table_view c.args.top.now))) xs)) c.args.others.now c.loop-other.other-index _
    c.loop-other-test.true)
    c.in_ok-push_other.ensures

pub returns : goal.returns
returns c =
    no_bytes _ c.loop-other.told
    (c.loop-other.invariant
    ∙ at_drop_all (λ xs. added c.loop-other.told (flat_map (other_text c.args.file.now c.args.fault (tables_of
    (table_view c.args.top.now))) xs)) c.args.others.now c.loop-other.other-index
    c.loop-other-test.false)
