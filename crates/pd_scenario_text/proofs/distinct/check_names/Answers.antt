use Rattle.std.proofs.Common.{◌≡◌, ◌∙◌, sym, ap, true}
use Rattle.pd_scenario.specs.Scenarios.{names_differ}
use Rattle.pd_scenario_text.specs.Names.{texts, cable_names, sink_names, Has}
use Rattle.pd_scenario_text.proofs.Found.{checked}
use Rattle.pd_scenario_text.proofs.distinct.check_names.Goals as goal

pub returns : goal.returns
returns c =
    let ct : texts c.deref.result.now ≡ cable_names c.args.cables.now = ap texts c.deref.ensures.value ∙ c.in_ok-cable_names.ensures in
    let st : texts c.deref-2.result.now ≡ sink_names c.args.sinks.now = ap texts c.deref-2.ensures.value ∙ c.in_ok-sink_names.ensures in
    let cd : true ≡ names_differ (cable_names c.args.cables.now) = rw (c.in-Some.is, ct) at c.in_ok-cables.ensures.differ in
    let sd : true ≡ names_differ (sink_names c.args.sinks.now) = rw (c.in-Some-2.is, st) at c.in_ok-sinks.ensures.differ in
    let cm : Has (cable_names c.args.cables.now) c.in-Some.cables = rw (c.in-Some.is, ct) at c.in_ok-cables.ensures.members in
    let sm : Has (sink_names c.args.sinks.now) c.in-Some-2.sinks = rw (c.in-Some-2.is, st) at c.in_ok-sinks.ensures.members in
    checked c.args.cables.now c.args.sinks.now c.args.events.now c.in-Some.cables c.in-Some-2.sinks c.all_are_in.result cm sm (sym cd)
    (sym sd) (sym c.in_ok-ids_differ.ensures ∙ c.if-not-branch.false) c.all_are_in.ensures
