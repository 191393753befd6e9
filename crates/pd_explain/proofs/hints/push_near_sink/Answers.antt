use Rattle.std.proofs.Common.{◌∙◌, sym}
use Rattle.pd_hints.specs.Slips.{is_slip}
use Rattle.pd_hints.proofs.SlipLemmas.{find-map}
use Rattle.pd_scenario.specs.declared.named.NamedSink.{NamedSink}
use Rattle.pd_explain.proofs.hints.push_near_sink.Goals as goal

pub returns : goal.returns
returns c =
    let e =
    c.near_sink_name.ensures ∙ sym (find-map (is_slip c.args.name.now) (λ (x : NamedSink). x.name) c.args.sinks.now) in
    rw e at c.push_meant.ensures
