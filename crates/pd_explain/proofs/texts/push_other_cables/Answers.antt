use Rattle.std.proofs.lemmas.Result.{on_ok_weaker}
use Rattle.pd_scenario.specs.declared.named.NamedCable.{NamedCable}
use Rattle.pd_explain.proofs.Others.{both_told}
use Rattle.pd_explain.proofs.texts.push_other_cables.Goals as goal

pub returns : goal.returns
returns c =
    on_ok_weaker c.push_more.result
    (λ h. both_told (λ (x : NamedCable). x.name) c.args.others.now c.told_others.result.now c.args.text.now.items
    c.push_cable_words.new.text.items c.push_more.new.text.items c.told_others.ensures c.in_ok-push_cable_words.ensures h)
    c.push_more.ensures
