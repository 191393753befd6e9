use Rattle.std.proofs.lemmas.Result.{on_ok_weaker}
use Rattle.pd_explain.specs.Sentences.{id_text}
use Rattle.pd_explain.proofs.Others.{both_told}
use Rattle.pd_explain.proofs.texts.push_other_ids.Goals as goal

pub returns : goal.returns
returns c =
    on_ok_weaker c.push_more.result
    (λ h. both_told id_text c.args.others.now c.told_others.result.now c.args.text.now.items
    c.push_id_words.new.text.items c.push_more.new.text.items c.told_others.ensures c.in_ok-push_id_words.ensures h)
    c.push_more.ensures
