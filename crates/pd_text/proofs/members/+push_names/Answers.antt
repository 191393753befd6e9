use Rattle.std.proofs.lemmas.Result.{on_ok_weaker}
use Rattle.pd_text.proofs.NameLemmas.{listed_first}
use Rattle.pd_text.proofs.members.+push_names.Goals as goal

pub returns : goal.returns
returns t c =
    on_ok_weaker c.push_next_names.result
    (λ h. listed_first c.args.names.now _ _ _ _ c.in-len1-up.len_at_least c.if-not-name.false c.in_ok-push_quoted.ensures h)
    c.push_next_names.ensures
