use Rattle.std.proofs.Common.{rules, ◌++◌, ◌∷◌, [], ◌∙◌, ap}
use Rattle.pd_show.proofs.PageLemmas.{more_pad}
use Rattle.pd_show.proofs.page.push_more.Goals as goal

pub returns : goal.returns
returns c =
    c.in_ok-extend_from_slice-2.ensures.items ∙ ap (λ v. v ++ c.as_bytes-digits.result.now)
    (c.in_ok-push.ensures.items ∙ ap (λ v. v ++ 43 ∷ []) c.in_ok-extend_from_slice.ensures.items)
    ∙ more_pad c.args.text.now.items c.as_bytes-digits.result.now c.saturating_sub-pad.result c.args.number (search rules) (search rules)
