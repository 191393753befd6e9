use Rattle.std.proofs.Common.{ap, drop, take, ◌∙◌}
use Rattle.std.proofs.lemmas.List.{drop_min, take_min}
use Rattle.pd_sweep.proofs.part.within.Goals as goal

pub returns : goal.returns
returns c =
    c.split_at-2.ensures.front ∙ ap (λ i. take i c.split_at.result.1.now) c.min-2.ensures
    ∙ take_min c.args.part.count c.split_at.result.1.now
    ∙ ap (take c.args.part.count)
    (c.split_at.ensures.back ∙ ap (λ i. drop i c.args.targets.now) c.min.ensures ∙ drop_min c.args.part.first c.args.targets.now)
