use Rattle.std.proofs.Common.{◌∙◌, ap, sym, option_map}
use Rattle.pd_hints.specs.Slips.{is_slip}
use Rattle.pd_hints.proofs.SlipLemmas.{find-map}
use Rattle.pd_hints.proofs.slip.nearest.Goals as goal

pub returns : goal.returns
returns c = ap (option_map _) c.first_near.ensures ∙ sym (find-map (is_slip c.args.word.now) _ c.args.others.now)
