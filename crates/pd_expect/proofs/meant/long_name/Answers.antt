use Rattle.std.proofs.Common.{◌∙◌, ap, sym, option_map}
use Rattle.pd_expect.specs.Stops.{is_short_for}
use Rattle.pd_hints.proofs.SlipLemmas.{find-map}
use Rattle.pd_expect.proofs.meant.long_name.Goals as goal

pub returns : goal.returns
returns c = ap (option_map _) c.first_long.ensures ∙ sym (find-map (is_short_for c.args.word.now) _ c.args.names.now)
