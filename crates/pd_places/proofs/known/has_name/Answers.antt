use Rattle.std.proofs.Common.{◌∙◌}
use Rattle.pd_places.proofs.Found.{any_text}
use Rattle.pd_places.proofs.known.has_name.Goals as goal

pub returns : goal.returns
returns c = c.is_one_of.ensures ∙ any_text c.args.name.now c.args.names.now
