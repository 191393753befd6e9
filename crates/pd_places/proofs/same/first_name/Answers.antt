use Rattle.std.proofs.Common.{◌∙◌}
use Rattle.pd_places.proofs.Found.{position_text}
use Rattle.pd_places.proofs.same.first_name.Goals as goal

pub returns : goal.returns
returns c = c.position_of.ensures ∙ position_text c.args.name.now 0 c.args.names.now
