use Rattle.std.proofs.Common.{refl}
use Rattle.pd_content.proofs.laws.fields_are_the_objects.Goals as goal

pub returns : goal.returns
returns c = λ w. record { supply = refl; sink_supply = refl; request = refl }
