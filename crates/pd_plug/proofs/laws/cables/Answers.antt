use Rattle.pd_plug.proofs.Cables.{sends_of_cables}
use Rattle.pd_plug.proofs.laws.cables.Goals as goal

pub returns : goal.returns
returns c = sends_of_cables
