use Rattle.pd_expect.proofs.XmlLemmas.{texts_stay_inside}
use Rattle.pd_expect.proofs.laws.texts_stay_inside.Goals as goal

pub returns : goal.returns
returns c = texts_stay_inside
