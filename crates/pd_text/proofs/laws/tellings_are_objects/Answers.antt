use Rattle.pd_text.proofs.JsonLemmas.{tellings_are_objects}
use Rattle.pd_text.proofs.laws.tellings_are_objects.Goals as goal

pub returns : goal.returns
returns c = tellings_are_objects
