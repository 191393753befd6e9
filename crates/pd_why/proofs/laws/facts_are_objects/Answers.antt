use Rattle.pd_why.proofs.ObjectLemmas.{facts_are_objects}
use Rattle.pd_why.proofs.laws.facts_are_objects.Goals as goal

pub returns : goal.returns
returns c = facts_are_objects
