use Rattle.pd_source.proofs.Objects.{Offers-object_of}
use Rattle.pd_source.proofs.laws.objects.Goals as goal

pub returns : goal.returns
returns c = Offers-object_of
