use Rattle.pd_objects.specs.FixedSupply.{word_of}
use Rattle.pd_objects.proofs.FixedSupplies.{HasFields-word_of, fixed_supply_of-word}
use Rattle.pd_objects.proofs.laws.fixed_supplies_come_back.Goals as goal

pub returns : goal.returns
returns c = λ v h. (HasFields-word_of v h, fixed_supply_of-word (word_of v) v (HasFields-word_of v h))
