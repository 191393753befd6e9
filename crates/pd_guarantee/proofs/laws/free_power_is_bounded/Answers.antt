use Rattle.pd_guarantee.proofs.Free.{free_power_is_bounded}
use Rattle.pd_guarantee.proofs.laws.free_power_is_bounded.Goals as goal

pub returns : goal.returns
returns c = free_power_is_bounded
