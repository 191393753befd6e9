use Rattle.std.proofs.Common.{◌∙◌, sym}
use Rattle.pd_scenario_tables.proofs.Members.{are_rising-short}
use Rattle.pd_scenario_tables.proofs.values.are_rising.Goals as goal

pub returns : goal.returns
returns c = sym (are_rising-short c.loop-rest.rest.now c.in_default.len_below) ∙ c.loop-rest.invariant
