use Rattle.pd_sweep.proofs.WholeLemmas.{parts_join, short_part_is_whole}
use Rattle.pd_sweep.proofs.laws.parts_are_the_sweep.Goals as goal

pub returns-clause-join : goal.returns-clause-join
returns-clause-join c = parts_join

pub returns-clause-whole : goal.returns-clause-whole
returns-clause-whole c = short_part_is_whole
