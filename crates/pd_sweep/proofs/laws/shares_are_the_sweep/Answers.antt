use Rattle.pd_sweep.proofs.ShareLemmas.{shares_are_the_sweep, shares_cover_once}
use Rattle.pd_sweep.proofs.laws.shares_are_the_sweep.Goals as goal

pub returns-clause-places : goal.returns-clause-places
returns-clause-places c = shares_cover_once

pub returns-clause-trials : goal.returns-clause-trials
returns-clause-trials c = shares_are_the_sweep
