use Rattle.std.proofs.lemmas.List.{take_all}
use Rattle.std.proofs.lemmas.Result.{err_from_is_err_and}
use Rattle.pd_scenario_text.proofs.distinct.cable_names.Goals as goal

pub returns-in_err-push : goal.returns-in_err-push
returns-in_err-push c = let p = err_from_is_err_and c.from_residual.result c.from_residual.ensures.1 in rw p.1 tt

pub returns : goal.returns
returns c = rw (take_all c.loop-cable.cable-index c.args.cables.now c.loop-cable-test.false) at c.loop-cable.invariant
